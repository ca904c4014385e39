-- The kinds of what functions give whose result always has one kind.
use Rattle.std.proofs.Common.{◌≡◌, ℕ, ℤ, Bool, true, false, List, [], ◌∷◌, map, Option, Some, None, Result, Ok, Err, refl, subst, ◌∙◌, if◌then◌else◌}
use Rattle.std.specs.List.{flat_map}
use Rattle.std.proofs.lemmas.Bool.{and_from}
use Rattle.std.proofs.lemmas.List.Folds.{list_all-append}
use Rattle.esql_types.specs.declared.value.Value.{Value}
use Rattle.esql_types.specs.declared.value.Value.TheVariants.{Int, Long as LongValue, Bool as BooleanValue, Text as KeywordValue}
use Rattle.esql_types.specs.declared.value.Kind.{Kind}
use Rattle.esql_types.specs.declared.value.Kind.TheVariants.{Integer, Long, Boolean, Keyword}
use Rattle.esql_types.specs.Values.{kind_of_value}
use Rattle.esql_types.specs.declared.cause.Cause.TheVariants as cause
use Rattle.esql_types.specs.declared.names.NodeId.{NodeId}
use Rattle.number_rules.specs.declared.Comparison.TheVariants as comparison
use Rattle.number_rules.specs.Ranges.{fits_integer}
use Rattle.number_rules.specs.Spelled.{spelled_integer, spelled_long}
use Rattle.function_rules.specs.Logic.{and_of, or_of, not_of, any_of}
use Rattle.function_rules.specs.Texts.{split_of, substring_of, joined}
use Rattle.esql_plan.specs.declared.function.Function.{Function}
use Rattle.esql_plan.specs.declared.function.Function.TheVariants as function
use Rattle.esql_plan.specs.Rules as rules
use Rattle.esql_plan.specs.Rules.{Rule, Given, Arguments, are, null, several, arguments_of, given_arguments, given_each, given_list, given_membership, first_cell, later_cells, truth_in, truth_given, is_item, number_of, text_of}
use Rattle.esql_plan.specs.Functions.{of_one, of_two, of_three, of_one_truth, of_two_truths, alone, as_it_is, comparison_rule, like_rule, not_like_rule, rlike_rule, not_rlike_rule, integer_rule, long_rule, boolean_rule, string_rule, spelled_as, length_rule, concat_rule, substring_rule, substring_given, left_rule, right_rule, trim_rule, ltrim_rule, rtrim_rule, starts_with_rule, ends_with_rule, replace_rule, split_rule, split_by, count_rule, concat_list_rule}
use Rattle.esql_plan.specs.Values.{Valued, cells_of, applied, applied_by}
use Rattle.esql_plan.specs.Signatures.{Gives, always, of_values, of_numbers, signature_of, same_kind}
use Rattle.esql_plan.specs.Fits.{has_kind}

-- a rule gives a cell of the kind
abbrev Stays : Kind → Given → Type 0
Stays kind own = has_kind kind own.cell ≡ true

abbrev Keeps : Kind → Rule → Type 0
Keeps kind rule = (node : NodeId) (parts : List Valued) → has_kind kind (applied_by rule node parts).cell ≡ true

module _ (kind : Kind) where
  arguments_stay : (function : List Value → Given) → ((values : List Value) → Stays kind (function values)) → (these : Arguments) → Stays kind (given_arguments function these)
  arguments_stay function stays (are values) = stays values
  arguments_stay function stays null = refl
  arguments_stay function stays several = refl

  single : (function : List Value → Given) → ((values : List Value) → Stays kind (function values)) → Keeps kind (rules.singles function)
  single function stays node parts = arguments_stay function stays (arguments_of (cells_of parts))

  one_stays : (rule : Value → Given) → ((value : Value) → Stays kind (rule value)) → (values : List Value) → Stays kind (of_one rule values)
  one_stays rule stays [] = refl
  one_stays rule stays (first ∷ []) = stays first
  one_stays rule stays (first ∷ second ∷ rest) = refl

  two_stays : (rule : Value → Value → Given) → ((first second : Value) → Stays kind (rule first second)) → (values : List Value) → Stays kind (of_two rule values)
  two_stays rule stays [] = refl
  two_stays rule stays (first ∷ []) = refl
  two_stays rule stays (first ∷ second ∷ []) = stays first second
  two_stays rule stays (first ∷ second ∷ third ∷ rest) = refl

  three_stays : (rule : Value → Value → Value → Given) → ((first second third : Value) → Stays kind (rule first second third)) → (values : List Value) → Stays kind (of_three rule values)
  three_stays rule stays [] = refl
  three_stays rule stays (first ∷ []) = refl
  three_stays rule stays (first ∷ second ∷ []) = refl
  three_stays rule stays (first ∷ second ∷ third ∷ []) = stays first second third
  three_stays rule stays (first ∷ second ∷ third ∷ fourth ∷ rest) = refl

  one : (rule : Value → Given) → ((value : Value) → Stays kind (rule value)) → Keeps kind (rules.singles (of_one rule))
  one rule stays = single (of_one rule) (one_stays rule stays)

  two : (rule : Value → Value → Given) → ((first second : Value) → Stays kind (rule first second)) → Keeps kind (rules.singles (of_two rule))
  two rule stays = single (of_two rule) (two_stays rule stays)

  each_stays : (function : Value → Given) → ((value : Value) → Stays kind (function value)) → (cell : List Value) → Stays kind (given_each function cell)
  each_stays function stays [] = refl
  each_stays function stays (value ∷ rest) =
      list_all-append (λ (value : Value). same_kind (kind_of_value value) kind) (function value).cell (flat_map (λ (value : Value). (function value).cell) rest)
      ∙ and_from (has_kind kind (function value).cell) (has_kind kind (flat_map (λ (value : Value). (function value).cell) rest)) (stays value) (each_stays function stays rest)

  converts : (function : Value → Given) → ((value : Value) → Stays kind (function value)) → Keeps kind (rules.each function)
  converts function stays node parts = each_stays function stays (first_cell (cells_of parts))

  list_stays : (function : List Value → List Value → Given) → ((list values : List Value) → Stays kind (function list values)) → (list : List Value) (cells : List (List Value)) → Stays kind (given_list function list cells)
  list_stays function stays [] cells = refl
  list_stays function stays (value ∷ rest) cells = arguments_stay (function (value ∷ rest)) (stays (value ∷ rest)) (arguments_of cells)

  listed : (function : List Value → List Value → Given) → ((list values : List Value) → Stays kind (function list values)) → Keeps kind (rules.list_and_singles function)
  listed function stays node parts = list_stays function stays (first_cell (cells_of parts)) (later_cells (cells_of parts))

  alone_stays : (rule : List Value → Given) → ((list : List Value) → Stays kind (rule list)) → (list values : List Value) → Stays kind (alone rule list values)
  alone_stays rule stays list [] = stays list
  alone_stays rule stays list (value ∷ rest) = refl

truth_stays : (truth : Option Bool) → has_kind Boolean (truth_given truth) ≡ true
truth_stays None = refl
truth_stays (Some truth) = refl

logical : (function : List (Option Bool) → Option Bool) → Keeps Boolean (rules.logic function)
logical function node parts = truth_stays (function (map truth_in (cells_of parts)))

member_stays : (function : Option Bool → Option Bool) (left : List Value) (items : List (List Value)) → Stays Boolean (given_membership function left items)
member_stays function [] items = refl
member_stays function (left ∷ []) items = truth_stays (function (any_of (map (is_item left) items)))
member_stays function (left ∷ next ∷ rest) items = refl

member : (function : Option Bool → Option Bool) → Keeps Boolean (rules.membership function)
member function node parts = member_stays function (first_cell (cells_of parts)) (later_cells (cells_of parts))

integer_stays : (value : Value) → Stays Integer (integer_rule value)
integer_stays (Int number) = refl
integer_stays (LongValue number) = elim (fits_integer number) as (λ b. Stays Integer (if b then rules.given_one (Int number) else rules.failed (cause.OutOfInteger number))) [ true ↦ refl | false ↦ refl ]
integer_stays (BooleanValue truth) = refl
integer_stays (KeywordValue text) = elim (spelled_integer text) as (λ spelled. Stays Integer (spelled_as true text spelled)) [ None ↦ refl | Some number ↦ refl ]

long_stays : (value : Value) → Stays Long (long_rule value)
long_stays (Int number) = refl
long_stays (LongValue number) = refl
long_stays (BooleanValue truth) = refl
long_stays (KeywordValue text) = elim (spelled_long text) as (λ spelled. Stays Long (spelled_as false text spelled)) [ None ↦ refl | Some number ↦ refl ]

boolean_stays : (value : Value) → Stays Boolean (boolean_rule value)
boolean_stays (Int number) = refl
boolean_stays (LongValue number) = refl
boolean_stays (BooleanValue truth) = refl
boolean_stays (KeywordValue text) = refl

string_stays : (value : Value) → Stays Keyword (string_rule value)
string_stays (Int number) = refl
string_stays (LongValue number) = refl
string_stays (BooleanValue truth) = refl
string_stays (KeywordValue text) = refl

cut_stays : (cut : Result (List ℕ) ℤ) → Stays Keyword (substring_given cut)
cut_stays (Ok text) = refl
cut_stays (Err length) = refl

substring_stays : (values : List Value) → Stays Keyword (substring_rule values)
substring_stays [] = refl
substring_stays (text ∷ []) = refl
substring_stays (text ∷ start ∷ []) = refl
substring_stays (text ∷ start ∷ length ∷ []) = cut_stays (substring_of (text_of text) (number_of start) (number_of length))
substring_stays (text ∷ start ∷ length ∷ more ∷ rest) = refl

texts_stay : (texts : List (List ℕ)) → has_kind Keyword (map KeywordValue texts) ≡ true
texts_stay [] = refl
texts_stay (text ∷ texts) = texts_stay texts

split_stays : (text delimiter : List ℕ) → Stays Keyword (split_by text delimiter)
split_stays text [] = refl
split_stays text (byte ∷ bytes) = texts_stay (split_of text (byte ∷ bytes))

-- the function gives a cell of the kind that its result always has
abbrev GivesAlways : Function → Gives → Type 0
GivesAlways function (always kind) = (node : NodeId) (parts : List Valued) → has_kind kind (applied function node parts).cell ≡ true
GivesAlways function of_values = Unit {0}
GivesAlways function of_numbers = Unit {0}

gives : (function : Function) → GivesAlways function (signature_of function).gives
gives function.Add = tt
gives function.Sub = tt
gives function.Mul = tt
gives function.Div = tt
gives function.Mod = tt
gives function.Neg = tt
gives function.Abs = tt
gives function.Eq = two Boolean (comparison_rule comparison.Equal) (λ left right. refl)
gives function.Ne = two Boolean (comparison_rule comparison.NotEqual) (λ left right. refl)
gives function.Lt = two Boolean (comparison_rule comparison.Less) (λ left right. refl)
gives function.Le = two Boolean (comparison_rule comparison.LessEqual) (λ left right. refl)
gives function.Gt = two Boolean (comparison_rule comparison.Greater) (λ left right. refl)
gives function.Ge = two Boolean (comparison_rule comparison.GreaterEqual) (λ left right. refl)
gives function.And = logical (of_two_truths and_of)
gives function.Or = logical (of_two_truths or_of)
gives function.Not = logical (of_one_truth not_of)
gives function.In = member as_it_is
gives function.NotIn = member not_of
gives function.Like = two Boolean like_rule (λ text pattern. refl)
gives function.Rlike = two Boolean rlike_rule (λ text pattern. refl)
gives function.NotLike = two Boolean not_like_rule (λ text pattern. refl)
gives function.NotRlike = two Boolean not_rlike_rule (λ text pattern. refl)
gives function.IsNull = λ node parts. refl
gives function.IsNotNull = λ node parts. refl
gives function.Greatest = tt
gives function.Least = tt
gives function.Case = tt
gives function.Coalesce = tt
gives function.ToInteger = converts Integer integer_rule integer_stays
gives function.ToLong = converts Long long_rule long_stays
gives function.ToBoolean = converts Boolean boolean_rule boolean_stays
gives function.ToString = converts Keyword string_rule string_stays
gives function.Length = one Integer length_rule (λ text. refl)
gives function.Concat = single Keyword concat_rule (λ texts. refl)
gives function.Substring = single Keyword substring_rule substring_stays
gives function.Left = two Keyword left_rule (λ text count. refl)
gives function.Right = two Keyword right_rule (λ text count. refl)
gives function.Trim = one Keyword trim_rule (λ text. refl)
gives function.Ltrim = one Keyword ltrim_rule (λ text. refl)
gives function.Rtrim = one Keyword rtrim_rule (λ text. refl)
gives function.StartsWith = two Boolean starts_with_rule (λ text front. refl)
gives function.EndsWith = two Boolean ends_with_rule (λ text back. refl)
gives function.Replace = single Keyword (of_three replace_rule) (three_stays Keyword replace_rule (λ text pattern with. refl))
gives function.Split = two Keyword split_rule (λ text delimiter. split_stays (text_of text) (text_of delimiter))
gives function.MvCount = listed Integer (alone count_rule) (alone_stays Integer count_rule (λ list. refl))
gives function.MvSum = tt
gives function.MvMin = tt
gives function.MvMax = tt
gives function.MvFirst = tt
gives function.MvLast = tt
gives function.MvDedupe = tt
gives function.MvSort = tt
gives function.MvSortDesc = tt
gives function.MvConcat = listed Keyword concat_list_rule (λ list. one_stays Keyword (λ delimiter. rules.given_one (KeywordValue (joined (text_of delimiter) (map text_of list)))) (λ delimiter. refl))
gives function.MvAppend = tt
gives function.MvSlice = tt

pub always_kind : (function : Function) (kind : Kind) → (signature_of function).gives ≡ always kind
    → (node : NodeId) (parts : List Valued) → has_kind kind (applied function node parts).cell ≡ true
always_kind function kind is = subst (GivesAlways function) is (gives function)
