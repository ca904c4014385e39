-- The kinds of what functions give whose result has the kind of their arguments.
use Rattle.std.proofs.Common.{◌≡◌, ℕ, ◌+◌, ℤ, option_map, zero, suc, ◌≤◌, nat_le, Bool, true, false, ◌&&◌, List, [], ◌∷◌, ◌++◌, map, length, take, drop, filter, replicate, All, Option, Some, None, Result, Ok, Err, refl, ap, sym, subst, ◌∙◌, arith, if◌then◌else◌, inl, inr}
use Rattle.std.specs.Prelude.{◌||◌, ◌⊎◌, not, pos, negsuc}
use Rattle.std.specs.List.{list_all, list_any, AllZip}
use Rattle.std.proofs.lemmas.Bool.{and_parts, and_from}
use Rattle.std.proofs.lemmas.Bool.Decides.{nat_tests}
use Rattle.std.proofs.lemmas.List.Folds.{list_all-append}
use Rattle.std.proofs.lemmas.List.Elements.{All-nil, All-cons, All-head, All-tail}
use Rattle.std.specs.Ordering.{is_lt, is_gt, is_eq}
use Rattle.std.specs.declared.cmp.Ordering.{Ordering}
use Rattle.esql_types.specs.declared.value.Value.{Value}
use Rattle.esql_types.specs.declared.value.Value.TheVariants.{Int, Long as LongValue, Bool as BooleanValue, Text as KeywordValue}
use Rattle.esql_types.specs.declared.value.Kind.{Kind}
use Rattle.esql_types.specs.declared.value.Kind.TheVariants.{Integer, Long, Boolean, Keyword, Null}
use Rattle.esql_types.specs.declared.names.NodeId.{NodeId}
use Rattle.esql_types.specs.Values.{kind_of_value, value_cmp}
use Rattle.number_rules.specs.declared.Arithmetic.{Arithmetic}
use Rattle.number_rules.specs.declared.Arithmetic.TheVariants as op
use Rattle.number_rules.specs.declared.NumberFault.{NumberFault}
use Rattle.number_rules.specs.declared.NumberFault.TheVariants.{ByZero, Overflow}
use Rattle.number_rules.specs.Arithmetic.{arithmetic, negated, absolute}
use Rattle.number_rules.specs.Sums.{sum_within}
use Rattle.function_rules.specs.Lists.{first_of, last_of, least_from, least_of, greatest_from, greatest_of, distinct_of, put_in_order, sorted_by, between_places, first_place, place_of, slice_of}
use Rattle.esql_plan.specs.declared.function.Function.{Function}
use Rattle.esql_plan.specs.declared.function.Function.TheVariants as function
use Rattle.esql_plan.specs.Rules.{Given, Arguments, are, null, several, with_argument, arguments_of, given_arguments, given_singles, given_list, given_lists, given_nothing, is_null, is_integer, number_of, first_cell, later_cells, truth_in}
use Rattle.esql_plan.specs.Functions.{of_one, of_two, alone, are_integers, bits_of, number_given, arithmetic_rule, neg_rule, abs_rule, sum_given, sum_rule, greatest_rule, least_rule, first_rule, last_rule, dedupe_rule, sort_rule, sort_desc_rule, append_rule, slice_rule}
use Rattle.esql_plan.specs.Values.{Valued, behind, cells_of, applied, case_of, coalesce_of, is_met}
use Rattle.esql_plan.specs.Signatures.{Want, a_boolean, a_keyword, a_number, a_value, an_ordered, like_pattern, whole_pattern, free_pattern, OneKinds, no_kinds, Argument, arguments, argument_fits, one_kind, with_kind, first_misfit, kinds_in, misfit, kind_of_call, same_kind, kind_place, is_one_kind, joined_kind, meets, branch_wants, these, signature_of, is_count}
use Rattle.esql_plan.specs.Fits.{has_kind}
use Rattle.esql_plan.proofs.KindsGiven.{always_kind}

-- kinds ----------------------------------------------------------------------------------------------------------------------------

abbrev kind_at : ℕ → Kind
kind_at zero = Integer
kind_at (suc zero) = Long
kind_at (suc (suc zero)) = Boolean
kind_at (suc (suc (suc zero))) = Keyword
kind_at (suc (suc (suc (suc more)))) = Null

kind_there : (kind : Kind) → kind_at (kind_place kind) ≡ kind
kind_there Integer = refl
kind_there Long = refl
kind_there Boolean = refl
kind_there Keyword = refl
kind_there Null = refl

pub kinds_same : (this that : Kind) → same_kind this that ≡ true → this ≡ that
kinds_same this that same =
    let places : kind_place this ≡ kind_place that = grind (arith, same) in
    sym (kind_there this) ∙ ap kind_at places ∙ kind_there that

-- a kind is another, or null
abbrev pub IsWithin : Kind → Kind → Type 0
IsWithin kind wide = (kind ≡ wide) ⊎ (kind ≡ Null)

within_through : (this that wide : Kind) → IsWithin this that → IsWithin that wide → IsWithin this wide
within_through this that wide (inl same) (inl also) = inl (same ∙ also)
within_through this that wide (inl same) (inr none) = inr (same ∙ none)
within_through this that wide (inr none) second = inr none

no_value : (value : Value) (rest : List Value) → has_kind Null (value ∷ rest) ≡ true → ⊥
no_value (Int number) rest has = absurd cc
no_value (LongValue number) rest has = absurd cc
no_value (BooleanValue truth) rest has = absurd cc
no_value (KeywordValue text) rest has = absurd cc

null_has : (wide : Kind) (cell : List Value) → has_kind Null cell ≡ true → has_kind wide cell ≡ true
null_has wide [] has = refl
null_has wide (value ∷ rest) has = absurd (no_value value rest has)

-- a cell of a kind has each kind that it is within
pub within_has : (kind wide : Kind) (cell : List Value) → IsWithin kind wide → has_kind kind cell ≡ true → has_kind wide cell ≡ true
within_has kind wide cell (inl same) has = subst (λ kind. has_kind kind cell ≡ true) same has
within_has kind wide cell (inr none) has = null_has wide cell (subst (λ kind. has_kind kind cell ≡ true) none has)

-- Where two kinds are one without widening, each is within the kind that they are.
pub record Joins (this that : Kind) : Type 0 where
  pub left : IsWithin this (joined_kind this that)
  pub right : IsWithin that (joined_kind this that)

joined_itself : (kind : Kind) → joined_kind kind kind ≡ kind
joined_itself Integer = refl
joined_itself Long = refl
joined_itself Boolean = refl
joined_itself Keyword = refl
joined_itself Null = refl

joined_null : (kind : Kind) → joined_kind kind Null ≡ kind
joined_null Integer = refl
joined_null Long = refl
joined_null Boolean = refl
joined_null Keyword = refl
joined_null Null = refl

joins_same : (this that : Kind) → this ≡ that → Joins this that
joins_same this that same = subst (λ that. Joins this that) same (record { left = inl (sym (joined_itself this)); right = inl (sym (joined_itself this)) })

joins_null : (this that : Kind) → that ≡ Null → Joins this that
joins_null this that none = subst (λ that. Joins this that) (sym none) (record { left = inl (sym (joined_null this)); right = inr refl })

joins_front : (this that : Kind) → this ≡ Null → Joins this that
joins_front this that none = subst (λ this. Joins this that) (sym none) (record { left = inr refl; right = inl refl })

joins_by : (this that : Kind) (same front back : Bool) → same_kind this that ≡ same → same_kind this Null ≡ front → same_kind that Null ≡ back
    → (same || front || back || false) ≡ true → Joins this that
joins_by this that true front back is first second one = joins_same this that (kinds_same this that is)
joins_by this that false true back is first second one = joins_front this that (kinds_same this Null first)
joins_by this that false false true is first second one = joins_null this that (kinds_same that Null second)
joins_by this that false false false is first second one = absurd cc

pub one_joins : (this that : Kind) → is_one_kind false this that ≡ true → Joins this that
one_joins this that one = joins_by this that (same_kind this that) (same_kind this Null) (same_kind that Null) refl refl refl one

-- the arguments of a call -------------------------------------------------------------------------------------------------------------

-- an argument of any kind is within the one kind of them all
abbrev pub ValueWithin : Kind → Want → Kind → Type 0
ValueWithin wide a_boolean kind = Unit {0}
ValueWithin wide a_keyword kind = Unit {0}
ValueWithin wide a_number kind = Unit {0}
ValueWithin wide a_value kind = IsWithin kind wide
ValueWithin wide an_ordered kind = IsWithin kind wide
ValueWithin wide like_pattern kind = Unit {0}
ValueWithin wide whole_pattern kind = Unit {0}
ValueWithin wide free_pattern kind = Unit {0}

abbrev pub ArgumentWithin : Kind → Argument → Type 0
ArgumentWithin wide argument = ValueWithin wide argument.want argument.kind

-- an argument that fits, and those behind it
pub record FirstFits (widens : Bool) (so_far : OneKinds) (argument : Argument) (rest : List Argument) : Type 0 where
  pub own : argument_fits widens so_far argument ≡ true
  pub others : first_misfit widens (with_kind argument.want argument.kind so_far) rest ≡ None

no_misfit : (place : Option ℕ) → option_map (λ (place : ℕ). place + 1) place ≡ None → place ≡ None
no_misfit None is = refl
no_misfit (Some place) is = cc

pub first_fits : (widens : Bool) (so_far : OneKinds) (argument : Argument) (rest : List Argument) → first_misfit widens so_far (argument ∷ rest) ≡ None
    → FirstFits widens so_far argument rest
first_fits widens so_far argument rest none = by_case (argument_fits widens so_far argument) refl
  where
    by_case : (b : Bool) → argument_fits widens so_far argument ≡ b → FirstFits widens so_far argument rest
    by_case true is = record {
      own = is;
      others = no_misfit (first_misfit widens (with_kind argument.want argument.kind so_far) rest)
          (sym (ap (λ (b : Bool). if b then option_map (λ (place : ℕ). place + 1) (first_misfit widens (with_kind argument.want argument.kind so_far) rest) else Some 0) is) ∙ none);
    }
    by_case false is = absurd (let some : Some 0 ≡ None =
        sym (ap (λ (b : Bool). if b then option_map (λ (place : ℕ). place + 1) (first_misfit widens (with_kind argument.want argument.kind so_far) rest) else Some 0) is) ∙ none in cc)

-- what is within the kinds so far is within them with one more argument
pub record Grows (so_far : OneKinds) (argument : Argument) : Type 0 where
  pub kinds : IsWithin so_far.values (with_kind argument.want argument.kind so_far).values
  pub own : ArgumentWithin (with_kind argument.want argument.kind so_far).values argument

grows_by : (so_far : OneKinds) (want : Want) (kind : Kind) → argument_fits false so_far (record { want = want; kind = kind }) ≡ true → Grows so_far (record { want = want; kind = kind })
grows_by so_far a_boolean kind fits = record { kinds = inl refl; own = tt }
grows_by so_far a_keyword kind fits = record { kinds = inl refl; own = tt }
grows_by so_far a_number kind fits = record { kinds = inl refl; own = tt }
grows_by so_far a_value kind fits =
    let joins = one_joins so_far.values kind (and_parts (meets a_value kind) (is_one_kind false so_far.values kind) fits).1 in
    record { kinds = joins.left; own = joins.right }
grows_by so_far an_ordered kind fits =
    let joins = one_joins so_far.values kind (and_parts (meets an_ordered kind) (is_one_kind false so_far.values kind) fits).1 in
    record { kinds = joins.left; own = joins.right }
grows_by so_far like_pattern kind fits = record { kinds = inl refl; own = tt }
grows_by so_far whole_pattern kind fits = record { kinds = inl refl; own = tt }
grows_by so_far free_pattern kind fits = record { kinds = inl refl; own = tt }

grows : (so_far : OneKinds) (argument : Argument) → argument_fits false so_far argument ≡ true → Grows so_far argument
grows so_far argument fits = grows_by so_far argument.want argument.kind fits

wider : (narrow wide : Kind) (want : Want) (kind : Kind) → IsWithin narrow wide → ValueWithin narrow want kind → ValueWithin wide want kind
wider narrow wide a_boolean kind within own = tt
wider narrow wide a_keyword kind within own = tt
wider narrow wide a_number kind within own = tt
wider narrow wide a_value kind within own = within_through kind narrow wide own within
wider narrow wide an_ordered kind within own = within_through kind narrow wide own within
wider narrow wide like_pattern kind within own = tt
wider narrow wide whole_pattern kind within own = tt
wider narrow wide free_pattern kind within own = tt

pub record AllWithin (so_far : OneKinds) (args : List Argument) : Type 0 where
  pub kinds : IsWithin so_far.values (kinds_in so_far args).values
  pub each : All (ArgumentWithin (kinds_in so_far args).values) args

-- the arguments of a call that fits, where the function does not widen, are within the one kind of them
pub all_within : (so_far : OneKinds) (args : List Argument) → first_misfit false so_far args ≡ None → AllWithin so_far args
all_within so_far [] none = record { kinds = inl refl; each = All-nil (ArgumentWithin so_far.values) }
all_within so_far (argument ∷ args) none =
    let fits = first_fits false so_far argument args none in
    let next = with_kind argument.want argument.kind so_far in
    let grown = grows so_far argument fits.own in
    let rest = all_within next args fits.others in
    let wide = (kinds_in next args).values in
    record {
      kinds = within_through so_far.values next.values wide grown.kinds rest.kinds;
      each = All-cons (ArgumentWithin wide) argument args (wider next.values wide argument.want argument.kind rest.kinds grown.own) rest.each;
    }

-- lists whose values all pass a test ---------------------------------------------------------------------------------------------------

module _ {Item : Type 0} (test : Item → Bool) where
  abbrev Pass : List Item → Type 0
  Pass items = list_all test items ≡ true

  pub pass_first : (item : Item) (items : List Item) → Pass (item ∷ items) → test item ≡ true
  pass_first item items pass = (and_parts (test item) (list_all test items) pass).0

  pub pass_rest : (item : Item) (items : List Item) → Pass (item ∷ items) → Pass items
  pass_rest item items pass = (and_parts (test item) (list_all test items) pass).1

  pass_both : (item : Item) (items : List Item) → test item ≡ true → Pass items → Pass (item ∷ items)
  pass_both item items own rest = and_from (test item) (list_all test items) own rest

  pub pass_one : (item : Item) → test item ≡ true → Pass (item ∷ [])
  pass_one item own = pass_both item [] own refl

  pub pass_append : (xs ys : List Item) → Pass xs → Pass ys → Pass (xs ++ ys)
  pass_append xs ys first second = list_all-append test xs ys ∙ and_from (list_all test xs) (list_all test ys) first second

  pass_filter : (keep : Item → Bool) (items : List Item) → Pass items → Pass (filter keep items)
  pass_filter keep [] pass = refl
  pass_filter keep (item ∷ items) pass =
      elim (keep item) as (λ b. Pass (if b then item ∷ filter keep items else filter keep items)) [
        | true ↦ pass_both item (filter keep items) (pass_first item items pass) (pass_filter keep items (pass_rest item items pass))
        | false ↦ pass_filter keep items (pass_rest item items pass)
      ]

  pass_take : (count : ℕ) (items : List Item) → Pass items → Pass (take count items)
  pass_take zero items pass = refl
  pass_take (suc count) [] pass = refl
  pass_take (suc count) (item ∷ items) pass = pass_both item (take count items) (pass_first item items pass) (pass_take count items (pass_rest item items pass))

  pass_drop : (count : ℕ) (items : List Item) → Pass items → Pass (drop count items)
  pass_drop zero items pass = pass
  pass_drop (suc count) [] pass = refl
  pass_drop (suc count) (item ∷ items) pass = pass_drop count items (pass_rest item items pass)

  pass_first_of : (items : List Item) → Pass items → Pass (first_of items)
  pass_first_of [] pass = refl
  pass_first_of (item ∷ items) pass = pass_one item (pass_first item items pass)

  pass_last_of : (items : List Item) → Pass items → Pass (last_of items)
  pass_last_of [] pass = refl
  pass_last_of (item ∷ []) pass = pass
  pass_last_of (item ∷ next ∷ items) pass = pass_last_of (next ∷ items) (pass_rest item (next ∷ items) pass)

  pass_either : (b : Bool) (this that : Item) → test this ≡ true → test that ≡ true → test (if b then this else that) ≡ true
  pass_either true this that first second = first
  pass_either false this that first second = second

  module _ (order : Item → Item → Ordering) where
    pass_least_from : (best : Item) (items : List Item) → test best ≡ true → Pass items → test (least_from order best items) ≡ true
    pass_least_from best [] own pass = own
    pass_least_from best (item ∷ items) own pass =
        pass_least_from (if is_lt (order item best) then item else best) items (pass_either (is_lt (order item best)) item best (pass_first item items pass) own) (pass_rest item items pass)

    pub pass_least : (items : List Item) → Pass items → Pass (least_of order items)
    pass_least [] pass = refl
    pass_least (item ∷ items) pass = pass_one (least_from order item items) (pass_least_from item items (pass_first item items pass) (pass_rest item items pass))

    pass_greatest_from : (best : Item) (items : List Item) → test best ≡ true → Pass items → test (greatest_from order best items) ≡ true
    pass_greatest_from best [] own pass = own
    pass_greatest_from best (item ∷ items) own pass =
        pass_greatest_from (if is_gt (order item best) then item else best) items (pass_either (is_gt (order item best)) item best (pass_first item items pass) own) (pass_rest item items pass)

    pub pass_greatest : (items : List Item) → Pass items → Pass (greatest_of order items)
    pass_greatest [] pass = refl
    pass_greatest (item ∷ items) pass = pass_one (greatest_from order item items) (pass_greatest_from item items (pass_first item items pass) (pass_rest item items pass))

    pass_put : (item : Item) (items : List Item) → test item ≡ true → Pass items → Pass (put_in_order order item items)
    pass_put item [] own pass = pass_one item own
    pass_put item (first ∷ rest) own pass =
        elim (is_gt (order item first)) as (λ b. Pass (if b then first ∷ put_in_order order item rest else item ∷ first ∷ rest)) [
          | true ↦ pass_both first (put_in_order order item rest) (pass_first first rest pass) (pass_put item rest own (pass_rest first rest pass))
          | false ↦ pass_both item (first ∷ rest) own pass
        ]

    pub pass_sorted : (items : List Item) → Pass items → Pass (sorted_by order items)
    pass_sorted [] pass = refl
    pass_sorted (item ∷ items) pass = pass_put item (sorted_by order items) (pass_first item items pass) (pass_sorted items (pass_rest item items pass))

  pub pass_distinct : (same : Item → Item → Bool) (items : List Item) → Pass items → Pass (distinct_of same items)
  pass_distinct same [] pass = refl
  pass_distinct same (item ∷ items) pass =
      pass_both item (filter (λ (other : Item). not (same item other)) (distinct_of same items)) (pass_first item items pass)
      (pass_filter (λ (other : Item). not (same item other)) (distinct_of same items) (pass_distinct same items (pass_rest item items pass)))

  pass_between : (items : List Item) (from : ℕ) (to : ℤ) → Pass items → Pass (between_places items from to)
  pass_between items from (pos to) pass = pass_drop from (take (to + 1) items) (pass_take (to + 1) items pass)
  pass_between items from (negsuc below) pass = refl

  pass_slice : (items : List Item) (start end : ℤ) → Pass items → Pass (slice_of items start end)
  pass_slice items start end pass = pass_between items (first_place (place_of start (length items))) (place_of end (length items)) pass

-- how arguments are taken ---------------------------------------------------------------------------------------------------------------

-- the cell has the kind
abbrev pub Has : Kind → List Value → Type 0
Has kind cell = has_kind kind cell ≡ true

abbrev pub has_test : Kind → Value → Bool
has_test kind value = same_kind (kind_of_value value) kind

module _ (kind : Kind) where
  given_has : (function : List Value → Given) → ((values : List Value) → Has kind (function values).cell) → (these : Arguments) → Has kind (given_arguments function these).cell
  given_has function has (are values) = has values
  given_has function has null = refl
  given_has function has several = refl

  list_has : (function : List Value → List Value → Given) → ((list values : List Value) → Has kind list → Has kind (function list values).cell)
      → (list : List Value) (cells : List (List Value)) → Has kind list → Has kind (given_list function list cells).cell
  list_has function has [] cells own = refl
  list_has function has (value ∷ rest) cells own = given_has (function (value ∷ rest)) (λ values. has (value ∷ rest) values own) (arguments_of cells)

  alone_has : (rule : List Value → Given) → ((list : List Value) → Has kind list → Has kind (rule list).cell) → (list values : List Value) → Has kind list → Has kind (alone rule list values).cell
  alone_has rule has list [] own = has list own
  alone_has rule has list (value ∷ rest) own = refl

  -- single values of a kind
  abbrev ArgumentsHave : Arguments → Type 0
  ArgumentsHave (are values) = Has kind values
  ArgumentsHave null = Unit {0}
  ArgumentsHave several = Unit {0}

  with_has : (value : Value) (these : Arguments) → has_test kind value ≡ true → ArgumentsHave these → ArgumentsHave (with_argument value these)
  with_has value (are values) own rest = pass_both (has_test kind) value values own rest
  with_has value null own rest = tt
  with_has value several own rest = tt

  front_has : (cell : List Value) (cells : List (List Value)) → Has kind cell → ArgumentsHave (arguments_of cells) → ArgumentsHave (arguments_of (cell ∷ cells))
  front_has [] cells own rest = tt
  front_has (value ∷ []) cells own rest = with_has value (arguments_of cells) (pass_first (has_test kind) value [] own) rest
  front_has (value ∷ next ∷ more) cells own rest = tt

  arguments_have : (parts : List Valued) → All (λ (part : Valued). Has kind part.cell) parts → ArgumentsHave (arguments_of (cells_of parts))
  arguments_have [] all = refl
  arguments_have (part ∷ parts) all =
      front_has part.cell (cells_of parts) (All-head (λ (part : Valued). Has kind part.cell) part parts all)
      (arguments_have parts (All-tail (λ (part : Valued). Has kind part.cell) part parts all))

  singles_have : (rule : List Value → Given) → ((values : List Value) → Has kind values → Has kind (rule values).cell) → (these : Arguments) → ArgumentsHave these
      → Has kind (given_arguments rule these).cell
  singles_have rule has (are values) own = has values own
  singles_have rule has null own = refl
  singles_have rule has several own = refl

  coalesce_has : (parts : List Valued) → All (λ (part : Valued). Has kind part.cell) parts → Has kind (coalesce_of parts).cell
  coalesce_has [] all = refl
  coalesce_has (part ∷ parts) all =
      elim (is_null part.cell) as (λ b. Has kind (if b then behind part.failures (coalesce_of parts) else part).cell) [
        | true ↦ coalesce_has parts (All-tail (λ (part : Valued). Has kind part.cell) part parts all)
        | false ↦ All-head (λ (part : Valued). Has kind part.cell) part parts all
      ]

-- the cells of parts have their kinds
abbrev pub HaveKinds : List Kind → List Valued → Type 0
HaveKinds kinds parts = AllZip (λ kind part. Has kind part.cell) kinds parts

-- the parts of any kind are within one kind, so their cells have it
abbrev values_wanted : ℕ → List Want
values_wanted count = replicate count a_value

all_have : (wide : Kind) (count : ℕ) (kinds : List Kind) (parts : List Valued) → length kinds ≤ count → HaveKinds kinds parts
    → All (ArgumentWithin wide) (arguments (values_wanted count) kinds) → All (λ (part : Valued). Has wide part.cell) parts
all_have wide count [] [] fits have within = All-nil (λ (part : Valued). Has wide part.cell)
all_have wide count [] (part ∷ parts) fits have within = absurd have
all_have wide count (kind ∷ kinds) [] fits have within = absurd have
all_have wide zero (kind ∷ kinds) (part ∷ parts) fits have within = absurd (omega (arith, fits))
all_have wide (suc count) (kind ∷ kinds) (part ∷ parts) fits have within =
    All-cons (λ (part : Valued). Has wide part.cell) part parts
    (within_has kind wide part.cell (All-head (ArgumentWithin wide) (record { want = a_value; kind = kind }) (arguments (values_wanted count) kinds) within) have.0)
    (all_have wide count kinds parts (omega (arith, fits)) have.1 (All-tail (ArgumentWithin wide) (record { want = a_value; kind = kind }) (arguments (values_wanted count) kinds) within))

case_has : (wide : Kind) (node : NodeId) (kinds : List Kind) (parts : List Valued) → HaveKinds kinds parts
    → All (ArgumentWithin wide) (arguments (branch_wants (length kinds)) kinds) → Has wide (case_of node parts).cell
case_has wide node [] [] have within = refl
case_has wide node [] (part ∷ parts) have within = absurd have
case_has wide node (kind ∷ kinds) [] have within = absurd have
case_has wide node (kind ∷ []) (otherwise ∷ []) have within =
    within_has kind wide otherwise.cell (All-head (ArgumentWithin wide) (record { want = a_value; kind = kind }) [] within) have.0
case_has wide node (kind ∷ []) (part ∷ next ∷ parts) have within = absurd have.1
case_has wide node (kind ∷ next ∷ kinds) (part ∷ []) have within = absurd have.1
case_has wide node (first ∷ kind ∷ kinds) (condition ∷ part ∷ rest) have within =
    let behind_it = All-tail (ArgumentWithin wide) (record { want = a_boolean; kind = first }) (arguments (a_value ∷ branch_wants (length kinds)) (kind ∷ kinds)) within in
    elim (is_met (truth_in condition.cell)) as (λ b. Has wide (if b then part else case_of node rest).cell) [
      | true ↦ within_has kind wide part.cell (All-head (ArgumentWithin wide) (record { want = a_value; kind = kind }) (arguments (branch_wants (length kinds)) kinds) behind_it) have.1.0
      | false ↦ case_has wide node kinds rest have.1.1 (All-tail (ArgumentWithin wide) (record { want = a_value; kind = kind }) (arguments (branch_wants (length kinds)) kinds) behind_it)
    ]

-- numbers ----------------------------------------------------------------------------------------------------------------------------------

abbrev pub number_kind : Bool → Kind
number_kind true = Integer
number_kind false = Long

number_has : (integers : Bool) (result : Result ℤ NumberFault) → Has (number_kind integers) (number_given integers result).cell
number_has true (Ok number) = refl
number_has false (Ok number) = refl
number_has true (Err ByZero) = refl
number_has false (Err ByZero) = refl
number_has true (Err Overflow) = refl
number_has false (Err Overflow) = refl

pub sum_has : (integers : Bool) (total : Option ℤ) → Has (number_kind integers) (sum_given integers total).cell
sum_has true (Some total) = refl
sum_has false (Some total) = refl
sum_has true None = refl
sum_has false None = refl

-- the kind of a value that is a number
abbrev kind_of_number : Value → Kind
kind_of_number value = number_kind (is_integer value)

value_kind : (kind : Kind) (value : Value) → Has kind (value ∷ []) → kind_of_value value ≡ kind
value_kind kind value has = kinds_same (kind_of_value value) kind (pass_first (has_test kind) value [] has)

no_boolean : meets a_number Boolean ≡ true → ⊥
no_boolean is = cc

no_keyword : meets a_number Keyword ≡ true → ⊥
no_keyword is = cc

-- a value of a kind that can be a number is one
number_is : (kind : Kind) (value : Value) → kind_of_value value ≡ kind → meets a_number kind ≡ true → kind_of_number value ≡ kind
number_is kind (Int number) is fits = is
number_is kind (LongValue number) is fits = is
number_is kind (BooleanValue truth) is fits = absurd (no_boolean (subst (λ kind. meets a_number kind ≡ true) (sym is) fits))
number_is kind (KeywordValue text) is fits = absurd (no_keyword (subst (λ kind. meets a_number kind ≡ true) (sym is) fits))

joined_numbers : (this that : Bool) → number_kind (this && (that && true)) ≡ joined_kind (number_kind this) (number_kind that)
joined_numbers true true = refl
joined_numbers true false = refl
joined_numbers false true = refl
joined_numbers false false = refl

arithmetic_has : (op : Arithmetic) (first second : Kind) (left right : Value) → Has first (left ∷ []) → Has second (right ∷ [])
    → meets a_number first ≡ true → meets a_number second ≡ true → Has (joined_kind first second) (arithmetic_rule op left right).cell
arithmetic_has op first second left right has also fits also_fits =
    let one = number_is first left (value_kind first left has) fits in
    let other = number_is second right (value_kind second right also) also_fits in
    let integers : Bool = are_integers (left ∷ right ∷ []) in
    subst (λ kind. Has kind (arithmetic_rule op left right).cell) (joined_numbers (is_integer left) (is_integer right) ∙ (λ i. joined_kind (one i) (other i)))
    (number_has integers (arithmetic (bits_of integers) op (number_of left) (number_of right)))

neg_has : (kind : Kind) (value : Value) → Has kind (value ∷ []) → meets a_number kind ≡ true → Has kind (neg_rule value).cell
neg_has kind value has fits =
    subst (λ kind. Has kind (neg_rule value).cell) (number_is kind value (value_kind kind value has) fits)
    (number_has (is_integer value) (negated (bits_of (is_integer value)) (number_of value)))

abs_has : (kind : Kind) (value : Value) → Has kind (value ∷ []) → meets a_number kind ≡ true → Has kind (abs_rule value).cell
abs_has kind value has fits =
    subst (λ kind. Has kind (abs_rule value).cell) (number_is kind value (value_kind kind value has) fits)
    (number_has (is_integer value) (absolute (bits_of (is_integer value)) (number_of value)))

has_alone : (kind : Kind) (value : Value) (rest : List Value) → Has kind (value ∷ rest) → Has kind (value ∷ [])
has_alone kind value rest has = pass_one (has_test kind) value (pass_first (has_test kind) value rest has)

-- a list of a kind that can be a number, and that is not empty, is of integers where the kind is that of integers
integers_have : (values : List Value) → Has Integer values → are_integers values ≡ true
integers_have [] has = refl
integers_have (Int number ∷ values) has = integers_have values has
integers_have (LongValue number ∷ values) has = absurd cc
integers_have (BooleanValue truth ∷ values) has = absurd cc
integers_have (KeywordValue text ∷ values) has = absurd cc

longs_have : (value : Value) (values : List Value) → Has Long (value ∷ values) → are_integers (value ∷ values) ≡ false
longs_have (Int number) values has = absurd cc
longs_have (LongValue number) values has = refl
longs_have (BooleanValue truth) values has = absurd cc
longs_have (KeywordValue text) values has = absurd cc

integers_are : (kind : Kind) (value : Value) (values : List Value) → Has kind (value ∷ values) → meets a_number kind ≡ true → number_kind (are_integers (value ∷ values)) ≡ kind
integers_are Integer value values has fits = ap number_kind (integers_have (value ∷ values) has)
integers_are Long value values has fits = ap number_kind (longs_have value values has)
integers_are Boolean value values has fits = absurd (no_boolean fits)
integers_are Keyword value values has fits = absurd (no_keyword fits)
integers_are Null value values has fits = absurd (no_value value values has)

sum_rule_has : (kind : Kind) (value : Value) (values : List Value) → Has kind (value ∷ values) → meets a_number kind ≡ true → Has kind (sum_rule (value ∷ values)).cell
sum_rule_has kind value values has fits =
    let integers : Bool = are_integers (value ∷ values) in
    subst (λ kind. Has kind (sum_rule (value ∷ values)).cell) (integers_are kind value values has fits)
    (sum_has integers (sum_within (bits_of integers) (map number_of (value ∷ values))))

-- each function -----------------------------------------------------------------------------------------------------------------------------

-- What a function gives of arguments that fit has the kind of the call.
abbrev pub GivesKind : Function → Type 0
GivesKind function =
    (node : NodeId) (kinds : List Kind) (parts : List Valued) → HaveKinds kinds parts
    → is_count (signature_of function).parameters (length kinds) ≡ true → misfit function kinds ≡ None
    → Has (kind_of_call function kinds) (applied function node parts).cell

-- the first of arguments that fit can be what is wanted
first_meets : (widens : Bool) (so_far : OneKinds) (want : Want) (kind : Kind) (rest : List Argument)
    → first_misfit widens so_far (record { want = want; kind = kind } ∷ rest) ≡ None → meets want kind ≡ true
first_meets widens so_far want kind rest none =
    (and_parts (meets want kind) (is_one_kind widens (one_kind want so_far) kind) (first_fits widens so_far (record { want = want; kind = kind }) rest none).own).0

-- of two numbers: where one cell is null or has several values, null
two_given : (wide : Kind) (rule : Value → Value → Given) (these those : List Value)
    → ((left right : Value) → these ≡ left ∷ [] → those ≡ right ∷ [] → Has wide (rule left right).cell)
    → Has wide (given_singles (of_two rule) (these ∷ those ∷ [])).cell
two_given wide rule [] those has = refl
two_given wide rule (left ∷ []) [] has = refl
two_given wide rule (left ∷ []) (right ∷ []) has = has left right refl refl
two_given wide rule (left ∷ []) (right ∷ next ∷ rest) has = refl
two_given wide rule (left ∷ next ∷ rest) those has = refl

one_given : (wide : Kind) (rule : Value → Given) (cell : List Value) → ((value : Value) → cell ≡ value ∷ [] → Has wide (rule value).cell)
    → Has wide (given_singles (of_one rule) (cell ∷ [])).cell
one_given wide rule [] has = refl
one_given wide rule (value ∷ []) has = has value refl
one_given wide rule (value ∷ next ∷ rest) has = refl

at_most : (n m : ℕ) → nat_le n m ≡ true → n ≤ m
at_most n m is = grind (arith, nat_tests)

-- a call of exactly so many arguments
counted : (wants : List Want) (count : ℕ) → is_count (these wants) count ≡ true → (length wants ≤ count) × (count ≤ length wants)
counted wants count fits =
    let both = and_parts (nat_le (length wants) count) (nat_le count (length wants)) fits in
    (at_most (length wants) count both.0, at_most count (length wants) both.1)

-- two numbers
arithmetic_kind : (op : Arithmetic) (kinds : List Kind) (parts : List Valued) → HaveKinds kinds parts → is_count (these (a_number ∷ a_number ∷ [])) (length kinds) ≡ true
    → first_misfit true no_kinds (arguments (a_number ∷ a_number ∷ []) kinds) ≡ None
    → Has (kinds_in no_kinds (arguments (a_number ∷ a_number ∷ []) kinds)).numbers (given_singles (of_two (arithmetic_rule op)) (cells_of parts)).cell
arithmetic_kind op [] parts have count fits = absurd (let few = (counted (a_number ∷ a_number ∷ []) 0 count).0 in omega (arith, few))
arithmetic_kind op (first ∷ []) parts have count fits = absurd (let few = (counted (a_number ∷ a_number ∷ []) 1 count).0 in omega (arith, few))
arithmetic_kind op (first ∷ second ∷ third ∷ kinds) parts have count fits =
    absurd (let many = (counted (a_number ∷ a_number ∷ []) (length (first ∷ second ∷ third ∷ kinds)) count).1 in omega (arith, many))
arithmetic_kind op (first ∷ second ∷ []) [] have count fits = absurd have
arithmetic_kind op (first ∷ second ∷ []) (left ∷ []) have count fits = absurd have.1
arithmetic_kind op (first ∷ second ∷ []) (left ∷ right ∷ other ∷ parts) have count fits = absurd have.1.1
arithmetic_kind op (first ∷ second ∷ []) (left ∷ right ∷ []) have count fits =
    let one = first_fits true no_kinds (record { want = a_number; kind = first }) (record { want = a_number; kind = second } ∷ []) fits in
    let meets_first = first_meets true no_kinds a_number first (record { want = a_number; kind = second } ∷ []) fits in
    let meets_second = first_meets true (with_kind a_number first no_kinds) a_number second [] one.others in
    two_given (joined_kind first second) (arithmetic_rule op) left.cell right.cell
    (λ this that is also.
    arithmetic_has op first second this that (subst (Has first) is have.0) (subst (Has second) also have.1.0) meets_first meets_second)

-- one number
number_kind_of : (rule : Value → Given) → ((kind : Kind) (value : Value) → Has kind (value ∷ []) → meets a_number kind ≡ true → Has kind (rule value).cell)
    → (kinds : List Kind) (parts : List Valued) → HaveKinds kinds parts → is_count (these (a_number ∷ [])) (length kinds) ≡ true
    → first_misfit false no_kinds (arguments (a_number ∷ []) kinds) ≡ None
    → Has (kinds_in no_kinds (arguments (a_number ∷ []) kinds)).numbers (given_singles (of_one rule) (cells_of parts)).cell
number_kind_of rule has [] parts have count fits = absurd (let few = (counted (a_number ∷ []) 0 count).0 in omega (arith, few))
number_kind_of rule has (first ∷ second ∷ kinds) parts have count fits = absurd (let many = (counted (a_number ∷ []) (length (first ∷ second ∷ kinds)) count).1 in omega (arith, many))
number_kind_of rule has (kind ∷ []) [] have count fits = absurd have
number_kind_of rule has (kind ∷ []) (part ∷ other ∷ parts) have count fits = absurd have.1
number_kind_of rule has (kind ∷ []) (part ∷ []) have count fits =
    one_given kind rule part.cell (λ value is. has kind value (subst (Has kind) is have.0) (first_meets false no_kinds a_number kind [] fits))

-- a list of numbers
sum_list_has : (kind : Kind) (list : List Value) (cells : List (List Value)) → Has kind list → meets a_number kind ≡ true → Has kind (given_list (alone sum_rule) list cells).cell
sum_list_has kind [] cells has fits = refl
sum_list_has kind (value ∷ rest) cells has fits = given_has kind (alone sum_rule (value ∷ rest)) by_values (arguments_of cells)
  where
    by_values : (values : List Value) → Has kind (alone sum_rule (value ∷ rest) values).cell
    by_values [] = sum_rule_has kind value rest has fits
    by_values (other ∷ values) = refl

sum_kind : (kinds : List Kind) (parts : List Valued) → HaveKinds kinds parts → first_misfit false no_kinds (arguments (a_number ∷ []) kinds) ≡ None
    → Has (kinds_in no_kinds (arguments (a_number ∷ []) kinds)).numbers (given_list (alone sum_rule) (first_cell (cells_of parts)) (later_cells (cells_of parts))).cell
sum_kind [] [] have fits = refl
sum_kind [] (part ∷ parts) have fits = absurd have
sum_kind (kind ∷ kinds) [] have fits = absurd have
sum_kind (kind ∷ kinds) (part ∷ parts) have fits = sum_list_has kind part.cell (cells_of parts) have.0 (first_meets false no_kinds a_number kind [] fits)

-- a list of any kind, alone
list_kind : (rule : List Value → Given) → ((kind : Kind) (list : List Value) → Has kind list → Has kind (rule list).cell)
    → (kinds : List Kind) (parts : List Valued) → HaveKinds kinds parts
    → Has (kinds_in no_kinds (arguments (a_value ∷ []) kinds)).values (given_list (alone rule) (first_cell (cells_of parts)) (later_cells (cells_of parts))).cell
list_kind rule has [] [] have = refl
list_kind rule has [] (part ∷ parts) have = absurd have
list_kind rule has (kind ∷ kinds) [] have = absurd have
list_kind rule has (kind ∷ kinds) (part ∷ parts) have = list_has kind (alone rule) (alone_has kind rule (has kind)) part.cell (cells_of parts) have.0

-- MV_SLICE
slice_rule_has : (kind : Kind) (list values : List Value) → Has kind list → Has kind (slice_rule list values).cell
slice_rule_has kind list [] has = refl
slice_rule_has kind list (start ∷ []) has = pass_slice (has_test kind) list (number_of start) (number_of start) has
slice_rule_has kind list (start ∷ end ∷ []) has = pass_slice (has_test kind) list (number_of start) (number_of end) has
slice_rule_has kind list (start ∷ end ∷ more ∷ rest) has = refl

slice_values : (kind : Kind) (kinds : List Kind) → (kinds_in no_kinds (arguments (a_value ∷ a_number ∷ a_number ∷ []) (kind ∷ kinds))).values ≡ kind
slice_values kind [] = refl
slice_values kind (second ∷ []) = refl
slice_values kind (second ∷ third ∷ kinds) = refl

slice_kind : (kinds : List Kind) (parts : List Valued) → HaveKinds kinds parts
    → Has (kinds_in no_kinds (arguments (a_value ∷ a_number ∷ a_number ∷ []) kinds)).values (given_list slice_rule (first_cell (cells_of parts)) (later_cells (cells_of parts))).cell
slice_kind [] [] have = refl
slice_kind [] (part ∷ parts) have = absurd have
slice_kind (kind ∷ kinds) [] have = absurd have
slice_kind (kind ∷ kinds) (part ∷ parts) have =
    subst (λ wide. Has wide (given_list slice_rule part.cell (cells_of parts)).cell) (sym (slice_values kind kinds)) (list_has kind slice_rule (slice_rule_has kind) part.cell (cells_of parts) have.0)

-- MV_APPEND
both_given : (wide : Kind) (left right : List Value) → Has wide left → Has wide right → Has wide (given_lists append_rule (left ∷ right ∷ [])).cell
both_given wide left right first second =
    elim (list_any is_null (left ∷ right ∷ [])) as (λ b. Has wide (if b then given_nothing else append_rule (left ∷ right ∷ [])).cell)
    [ true ↦ refl | false ↦ pass_append (has_test wide) left right first second ]

append_kind : (kinds : List Kind) (parts : List Valued) → HaveKinds kinds parts → is_count (these (a_value ∷ a_value ∷ [])) (length kinds) ≡ true
    → first_misfit false no_kinds (arguments (a_value ∷ a_value ∷ []) kinds) ≡ None
    → Has (kinds_in no_kinds (arguments (a_value ∷ a_value ∷ []) kinds)).values (given_lists append_rule (cells_of parts)).cell
append_kind [] parts have count fits = absurd (let few = (counted (a_value ∷ a_value ∷ []) 0 count).0 in omega (arith, few))
append_kind (first ∷ []) parts have count fits = absurd (let few = (counted (a_value ∷ a_value ∷ []) 1 count).0 in omega (arith, few))
append_kind (first ∷ second ∷ third ∷ kinds) parts have count fits =
    absurd (let many = (counted (a_value ∷ a_value ∷ []) (length (first ∷ second ∷ third ∷ kinds)) count).1 in omega (arith, many))
append_kind (first ∷ second ∷ []) [] have count fits = absurd have
append_kind (first ∷ second ∷ []) (left ∷ []) have count fits = absurd have.1
append_kind (first ∷ second ∷ []) (left ∷ right ∷ other ∷ parts) have count fits = absurd have.1.1
append_kind (first ∷ second ∷ []) (left ∷ right ∷ []) have count fits =
    let args : List Argument = record { want = a_value; kind = first } ∷ record { want = a_value; kind = second } ∷ [] in
    let wide : Kind = (kinds_in no_kinds args).values in
    let within = (all_within no_kinds args fits).each in
    let next = All-tail (ArgumentWithin wide) (record { want = a_value; kind = first }) (record { want = a_value; kind = second } ∷ []) within in
    both_given wide left.cell right.cell
    (within_has first wide left.cell (All-head (ArgumentWithin wide) (record { want = a_value; kind = first }) (record { want = a_value; kind = second } ∷ []) within) have.0)
    (within_has second wide right.cell (All-head (ArgumentWithin wide) (record { want = a_value; kind = second }) [] next) have.1.0)

-- any number of values of one kind
values_kind : (kinds : List Kind) (parts : List Valued) → HaveKinds kinds parts → first_misfit false no_kinds (arguments (values_wanted (suc (length kinds))) kinds) ≡ None
    → All (λ (part : Valued). Has (kinds_in no_kinds (arguments (values_wanted (suc (length kinds))) kinds)).values part.cell) parts
values_kind kinds parts have fits =
    let args : List Argument = arguments (values_wanted (suc (length kinds))) kinds in
    all_have (kinds_in no_kinds args).values (suc (length kinds)) kinds parts (omega arith) have (all_within no_kinds args fits).each

gives : (function : Function) → GivesKind function
gives function.Add = λ node kinds parts have count fits. arithmetic_kind op.Add kinds parts have count fits
gives function.Sub = λ node kinds parts have count fits. arithmetic_kind op.Sub kinds parts have count fits
gives function.Mul = λ node kinds parts have count fits. arithmetic_kind op.Mul kinds parts have count fits
gives function.Div = λ node kinds parts have count fits. arithmetic_kind op.Div kinds parts have count fits
gives function.Mod = λ node kinds parts have count fits. arithmetic_kind op.Mod kinds parts have count fits
gives function.Neg = λ node kinds parts have count fits. number_kind_of neg_rule neg_has kinds parts have count fits
gives function.Abs = λ node kinds parts have count fits. number_kind_of abs_rule abs_has kinds parts have count fits
gives function.Eq = λ node kinds parts have count fits. always_kind function.Eq Boolean refl node parts
gives function.Ne = λ node kinds parts have count fits. always_kind function.Ne Boolean refl node parts
gives function.Lt = λ node kinds parts have count fits. always_kind function.Lt Boolean refl node parts
gives function.Le = λ node kinds parts have count fits. always_kind function.Le Boolean refl node parts
gives function.Gt = λ node kinds parts have count fits. always_kind function.Gt Boolean refl node parts
gives function.Ge = λ node kinds parts have count fits. always_kind function.Ge Boolean refl node parts
gives function.And = λ node kinds parts have count fits. always_kind function.And Boolean refl node parts
gives function.Or = λ node kinds parts have count fits. always_kind function.Or Boolean refl node parts
gives function.Not = λ node kinds parts have count fits. always_kind function.Not Boolean refl node parts
gives function.In = λ node kinds parts have count fits. always_kind function.In Boolean refl node parts
gives function.NotIn = λ node kinds parts have count fits. always_kind function.NotIn Boolean refl node parts
gives function.Like = λ node kinds parts have count fits. always_kind function.Like Boolean refl node parts
gives function.Rlike = λ node kinds parts have count fits. always_kind function.Rlike Boolean refl node parts
gives function.NotLike = λ node kinds parts have count fits. always_kind function.NotLike Boolean refl node parts
gives function.NotRlike = λ node kinds parts have count fits. always_kind function.NotRlike Boolean refl node parts
gives function.IsNull = λ node kinds parts have count fits. always_kind function.IsNull Boolean refl node parts
gives function.IsNotNull = λ node kinds parts have count fits. always_kind function.IsNotNull Boolean refl node parts
gives function.Greatest = λ node kinds parts have count fits.
    let wide : Kind = (kinds_in no_kinds (arguments (values_wanted (suc (length kinds))) kinds)).values in
    singles_have wide greatest_rule (λ values own. pass_greatest (has_test wide) value_cmp values own) (arguments_of (cells_of parts)) (arguments_have wide parts (values_kind kinds parts have fits))
gives function.Least = λ node kinds parts have count fits.
    let wide : Kind = (kinds_in no_kinds (arguments (values_wanted (suc (length kinds))) kinds)).values in
    singles_have wide least_rule (λ values own. pass_least (has_test wide) value_cmp values own) (arguments_of (cells_of parts)) (arguments_have wide parts (values_kind kinds parts have fits))
gives function.Case = λ node kinds parts have count fits.
    let args : List Argument = arguments (branch_wants (length kinds)) kinds in
    case_has (kinds_in no_kinds args).values node kinds parts have (all_within no_kinds args fits).each
gives function.Coalesce = λ node kinds parts have count fits.
    coalesce_has (kinds_in no_kinds (arguments (values_wanted (suc (length kinds))) kinds)).values parts (values_kind kinds parts have fits)
gives function.ToInteger = λ node kinds parts have count fits. always_kind function.ToInteger Integer refl node parts
gives function.ToLong = λ node kinds parts have count fits. always_kind function.ToLong Long refl node parts
gives function.ToBoolean = λ node kinds parts have count fits. always_kind function.ToBoolean Boolean refl node parts
gives function.ToString = λ node kinds parts have count fits. always_kind function.ToString Keyword refl node parts
gives function.Length = λ node kinds parts have count fits. always_kind function.Length Integer refl node parts
gives function.Concat = λ node kinds parts have count fits. always_kind function.Concat Keyword refl node parts
gives function.Substring = λ node kinds parts have count fits. always_kind function.Substring Keyword refl node parts
gives function.Left = λ node kinds parts have count fits. always_kind function.Left Keyword refl node parts
gives function.Right = λ node kinds parts have count fits. always_kind function.Right Keyword refl node parts
gives function.Trim = λ node kinds parts have count fits. always_kind function.Trim Keyword refl node parts
gives function.Ltrim = λ node kinds parts have count fits. always_kind function.Ltrim Keyword refl node parts
gives function.Rtrim = λ node kinds parts have count fits. always_kind function.Rtrim Keyword refl node parts
gives function.StartsWith = λ node kinds parts have count fits. always_kind function.StartsWith Boolean refl node parts
gives function.EndsWith = λ node kinds parts have count fits. always_kind function.EndsWith Boolean refl node parts
gives function.Replace = λ node kinds parts have count fits. always_kind function.Replace Keyword refl node parts
gives function.Split = λ node kinds parts have count fits. always_kind function.Split Keyword refl node parts
gives function.MvCount = λ node kinds parts have count fits. always_kind function.MvCount Integer refl node parts
gives function.MvSum = λ node kinds parts have count fits. sum_kind kinds parts have fits
gives function.MvMin = λ node kinds parts have count fits. list_kind least_rule (λ kind list has. pass_least (has_test kind) value_cmp list has) kinds parts have
gives function.MvMax = λ node kinds parts have count fits. list_kind greatest_rule (λ kind list has. pass_greatest (has_test kind) value_cmp list has) kinds parts have
gives function.MvFirst = λ node kinds parts have count fits. list_kind first_rule (λ kind list has. pass_first_of (has_test kind) list has) kinds parts have
gives function.MvLast = λ node kinds parts have count fits. list_kind last_rule (λ kind list has. pass_last_of (has_test kind) list has) kinds parts have
gives function.MvDedupe = λ node kinds parts have count fits.
    list_kind dedupe_rule (λ kind list has. pass_distinct (has_test kind) (λ left right. is_eq (value_cmp left right)) list has) kinds parts have
gives function.MvSort = λ node kinds parts have count fits. list_kind sort_rule (λ kind list has. pass_sorted (has_test kind) value_cmp list has) kinds parts have
gives function.MvSortDesc = λ node kinds parts have count fits.
    list_kind sort_desc_rule (λ kind list has. pass_sorted (has_test kind) (λ left right. value_cmp right left) list has) kinds parts have
gives function.MvConcat = λ node kinds parts have count fits. always_kind function.MvConcat Keyword refl node parts
gives function.MvAppend = λ node kinds parts have count fits. append_kind kinds parts have count fits
gives function.MvSlice = λ node kinds parts have count fits. slice_kind kinds parts have

-- what a function gives of arguments that fit, each with a cell of its kind, has the kind of the call
pub result_has_kind : (function : Function) → GivesKind function
result_has_kind function = gives function
