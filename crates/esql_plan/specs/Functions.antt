-- The rule of each function.
use Rattle.std.specs.Prelude.{ℕ, ℤ, pos, Bool, true, false, not, List, [], ◌∷◌, ◌++◌, map, Option, Some, None, Result, Ok, Err, if◌then◌else◌}
use Rattle.std.specs.List.{flat_map, list_all}
use Rattle.std.specs.Fmt.{signed_decimal}
use Rattle.std.specs.Ordering.{is_eq}
use Rattle.std.specs.Str.{trim, trim_start, trim_end}
use Rattle.esql_types.specs.declared.value.Value.{Value}
use Rattle.esql_types.specs.declared.value.Value.TheVariants.{Int, Long, Bool as Boolean, Text as Keyword}
use Rattle.esql_types.specs.declared.cause.Cause.{Cause}
use Rattle.esql_types.specs.declared.cause.Cause.TheVariants as cause
use Rattle.esql_types.specs.Values.{value_cmp}
use Rattle.number_rules.specs.declared.Arithmetic.{Arithmetic}
use Rattle.number_rules.specs.declared.Arithmetic.TheVariants as op
use Rattle.number_rules.specs.declared.Comparison.{Comparison}
use Rattle.number_rules.specs.declared.Comparison.TheVariants as comparison
use Rattle.number_rules.specs.declared.NumberFault.{NumberFault}
use Rattle.number_rules.specs.declared.NumberFault.TheVariants.{ByZero, Overflow}
use Rattle.number_rules.specs.Arithmetic.{arithmetic, negated, absolute}
use Rattle.number_rules.specs.Comparisons.{compares}
use Rattle.number_rules.specs.Ranges.{fits_integer}
use Rattle.number_rules.specs.Spelled.{spelled_integer, spelled_long}
use Rattle.number_rules.specs.Sums.{sum_within}
use Rattle.function_rules.specs.Conversions.{number_of_truth, truth_of_number, truth_of_text, text_of_truth}
use Rattle.function_rules.specs.Found.{matches_whole, replaced}
use Rattle.function_rules.specs.Lists.{count_of, first_of, last_of, least_of, greatest_of, distinct_of, sorted_by, slice_of}
use Rattle.function_rules.specs.Logic.{and_of, or_of, not_of}
use Rattle.function_rules.specs.Texts.{length_of, substring_from, substring_of, left_of, right_of, begins_with, finishes_with, split_of, joined}
use Rattle.function_rules.specs.Wildcards.{is_like}
use Rattle.esql_plan.specs.declared.function.Function.{Function}
use Rattle.esql_plan.specs.declared.function.Function.TheVariants as function
use Rattle.esql_plan.specs.Rules.{Rule, singles, each, list_and_singles, lists, tests, logic, membership, conditions, alternatives, Given, given, given_one, given_nothing, failed, number_of, text_of, is_integer, order_of, is_null}

-- Rules of so many arguments. No call that fits has another number of them, and of one that has nothing is given.

abbrev pub of_one : {Item : Type 0} → (Item → Given) → List Item → Given
of_one rule [] = given_nothing
of_one rule (first ∷ []) = rule first
of_one rule (first ∷ second ∷ rest) = given_nothing

abbrev pub of_two : {Item : Type 0} → (Item → Item → Given) → List Item → Given
of_two rule [] = given_nothing
of_two rule (first ∷ []) = given_nothing
of_two rule (first ∷ second ∷ []) = rule first second
of_two rule (first ∷ second ∷ third ∷ rest) = given_nothing

abbrev pub of_three : {Item : Type 0} → (Item → Item → Item → Given) → List Item → Given
of_three rule [] = given_nothing
of_three rule (first ∷ []) = given_nothing
of_three rule (first ∷ second ∷ []) = given_nothing
of_three rule (first ∷ second ∷ third ∷ []) = rule first second third
of_three rule (first ∷ second ∷ third ∷ fourth ∷ rest) = given_nothing

abbrev pub of_one_truth : (Option Bool → Option Bool) → List (Option Bool) → Option Bool
of_one_truth rule [] = None
of_one_truth rule (first ∷ []) = rule first
of_one_truth rule (first ∷ second ∷ rest) = None

abbrev pub of_two_truths : (Option Bool → Option Bool → Option Bool) → List (Option Bool) → Option Bool
of_two_truths rule [] = None
of_two_truths rule (first ∷ []) = None
of_two_truths rule (first ∷ second ∷ []) = rule first second
of_two_truths rule (first ∷ second ∷ third ∷ rest) = None

abbrev pub given_truth : Bool → Given
given_truth truth = given_one (Boolean truth)

abbrev pub given_text : List ℕ → Given
given_text text = given_one (Keyword text)

-- Numbers: integers alone give an integer, and where there is a long the integers are widened ----------------------------------

abbrev pub are_integers : List Value → Bool
are_integers numbers = list_all is_integer numbers

-- how many bits numbers have beside their sign
abbrev pub bits_of : Bool → ℕ
bits_of true = 31
bits_of false = 63

abbrev pub number_in : Bool → ℤ → Value
number_in true number = Int number
number_in false number = Long number

abbrev pub overflow_in : Bool → Cause
overflow_in true = cause.IntegerOverflow
overflow_in false = cause.LongOverflow

abbrev pub number_given : Bool → Result ℤ NumberFault → Given
number_given integers (Ok number) = given_one (number_in integers number)
number_given integers (Err ByZero) = failed cause.ByZero
number_given integers (Err Overflow) = failed (overflow_in integers)

-- `+ - * / %`
abbrev pub arithmetic_rule : Arithmetic → Value → Value → Given
arithmetic_rule op left right =
    let integers : Bool = are_integers (left ∷ right ∷ []) in
    number_given integers (arithmetic (bits_of integers) op (number_of left) (number_of right))

-- the unary `-`
abbrev pub neg_rule : Value → Given
neg_rule number = number_given (is_integer number) (negated (bits_of (is_integer number)) (number_of number))

abbrev pub abs_rule : Value → Given
abs_rule number = number_given (is_integer number) (absolute (bits_of (is_integer number)) (number_of number))

abbrev pub sum_given : Bool → Option ℤ → Given
sum_given integers None = failed (overflow_in integers)
sum_given integers (Some total) = given_one (number_in integers total)

abbrev pub sum_rule : List Value → Given
sum_rule numbers =
    let integers : Bool = are_integers numbers in
    sum_given integers (sum_within (bits_of integers) (map number_of numbers))

-- Truths ---

abbrev pub is_not_null : List Value → Bool
is_not_null cell = not (is_null cell)

-- IN, where NOT IN has the negation
abbrev pub as_it_is : Option Bool → Option Bool
as_it_is truth = truth

-- Comparisons and patterns -------------------------------------------------------------------------------------------------------

-- `== != < <= > >=`
abbrev pub comparison_rule : Comparison → Value → Value → Given
comparison_rule comparison left right = given_truth (compares comparison (order_of left right))

-- LIKE
abbrev pub like_rule : Value → Value → Given
like_rule text pattern = given_truth (is_like (text_of pattern) (text_of text))

abbrev pub not_like_rule : Value → Value → Given
not_like_rule text pattern = given_truth (not (is_like (text_of pattern) (text_of text)))

-- RLIKE
abbrev pub rlike_rule : Value → Value → Given
rlike_rule text pattern = given_truth (matches_whole (text_of pattern) (text_of text))

abbrev pub not_rlike_rule : Value → Value → Given
not_rlike_rule text pattern = given_truth (not (matches_whole (text_of pattern) (text_of text)))

-- Conversions of one value ---------------------------------------------------------------------------------------------------------

-- a long as an integer
abbrev pub narrowed : ℤ → Given
narrowed number = if fits_integer number then given_one (Int number) else failed (cause.OutOfInteger number)

-- the number that a text spells
abbrev pub spelled_as : Bool → List ℕ → Option ℤ → Given
spelled_as integers text None = failed (cause.CannotParse text)
spelled_as integers text (Some number) = given_one (number_in integers number)

-- TO_INTEGER
abbrev pub integer_rule : Value → Given
integer_rule (Int number) = given_one (Int number)
integer_rule (Long number) = narrowed number
integer_rule (Boolean truth) = given_one (Int (number_of_truth truth))
integer_rule (Keyword text) = spelled_as true text (spelled_integer text)

-- TO_LONG
abbrev pub long_rule : Value → Given
long_rule (Int number) = given_one (Long number)
long_rule (Long number) = given_one (Long number)
long_rule (Boolean truth) = given_one (Long (number_of_truth truth))
long_rule (Keyword text) = spelled_as false text (spelled_long text)

-- TO_BOOLEAN
abbrev pub boolean_rule : Value → Given
boolean_rule (Int number) = given_truth (truth_of_number number)
boolean_rule (Long number) = given_truth (truth_of_number number)
boolean_rule (Boolean truth) = given_truth truth
boolean_rule (Keyword text) = given_truth (truth_of_text text)

-- TO_STRING
abbrev pub string_rule : Value → Given
string_rule (Int number) = given_text (signed_decimal number)
string_rule (Long number) = given_text (signed_decimal number)
string_rule (Boolean truth) = given_text (text_of_truth truth)
string_rule (Keyword text) = given_text text

-- Texts --------------------------------------------------------------------------------------------------------------------------------

abbrev pub length_rule : Value → Given
length_rule text = given_one (Int (pos (length_of (text_of text))))

-- CONCAT: the texts one after another
abbrev pub concat_rule : List Value → Given
concat_rule texts = given_text (flat_map text_of texts)

abbrev pub substring_given : Result (List ℕ) ℤ → Given
substring_given (Ok text) = given_text text
substring_given (Err length) = failed (cause.NegativeLength length)

-- SUBSTRING, with a length or without
abbrev pub substring_rule : List Value → Given
substring_rule [] = given_nothing
substring_rule (text ∷ []) = given_nothing
substring_rule (text ∷ start ∷ []) = given_text (substring_from (text_of text) (number_of start))
substring_rule (text ∷ start ∷ length ∷ []) = substring_given (substring_of (text_of text) (number_of start) (number_of length))
substring_rule (text ∷ start ∷ length ∷ more ∷ rest) = given_nothing

abbrev pub left_rule : Value → Value → Given
left_rule text count = given_text (left_of (text_of text) (number_of count))

abbrev pub right_rule : Value → Value → Given
right_rule text count = given_text (right_of (text_of text) (number_of count))

-- TRIM, LTRIM, RTRIM: the text without the white space at both ends, at the front, at the end
abbrev pub trim_rule : Value → Given
trim_rule text = given_text (trim (text_of text))

abbrev pub ltrim_rule : Value → Given
ltrim_rule text = given_text (trim_start (text_of text))

abbrev pub rtrim_rule : Value → Given
rtrim_rule text = given_text (trim_end (text_of text))

abbrev pub starts_with_rule : Value → Value → Given
starts_with_rule text front = given_truth (begins_with (text_of text) (text_of front))

abbrev pub ends_with_rule : Value → Value → Given
ends_with_rule text back = given_truth (finishes_with (text_of text) (text_of back))

abbrev pub replace_rule : Value → Value → Value → Given
replace_rule text pattern with = given_text (replaced (text_of pattern) (text_of text) (text_of with))

-- the pieces between a delimiter, which may not be empty
abbrev pub split_by : List ℕ → List ℕ → Given
split_by text [] = failed cause.EmptyDelimiter
split_by text (byte ∷ bytes) = given (map Keyword (split_of text (byte ∷ bytes)))

abbrev pub split_rule : Value → Value → Given
split_rule text delimiter = split_by (text_of text) (text_of delimiter)

-- Lists -----------------------------------------------------------------------------------------------------------------------------------

-- a rule on a list without further arguments
abbrev pub alone : (List Value → Given) → List Value → List Value → Given
alone rule list [] = rule list
alone rule list (value ∷ rest) = given_nothing

abbrev pub count_rule : List Value → Given
count_rule list = given_one (Int (pos (count_of list)))

-- MV_CONCAT: the texts with a delimiter between each two
abbrev pub concat_list_rule : List Value → List Value → Given
concat_list_rule texts = of_one (λ delimiter. given_text (joined (text_of delimiter) (map text_of texts)))

-- GREATEST, MV_MAX
abbrev pub greatest_rule : List Value → Given
greatest_rule values = given (greatest_of value_cmp values)

-- LEAST, MV_MIN
abbrev pub least_rule : List Value → Given
least_rule values = given (least_of value_cmp values)

abbrev pub first_rule : List Value → Given
first_rule list = given (first_of list)

abbrev pub last_rule : List Value → Given
last_rule list = given (last_of list)

abbrev pub dedupe_rule : List Value → Given
dedupe_rule list = given (distinct_of (λ left right. is_eq (value_cmp left right)) list)

abbrev pub sort_rule : List Value → Given
sort_rule list = given (sorted_by value_cmp list)

-- in the order of values turned round
abbrev pub sort_desc_rule : List Value → Given
sort_desc_rule list = given (sorted_by (λ left right. value_cmp right left) list)

abbrev pub append_rule : List (List Value) → Given
append_rule = of_two (λ list other. given (list ++ other))

-- MV_SLICE: to an end, which is the start where none is written
abbrev pub slice_rule : List Value → List Value → Given
slice_rule list [] = given_nothing
slice_rule list (start ∷ []) = given (slice_of list (number_of start) (number_of start))
slice_rule list (start ∷ end ∷ []) = given (slice_of list (number_of start) (number_of end))
slice_rule list (start ∷ end ∷ more ∷ rest) = given_nothing

-- The table ---------------------------------------------------------------------------------------------------------------------------------

-- the rule of each function
abbrev pub rule_of : Function → Rule
rule_of function.Add = singles (of_two (arithmetic_rule op.Add))
rule_of function.Sub = singles (of_two (arithmetic_rule op.Sub))
rule_of function.Mul = singles (of_two (arithmetic_rule op.Mul))
rule_of function.Div = singles (of_two (arithmetic_rule op.Div))
rule_of function.Mod = singles (of_two (arithmetic_rule op.Mod))
rule_of function.Neg = singles (of_one neg_rule)
rule_of function.Abs = singles (of_one abs_rule)
rule_of function.Eq = singles (of_two (comparison_rule comparison.Equal))
rule_of function.Ne = singles (of_two (comparison_rule comparison.NotEqual))
rule_of function.Lt = singles (of_two (comparison_rule comparison.Less))
rule_of function.Le = singles (of_two (comparison_rule comparison.LessEqual))
rule_of function.Gt = singles (of_two (comparison_rule comparison.Greater))
rule_of function.Ge = singles (of_two (comparison_rule comparison.GreaterEqual))
rule_of function.And = logic (of_two_truths and_of)
rule_of function.Or = logic (of_two_truths or_of)
rule_of function.Not = logic (of_one_truth not_of)
rule_of function.In = membership as_it_is
rule_of function.NotIn = membership not_of
rule_of function.Like = singles (of_two like_rule)
rule_of function.Rlike = singles (of_two rlike_rule)
rule_of function.NotLike = singles (of_two not_like_rule)
rule_of function.NotRlike = singles (of_two not_rlike_rule)
rule_of function.IsNull = tests is_null
rule_of function.IsNotNull = tests is_not_null
rule_of function.Greatest = singles greatest_rule
rule_of function.Least = singles least_rule
rule_of function.Case = conditions
rule_of function.Coalesce = alternatives
rule_of function.ToInteger = each integer_rule
rule_of function.ToLong = each long_rule
rule_of function.ToBoolean = each boolean_rule
rule_of function.ToString = each string_rule
rule_of function.Length = singles (of_one length_rule)
rule_of function.Concat = singles concat_rule
rule_of function.Substring = singles substring_rule
rule_of function.Left = singles (of_two left_rule)
rule_of function.Right = singles (of_two right_rule)
rule_of function.Trim = singles (of_one trim_rule)
rule_of function.Ltrim = singles (of_one ltrim_rule)
rule_of function.Rtrim = singles (of_one rtrim_rule)
rule_of function.StartsWith = singles (of_two starts_with_rule)
rule_of function.EndsWith = singles (of_two ends_with_rule)
rule_of function.Replace = singles (of_three replace_rule)
rule_of function.Split = singles (of_two split_rule)
rule_of function.MvCount = list_and_singles (alone count_rule)
rule_of function.MvSum = list_and_singles (alone sum_rule)
rule_of function.MvMin = list_and_singles (alone least_rule)
rule_of function.MvMax = list_and_singles (alone greatest_rule)
rule_of function.MvFirst = list_and_singles (alone first_rule)
rule_of function.MvLast = list_and_singles (alone last_rule)
rule_of function.MvDedupe = list_and_singles (alone dedupe_rule)
rule_of function.MvSort = list_and_singles (alone sort_rule)
rule_of function.MvSortDesc = list_and_singles (alone sort_desc_rule)
rule_of function.MvConcat = list_and_singles concat_list_rule
rule_of function.MvAppend = lists append_rule
rule_of function.MvSlice = list_and_singles slice_rule
