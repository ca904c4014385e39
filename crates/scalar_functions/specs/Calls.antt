-- The rule of each call, which is that of its function.
use Rattle.std.specs.Prelude.{Bool, true, false, List, Option}
use Rattle.esql_types.specs.declared.value.Value.{Value}
use Rattle.function_rules.specs.Logic.{and_of, or_of, not_of}
use Rattle.esql_plan.specs.Rules.{Rule, singles, each, list_and_singles, lists, tests, logic, membership, conditions, alternatives, Given, given_singles, given_each, given_list, given_lists, given_logic, given_membership, given_one, is_null, first_cell, later_cells}
use Rattle.esql_plan.specs.Functions.{of_one, of_two, of_three, of_one_truth, of_two_truths, arithmetic_rule, neg_rule, abs_rule, comparison_rule, like_rule, not_like_rule, rlike_rule, not_rlike_rule, length_rule, concat_rule, substring_rule, left_rule, right_rule, trim_rule, ltrim_rule, rtrim_rule, starts_with_rule, ends_with_rule, replace_rule, split_rule, integer_rule, long_rule, boolean_rule, string_rule, alone, count_rule, sum_rule, greatest_rule, least_rule, first_rule, last_rule, dedupe_rule, sort_rule, sort_desc_rule, concat_list_rule, append_rule, slice_rule, is_not_null, as_it_is}
use Rattle.esql_types.specs.declared.value.Value.TheVariants.{Bool as Truth}
use Rattle.esql_plan.specs.declared.function.Function.{Function}
use Rattle.esql_plan.specs.declared.function.Function.TheVariants as function
use Rattle.number_rules.specs.declared.Arithmetic.TheVariants as op
use Rattle.number_rules.specs.declared.Comparison.TheVariants as comparison
use Rattle.scalar_functions.specs.declared.call.Call.{Call}
use Rattle.scalar_functions.specs.declared.call.Call.TheVariants.{Branches as InBranches, Plain as OfCells}
use Rattle.scalar_functions.specs.declared.call.Branches.{Branches}
use Rattle.scalar_functions.specs.declared.call.Branches.TheVariants.{Case, Coalesce}
use Rattle.scalar_functions.specs.declared.call.Plain.{Plain}
use Rattle.scalar_functions.specs.declared.call.Plain.TheVariants as plain
use Rattle.scalar_functions.specs.declared.call.SingleFunction.{SingleFunction}
use Rattle.scalar_functions.specs.declared.call.SingleFunction.TheVariants as single
use Rattle.scalar_functions.specs.declared.call.Unary.{Unary}
use Rattle.scalar_functions.specs.declared.call.Unary.TheVariants as unary
use Rattle.scalar_functions.specs.declared.call.Binary.{Binary}
use Rattle.scalar_functions.specs.declared.call.Binary.TheVariants as binary
use Rattle.scalar_functions.specs.declared.call.Conversion.{Conversion}
use Rattle.scalar_functions.specs.declared.call.Conversion.TheVariants as to
use Rattle.scalar_functions.specs.declared.call.ListFunction.{ListFunction}
use Rattle.scalar_functions.specs.declared.call.ListFunction.TheVariants as list
use Rattle.scalar_functions.specs.declared.call.AloneFunction.{AloneFunction}
use Rattle.scalar_functions.specs.declared.call.AloneFunction.TheVariants as only
use Rattle.scalar_functions.specs.declared.call.Connective.{Connective}
use Rattle.scalar_functions.specs.declared.call.Connective.TheVariants as connective

abbrev pub unary_rule : Unary → Value → Given
unary_rule unary.Neg = neg_rule
unary_rule unary.Abs = abs_rule
unary_rule unary.Length = length_rule
unary_rule unary.Trim = trim_rule
unary_rule unary.Ltrim = ltrim_rule
unary_rule unary.Rtrim = rtrim_rule

abbrev pub binary_rule : Binary → Value → Value → Given
binary_rule (binary.Arithmetic op) = arithmetic_rule op
binary_rule (binary.Compare comparison) = comparison_rule comparison
binary_rule (binary.Like false) = like_rule
binary_rule (binary.Like true) = not_like_rule
binary_rule binary.Left = left_rule
binary_rule binary.Right = right_rule
binary_rule binary.StartsWith = starts_with_rule
binary_rule binary.EndsWith = ends_with_rule
binary_rule binary.Split = split_rule

abbrev pub matching_rule : Bool → Value → Value → Given
matching_rule false = rlike_rule
matching_rule true = not_rlike_rule

abbrev pub best_rule : Bool → List Value → Given
best_rule true = greatest_rule
best_rule false = least_rule

abbrev pub single_rule : SingleFunction → List Value → Given
single_rule (single.Unary function) = of_one (unary_rule function)
single_rule (single.Binary function) = of_two (binary_rule function)
single_rule (single.Rlike negated) = of_two (matching_rule negated)
single_rule single.Replace = of_three replace_rule
single_rule single.Substring = substring_rule
single_rule single.Concat = concat_rule
single_rule (single.Best greatest) = best_rule greatest

abbrev pub conversion_rule : Conversion → Value → Given
conversion_rule to.Integer = integer_rule
conversion_rule to.Long = long_rule
conversion_rule to.Boolean = boolean_rule
conversion_rule to.String = string_rule

abbrev pub directed_rule : Bool → List Value → Given
directed_rule false = sort_rule
directed_rule true = sort_desc_rule

abbrev pub alone_rule : AloneFunction → List Value → Given
alone_rule only.Count = count_rule
alone_rule only.Sum = sum_rule
alone_rule (only.Best greatest) = best_rule greatest
alone_rule only.First = first_rule
alone_rule only.Last = last_rule
alone_rule only.Dedupe = dedupe_rule
alone_rule (only.Sort descending) = directed_rule descending

abbrev pub list_rule : ListFunction → List Value → List Value → Given
list_rule (list.Alone function) = alone (alone_rule function)
list_rule list.Concat = concat_list_rule
list_rule list.Slice = slice_rule

abbrev pub connective_rule : Connective → List (Option Bool) → Option Bool
connective_rule connective.And = of_two_truths and_of
connective_rule connective.Or = of_two_truths or_of
connective_rule connective.Not = of_one_truth not_of

abbrev pub test_rule : Bool → List Value → Bool
test_rule false = is_null
test_rule true = is_not_null

abbrev pub membership_rule : Bool → Option Bool → Option Bool
membership_rule false = as_it_is
membership_rule true = not_of

abbrev pub rule_of_plain : Plain → Rule
rule_of_plain (plain.Singles function) = singles (single_rule function)
rule_of_plain (plain.Each conversion) = each (conversion_rule conversion)
rule_of_plain (plain.List function) = list_and_singles (list_rule function)
rule_of_plain plain.Append = lists append_rule
rule_of_plain (plain.Test negated) = tests (test_rule negated)
rule_of_plain (plain.Logic connective) = logic (connective_rule connective)
rule_of_plain (plain.Membership negated) = membership (membership_rule negated)

abbrev pub rule_of_branches : Branches → Rule
rule_of_branches Case = conditions
rule_of_branches Coalesce = alternatives

abbrev pub rule_of_call : Call → Rule
rule_of_call (InBranches branches) = rule_of_branches branches
rule_of_call (OfCells plain) = rule_of_plain plain

-- what a call gives of the cells of its arguments
abbrev pub given_of : Plain → List (List Value) → Given
given_of (plain.Singles function) cells = given_singles (single_rule function) cells
given_of (plain.Each conversion) cells = given_each (conversion_rule conversion) (first_cell cells)
given_of (plain.List function) cells = given_list (list_rule function) (first_cell cells) (later_cells cells)
given_of plain.Append cells = given_lists append_rule cells
given_of (plain.Test negated) cells = given_one (Truth (test_rule negated (first_cell cells)))
given_of (plain.Logic connective) cells = given_logic (connective_rule connective) cells
given_of (plain.Membership negated) cells = given_membership (membership_rule negated) (first_cell cells) (later_cells cells)

-- how each function is called
abbrev pub call_of : Function → Call
call_of function.Add = OfCells (plain.Singles (single.Binary (binary.Arithmetic op.Add)))
call_of function.Sub = OfCells (plain.Singles (single.Binary (binary.Arithmetic op.Sub)))
call_of function.Mul = OfCells (plain.Singles (single.Binary (binary.Arithmetic op.Mul)))
call_of function.Div = OfCells (plain.Singles (single.Binary (binary.Arithmetic op.Div)))
call_of function.Mod = OfCells (plain.Singles (single.Binary (binary.Arithmetic op.Mod)))
call_of function.Neg = OfCells (plain.Singles (single.Unary (unary.Neg)))
call_of function.Abs = OfCells (plain.Singles (single.Unary (unary.Abs)))
call_of function.Eq = OfCells (plain.Singles (single.Binary (binary.Compare comparison.Equal)))
call_of function.Ne = OfCells (plain.Singles (single.Binary (binary.Compare comparison.NotEqual)))
call_of function.Lt = OfCells (plain.Singles (single.Binary (binary.Compare comparison.Less)))
call_of function.Le = OfCells (plain.Singles (single.Binary (binary.Compare comparison.LessEqual)))
call_of function.Gt = OfCells (plain.Singles (single.Binary (binary.Compare comparison.Greater)))
call_of function.Ge = OfCells (plain.Singles (single.Binary (binary.Compare comparison.GreaterEqual)))
call_of function.And = OfCells (plain.Logic (connective.And))
call_of function.Or = OfCells (plain.Logic (connective.Or))
call_of function.Not = OfCells (plain.Logic (connective.Not))
call_of function.In = OfCells (plain.Membership false)
call_of function.NotIn = OfCells (plain.Membership true)
call_of function.Like = OfCells (plain.Singles (single.Binary (binary.Like false)))
call_of function.Rlike = OfCells (plain.Singles (single.Rlike false))
call_of function.NotLike = OfCells (plain.Singles (single.Binary (binary.Like true)))
call_of function.NotRlike = OfCells (plain.Singles (single.Rlike true))
call_of function.IsNull = OfCells (plain.Test false)
call_of function.IsNotNull = OfCells (plain.Test true)
call_of function.Greatest = OfCells (plain.Singles (single.Best true))
call_of function.Least = OfCells (plain.Singles (single.Best false))
call_of function.Case = InBranches (Case)
call_of function.Coalesce = InBranches (Coalesce)
call_of function.ToInteger = OfCells (plain.Each (to.Integer))
call_of function.ToLong = OfCells (plain.Each (to.Long))
call_of function.ToBoolean = OfCells (plain.Each (to.Boolean))
call_of function.ToString = OfCells (plain.Each (to.String))
call_of function.Length = OfCells (plain.Singles (single.Unary (unary.Length)))
call_of function.Concat = OfCells (plain.Singles (single.Concat))
call_of function.Substring = OfCells (plain.Singles (single.Substring))
call_of function.Left = OfCells (plain.Singles (single.Binary (binary.Left)))
call_of function.Right = OfCells (plain.Singles (single.Binary (binary.Right)))
call_of function.Trim = OfCells (plain.Singles (single.Unary (unary.Trim)))
call_of function.Ltrim = OfCells (plain.Singles (single.Unary (unary.Ltrim)))
call_of function.Rtrim = OfCells (plain.Singles (single.Unary (unary.Rtrim)))
call_of function.StartsWith = OfCells (plain.Singles (single.Binary (binary.StartsWith)))
call_of function.EndsWith = OfCells (plain.Singles (single.Binary (binary.EndsWith)))
call_of function.Replace = OfCells (plain.Singles (single.Replace))
call_of function.Split = OfCells (plain.Singles (single.Binary (binary.Split)))
call_of function.MvCount = OfCells (plain.List (list.Alone (only.Count)))
call_of function.MvSum = OfCells (plain.List (list.Alone (only.Sum)))
call_of function.MvMin = OfCells (plain.List (list.Alone (only.Best false)))
call_of function.MvMax = OfCells (plain.List (list.Alone (only.Best true)))
call_of function.MvFirst = OfCells (plain.List (list.Alone (only.First)))
call_of function.MvLast = OfCells (plain.List (list.Alone (only.Last)))
call_of function.MvDedupe = OfCells (plain.List (list.Alone (only.Dedupe)))
call_of function.MvSort = OfCells (plain.List (list.Alone (only.Sort false)))
call_of function.MvSortDesc = OfCells (plain.List (list.Alone (only.Sort true)))
call_of function.MvConcat = OfCells (plain.List (list.Concat))
call_of function.MvAppend = OfCells (plain.Append)
call_of function.MvSlice = OfCells (plain.List (list.Slice))
