-- The state of an aggregate is that of its rows and their values, and gives what the aggregate gives of them.
use Rattle.std.proofs.Common.{◌≡◌, ℕ, ◌+◌, min, ℤ, pos, Bool, true, false, List, [], ◌∷◌, ◌++◌, map, length, Option, Some, None, refl, sym, ap, ◌∙◌, arith, length-append}
use Rattle.std.specs.Prelude.{if◌then◌else◌, fold}
use Rattle.std.specs.Option.{option_to_list}
use Rattle.std.specs.Ordering.{is_lt, is_gt}
use Rattle.std.proofs.lemmas.List.Sums.{fold-append}
use Rattle.esql_types.specs.Values.{value_cmp}
use Rattle.esql_types.specs.declared.value.Value.{Value}
use Rattle.esql_types.specs.declared.value.Value.TheVariants.{Long}
use Rattle.function_rules.specs.Lists.{least_from, least_of, greatest_from, greatest_of}
use Rattle.number_rules.specs.Sums.{plus_128}
use Rattle.esql_plan.specs.declared.function.AggFunction.{AggFunction}
use Rattle.esql_plan.specs.declared.function.AggFunction.TheVariants as function
use Rattle.esql_plan.specs.Rules.{given, given_one, number_of}
use Rattle.indexmap.specs.IndexSet.{insert_key}
use Rattle.plain_functions.specs.ValueOrder.{same_equivalence}
use Rattle.plan_semantics.specs.Groups.{aggregate_of, count_given, distinct_values, same_value}
use Rattle.stats_groups.specs.declared.state.State.TheVariants.{Rows, Count, CountDistinct, Summed, Least, Greatest, Values}
use Rattle.stats_groups.specs.States.{state_before, state_after, state_of, given_of_state, given_of_sum, with_value, nothing_summed, best_after}
use Rattle.stats_groups.proofs.DistinctFolds.{distinct_by_fold}

counted_on : (most count more : ℕ) → min (min count most + more) most ≡ min (count + more) most
counted_on most count more = omega arith

pub state_more : (kind : AggFunction) (rows : ℕ) (values more : List Value)
    → state_after (state_of kind rows values) more ≡ state_of kind (rows + 1) (values ++ more)
state_more function.CountRows rows values more = ap Rows (counted_on 18446744073709551615 rows 1)
state_more function.Count rows values more =
    ap Count (counted_on 18446744073709551615 (length values) (length more) ∙ ap (λ count. min count 18446744073709551615) (sym (length-append values more)))
state_more function.CountDistinct rows values more = ap CountDistinct (sym (fold-append (insert_key same_value) [] values more))
state_more function.Sum rows values more = ap Summed (sym (fold-append with_value nothing_summed values more))
state_more function.Min rows values more = ap Least (sym (fold-append (best_after is_lt) None values more))
state_more function.Max rows values more = ap Greatest (sym (fold-append (best_after is_gt) None values more))
state_more function.Values rows values more = ap Values (sym (fold-append (insert_key same_value) [] values more))

pub state_first : (kind : AggFunction) → state_before kind ≡ state_of kind 0 []
state_first function.CountRows = refl
state_first function.Count = refl
state_first function.CountDistinct = refl
state_first function.Sum = refl
state_first function.Min = refl
state_first function.Max = refl
state_first function.Values = refl

-- a count of 64 bits is as good as the count itself, since a long holds less
count_within : (count : ℕ) → min (min count 18446744073709551615) 9223372036854775807 ≡ min count 9223372036854775807
count_within count = omega arith

count_same : (count : ℕ) → count_given (min count 18446744073709551615) ≡ count_given count
count_same count = ap (λ shown. given_one (Long (pos shown))) (count_within count)

summed_some : (total : Option ℤ) (values : List Value)
    → fold with_value (record { is_empty = false; total = total }) values ≡ record { is_empty = false; total = fold plus_128 total (map number_of values) }
summed_some total [] = refl
summed_some total (value ∷ values) = summed_some (plus_128 total (number_of value)) values

sum_same : (rows : ℕ) (values : List Value) → given_of_sum (fold with_value nothing_summed values) ≡ aggregate_of function.Sum rows values
sum_same rows [] = refl
sum_same rows (value ∷ values) = ap given_of_sum (summed_some (plus_128 (Some (pos 0)) (number_of value)) values)

least_same : (values : List Value) (best : Value) → fold (best_after is_lt) (Some best) values ≡ Some (least_from value_cmp best values)
least_same [] best = refl
least_same (value ∷ values) best = go (is_lt (value_cmp value best)) (least_same values)
  where
    go : (is_less : Bool) → ((next : Value) → fold (best_after is_lt) (Some next) values ≡ Some (least_from value_cmp next values))
        → fold (best_after is_lt) (if is_less then Some value else Some best) values ≡ Some (least_from value_cmp (if is_less then value else best) values)
    go true later = later value
    go false later = later best

least_given : (values : List Value) → option_to_list (fold (best_after is_lt) None values) ≡ least_of value_cmp values
least_given [] = refl
least_given (value ∷ values) = ap option_to_list (least_same values value)

greatest_same : (values : List Value) (best : Value) → fold (best_after is_gt) (Some best) values ≡ Some (greatest_from value_cmp best values)
greatest_same [] best = refl
greatest_same (value ∷ values) best = go (is_gt (value_cmp value best)) (greatest_same values)
  where
    go : (is_greater : Bool) → ((next : Value) → fold (best_after is_gt) (Some next) values ≡ Some (greatest_from value_cmp next values))
        → fold (best_after is_gt) (if is_greater then Some value else Some best) values ≡ Some (greatest_from value_cmp (if is_greater then value else best) values)
    go true later = later value
    go false later = later best

greatest_given : (values : List Value) → option_to_list (fold (best_after is_gt) None values) ≡ greatest_of value_cmp values
greatest_given [] = refl
greatest_given (value ∷ values) = ap option_to_list (greatest_same values value)

distinct_same : (values : List Value) → fold (insert_key same_value) [] values ≡ distinct_values values
distinct_same values = distinct_by_fold same_value same_equivalence values

pub state_given : (kind : AggFunction) (rows : ℕ) (values : List Value) → given_of_state (state_of kind rows values) ≡ aggregate_of kind rows values
state_given function.CountRows rows values = count_same rows
state_given function.Count rows values = count_same (length values)
state_given function.CountDistinct rows values = ap (λ (kept : List Value). count_given (length kept)) (distinct_same values)
state_given function.Sum rows values = sum_same rows values
state_given function.Min rows values = ap given (least_given values)
state_given function.Max rows values = ap given (greatest_given values)
state_given function.Values rows values = ap given (distinct_same values)
