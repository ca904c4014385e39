-- What is kept of the values of a group for an aggregate, and what it gives in the end.
use Rattle.std.specs.Prelude.{ℕ, ◌+◌, min, Bool, true, false, List, [], ◌∷◌, map, length, fold, Option, Some, None, if◌then◌else◌, pos, slice_index_or}
use Rattle.std.specs.Option.{option_to_list}
use Rattle.std.specs.Ordering.{is_lt, is_gt}
use Rattle.std.specs.declared.cmp.Ordering.{Ordering}
use Rattle.esql_types.specs.Values.{value_cmp}
use Rattle.esql_types.specs.declared.cause.Failure.{Failure}
use Rattle.esql_types.specs.declared.value.Value.{Value}
use Rattle.number_rules.specs.Sums.{plus_128, sum_in}
use Rattle.esql_plan.specs.declared.function.AggFunction.{AggFunction}
use Rattle.esql_plan.specs.declared.function.AggFunction.TheVariants as function
use Rattle.esql_plan.specs.declared.step.Aggregate.{Aggregate}
use Rattle.esql_plan.specs.Functions.{sum_given}
use Rattle.esql_plan.specs.Rules.{Given, given, given_nothing, number_of}
use Rattle.esql_plan.specs.Values.{failures_at}
use Rattle.indexmap.specs.IndexSet.{insert_key}
use Rattle.plan_semantics.specs.Groups.{same_value, count_given}
use Rattle.stats_groups.specs.declared.state.Running.{Running}
use Rattle.stats_groups.specs.declared.state.State.{State}
use Rattle.stats_groups.specs.declared.state.State.TheVariants.{Rows, Count, CountDistinct, Summed, Least, Greatest, Values}
use Rattle.stats_groups.specs.declared.sum.LongSum.{LongSum}

-- a count of 64 bits, which stays at the greatest
abbrev pub count_more : ℕ → ℕ → ℕ
count_more count more = min (count + more) 18446744073709551615

-- distinct values, with those of others that are not among them
abbrev pub with_values : List Value → List Value → List Value
with_values kept values = fold (insert_key same_value) kept values

-- the sum of no values
abbrev pub nothing_summed : LongSum
nothing_summed = record { is_empty = true; total = Some (pos 0) }

-- the sum with one more value
abbrev pub with_value : LongSum → Value → LongSum
with_value sum value = record { is_empty = false; total = plus_128 sum.total (number_of value) }

-- whether a value takes the place of the best one so far
abbrev pub replaces : (Ordering → Bool) → Option Value → Value → Bool
replaces is_better None value = true
replaces is_better (Some best) value = is_better (value_cmp value best)

-- the best value after one more, the earlier one of equals
abbrev pub best_after : (Ordering → Bool) → Option Value → Value → Option Value
best_after is_better best value = if replaces is_better best value then Some value else best

-- a state over no rows
abbrev pub state_before : AggFunction → State
state_before function.CountRows = Rows 0
state_before function.Count = Count 0
state_before function.CountDistinct = CountDistinct []
state_before function.Sum = Summed nothing_summed
state_before function.Min = Least None
state_before function.Max = Greatest None
state_before function.Values = Values []

-- a state after one more row, by the values of its input
abbrev pub state_after : State → List Value → State
state_after (Rows count) values = Rows (count_more count 1)
state_after (Count count) values = Count (count_more count (length values))
state_after (CountDistinct kept) values = CountDistinct (with_values kept values)
state_after (Summed sum) values = Summed (fold with_value sum values)
state_after (Least best) values = Least (fold (best_after is_lt) best values)
state_after (Greatest best) values = Greatest (fold (best_after is_gt) best values)
state_after (Values kept) values = Values (with_values kept values)

-- the state over so many rows and their values
abbrev pub state_of : AggFunction → ℕ → List Value → State
state_of function.CountRows rows values = Rows (min rows 18446744073709551615)
state_of function.Count rows values = Count (min (length values) 18446744073709551615)
state_of function.CountDistinct rows values = CountDistinct (with_values [] values)
state_of function.Sum rows values = Summed (fold with_value nothing_summed values)
state_of function.Min rows values = Least (fold (best_after is_lt) None values)
state_of function.Max rows values = Greatest (fold (best_after is_gt) None values)
state_of function.Values rows values = Values (with_values [] values)

-- what a sum gives: null of no value
abbrev pub given_of_sum : LongSum → Given
given_of_sum sum = if sum.is_empty then given_nothing else sum_given false (sum_in 63 sum.total)

-- what a state gives
abbrev pub given_of_state : State → Given
given_of_state (Rows count) = count_given count
given_of_state (Count count) = count_given count
given_of_state (CountDistinct kept) = count_given (length kept)
given_of_state (Summed sum) = given_of_sum sum
given_of_state (Least best) = given (option_to_list best)
given_of_state (Greatest best) = given (option_to_list best)
given_of_state (Values kept) = given kept

-- the states of aggregates over no rows
abbrev pub running_before : List Aggregate → List Running
running_before aggregates = map (λ (aggregate : Aggregate). record { node = aggregate.node; state = state_before aggregate.function }) aggregates

-- the states after one more row, the first of them by the input at a place and the others by those behind it
abbrev pub running_after : ℕ → List Running → List (List Value) → List Running
running_after place [] inputs = []
running_after place (running ∷ more) inputs =
    record { node = running.node; state = state_after running.state (slice_index_or inputs place []) } ∷ running_after (place + 1) more inputs

-- the cell that a running aggregate gives
abbrev pub cell_of_running : Running → List Value
cell_of_running running = (given_of_state running.state).cell

-- the failures of a running aggregate
abbrev pub failures_of_running : Running → List Failure
failures_of_running running = failures_at running.node (given_of_state running.state).causes
