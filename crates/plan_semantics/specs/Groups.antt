-- Groups of rows by their keys, and what aggregates give of the rows of a group.
use Rattle.std.specs.Prelude.{ℕ, zero, suc, ◌+◌, min, pos, Bool, true, false, ◌&&◌, List, [], ◌∷◌, ◌++◌, map, length, filter, slice_index_or}
use Rattle.std.specs.List.{flat_map, list_any}
use Rattle.std.specs.Ordering.{is_eq}
use Rattle.esql_types.specs.declared.value.Value.{Value}
use Rattle.esql_types.specs.declared.value.Value.TheVariants.{Long}
use Rattle.esql_types.specs.declared.cause.Failure.{Failure}
use Rattle.esql_types.specs.Values.{value_cmp}
use Rattle.function_rules.specs.Lists.{distinct_of, least_of, greatest_of}
use Rattle.number_rules.specs.Sums.{sum_within}
use Rattle.esql_plan.specs.declared.function.AggFunction.{AggFunction}
use Rattle.esql_plan.specs.declared.function.AggFunction.TheVariants.{CountRows, Count, CountDistinct, Sum, Min, Max, Values}
use Rattle.esql_plan.specs.declared.step.Aggregate.{Aggregate}
use Rattle.esql_plan.specs.Functions.{sum_given}
use Rattle.esql_plan.specs.Rules.{Given, given, given_one, given_nothing, number_of}
use Rattle.esql_plan.specs.Values.{failures_at}

-- Values that are equal ------------------------------------------------------------------------------------------------------

abbrev pub same_value : Value → Value → Bool
same_value this that = is_eq (value_cmp this that)

-- each value once, by its first place
abbrev pub distinct_values : List Value → List Value
distinct_values values = distinct_of same_value values

-- the same items in the same order
abbrev pub same_list : {Item : Type 0} → (Item → Item → Bool) → List Item → List Item → Bool
same_list same [] [] = true
same_list same [] (that ∷ those) = false
same_list same (this ∷ these) [] = false
same_list same (this ∷ these) (that ∷ those) = same this that && same_list same these those

-- Keys -----------------------------------------------------------------------------------------------------------------------

-- a key of a group: a cell for each column that rows are grouped by, with one value or null
abbrev pub Key : Type 0
Key = List (List Value)

abbrev pub same_key : Key → Key → Bool
same_key this that = same_list (same_list same_value) this that

-- the distinct values of a cell by first occurrence, each alone, or null alone where there is none
abbrev pub key_cells : List Value → List (List Value)
key_cells [] = [] ∷ []
key_cells (value ∷ values) = map (λ one. one ∷ []) (distinct_values (value ∷ values))

-- each choice of one item from each list, the first list varying slowest
abbrev pub choices : {Item : Type 0} → List (List Item) → List (List Item)
choices [] = [] ∷ []
choices (items ∷ lists) = flat_map (λ item. map (λ more. item ∷ more) (choices lists)) items

-- the keys of a row, by its cells of the columns that rows are grouped by
abbrev pub keys_of_cells : List (List Value) → List Key
keys_of_cells cells = choices (map key_cells cells)

-- Groups ---------------------------------------------------------------------------------------------------------------------

-- what groups look at in a row: its cells of the columns that rows are grouped by, and those of the aggregates' inputs
pub record Entry : Type 0 where
  pub keys : List (List Value)
  pub inputs : List (List Value)

abbrev pub keys_of_entry : Entry → List Key
keys_of_entry entry = keys_of_cells entry.keys

-- The keys of the groups by first appearance. Where rows are grouped by no column there is one group, over no rows too.
abbrev pub keys_of_groups : ℕ → List Entry → List Key
keys_of_groups zero entries = [] ∷ []
keys_of_groups (suc columns) entries = distinct_of same_key (flat_map keys_of_entry entries)

-- the rows of a group are those that have its key among theirs, in order
abbrev pub entries_of_key : Key → List Entry → List Entry
entries_of_key key entries = filter (λ entry. list_any (same_key key) (keys_of_entry entry)) entries

-- Aggregates -----------------------------------------------------------------------------------------------------------------

-- a count, which is the greatest long where it would be above that
abbrev pub count_given : ℕ → Given
count_given count = given_one (Long (pos (min count 9223372036854775807)))

-- What an aggregate gives of so many rows and of their values in order. A sum goes through 128 bits; where a partial sum leaves
-- these, or the whole leaves a long, it is null with a failure. Over no value counts are 0, and the others null.
abbrev pub aggregate_of : AggFunction → ℕ → List Value → Given
aggregate_of CountRows rows values = count_given rows
aggregate_of Count rows values = count_given (length values)
aggregate_of CountDistinct rows values = count_given (length (distinct_values values))
aggregate_of Sum rows [] = given_nothing
aggregate_of Sum rows (value ∷ values) = sum_given false (sum_within 63 (map number_of (value ∷ values)))
aggregate_of Min rows values = given (least_of value_cmp values)
aggregate_of Max rows values = given (greatest_of value_cmp values)
aggregate_of Values rows values = given (distinct_values values)

-- the values of the inputs at a place, in order of the rows
abbrev pub values_at : ℕ → List Entry → List Value
values_at place entries = flat_map (λ (entry : Entry). slice_index_or entry.inputs place []) entries

-- what aggregates give of the rows of a group, the first of them of the inputs at a place and the others of those behind it
abbrev pub aggregates_from : ℕ → List Aggregate → List Entry → List Given
aggregates_from place [] entries = []
aggregates_from place (aggregate ∷ aggregates) entries =
    aggregate_of aggregate.function (length entries) (values_at place entries) ∷ aggregates_from (place + 1) aggregates entries

-- what aggregates give of the rows of the group of a key
abbrev pub aggregates_at : List Aggregate → List Entry → Key → List Given
aggregates_at aggregates entries key = aggregates_from 0 aggregates (entries_of_key key entries)

-- a group's row: the cells of the aggregates, then those of its key
abbrev pub cells_of_group : List Aggregate → List Entry → Key → List (List Value)
cells_of_group aggregates entries key = map (λ (one : Given). one.cell) (aggregates_at aggregates entries key) ++ key

-- a row for each group
abbrev pub rows_of_groups : ℕ → List Aggregate → List Entry → List (List (List Value))
rows_of_groups columns aggregates entries = map (cells_of_group aggregates entries) (keys_of_groups columns entries)

-- the failures of aggregates by what they give
abbrev pub failures_given : List Aggregate → List Given → List Failure
failures_given [] results = []
failures_given (aggregate ∷ aggregates) [] = []
failures_given (aggregate ∷ aggregates) (one ∷ results) = failures_at aggregate.node one.causes ++ failures_given aggregates results

-- the failures of the aggregates, group after group
abbrev pub failures_of_groups : ℕ → List Aggregate → List Entry → List Failure
failures_of_groups columns aggregates entries =
    flat_map (λ key. failures_given aggregates (aggregates_at aggregates entries key)) (keys_of_groups columns entries)
