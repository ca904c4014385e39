-- The order of rows that have a cell for each key.
use Rattle.std.specs.Prelude.{ℕ, ◌+◌, List, [], ◌∷◌, length, slice_index_or}
use Rattle.std.specs.List.{range_with_len}
use Rattle.std.specs.Ordering.{ordering_then}
use Rattle.std.specs.declared.cmp.Ordering.{Ordering}
use Rattle.std.specs.declared.cmp.Ordering.TheVariants.{Equal}
use Rattle.esql_types.specs.declared.value.Value.{Value}
use Rattle.function_rules.specs.Lists.{sorted_by}
use Rattle.esql_plan.specs.declared.step.PlanKey.{PlanKey}
use Rattle.plan_semantics.specs.Orders.{order_of_cells}

-- rows by the first of the keys at which they differ, where the cells of the first of these keys stand at a place
abbrev pub order_from : ℕ → List PlanKey → List (List Value) → List (List Value) → Ordering
order_from place [] this that = Equal
order_from place (key ∷ keys) this that =
    ordering_then (order_of_cells key.descending key.nulls_first (slice_index_or this place []) (slice_index_or that place [])) (order_from (place + 1) keys this that)

-- the places of two rows, by these rows
abbrev pub order_of_places : List PlanKey → List (List (List Value)) → ℕ → ℕ → Ordering
order_of_places keys rows this that = order_from 0 keys (slice_index_or rows this []) (slice_index_or rows that [])

-- the places of rows in the order of the rows, and in their own order where rows tie
abbrev pub places_in_order : List PlanKey → List (List (List Value)) → List ℕ
places_in_order keys rows = sorted_by (order_of_places keys rows) (range_with_len 0 (length rows))
