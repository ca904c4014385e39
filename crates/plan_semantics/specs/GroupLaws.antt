-- What the laws of groups say.
use Rattle.std.specs.List.{IsDistinct}
use Rattle.std.specs.Prelude.{◌≡◌, ℕ, suc, min, pos, List, [], ◌∷◌, map, length, Contains}
use Rattle.esql_types.specs.declared.value.Value.{Value}
use Rattle.esql_types.specs.declared.value.Value.TheVariants.{Long}
use Rattle.esql_plan.specs.declared.function.AggFunction.TheVariants.{CountRows}
use Rattle.esql_plan.specs.declared.step.Aggregate.{Aggregate}
use Rattle.esql_plan.specs.declared.step.Step.TheVariants.{Stats}
use Rattle.esql_plan.specs.Values.{NumberedRow}
use Rattle.plan_semantics.specs.Groups.{same_key, Key, keys_of_cells, Entry, keys_of_entry, keys_of_groups, entries_of_key}
use Rattle.plan_semantics.specs.Tables.{CatalogHeld}
use Rattle.plan_semantics.specs.Steps.{step_rows}

-- without columns to group by there is one row, over no rows too
abbrev pub OneGroupWithoutColumns : Type 0
OneGroupWithoutColumns = (held : CatalogHeld) (aggregates : List Aggregate) (rows : List NumberedRow) → length (step_rows held (Stats aggregates []) rows) ≡ 1

-- without columns to group by, COUNT(*) is the number of all rows, at most the greatest long
abbrev pub AllRowsAreCounted : Type 0
AllRowsAreCounted = (held : CatalogHeld) (count : Aggregate) (rows : List NumberedRow) → count.function ≡ CountRows
    → map (λ (row : NumberedRow). row count.to.0) (step_rows held (Stats (count ∷ []) []) rows) ≡ (Long (pos (min (length rows) 9223372036854775807)) ∷ []) ∷ []

-- cells of one value each have one key, which is themselves
abbrev pub OneValueOneKey : Type 0
OneValueOneKey = (values : List Value) → keys_of_cells (map (λ (value : Value). value ∷ []) values) ≡ map (λ (value : Value). value ∷ []) values ∷ []

-- each key of a row is the key of a group
abbrev pub KeysHaveGroups : Type 0
KeysHaveGroups = (columns : ℕ) (entries : List Entry) (entry : Entry) (key : Key) → Contains entries entry → Contains (keys_of_entry entry) key
    → Contains (keys_of_groups (suc columns) entries) key

-- no two groups have one key
abbrev pub GroupsDiffer : Type 0
GroupsDiffer = (columns : ℕ) (entries : List Entry) → IsDistinct same_key (keys_of_groups columns entries)

-- each row is in the group of each of its keys
abbrev pub RowsAreInTheirGroups : Type 0
RowsAreInTheirGroups = (entries : List Entry) (entry : Entry) (key : Key) → Contains entries entry → Contains (keys_of_entry entry) key
    → Contains (entries_of_key key entries) entry

-- and in no other
abbrev pub RowsAreInNoOther : Type 0
RowsAreInNoOther = (entries : List Entry) (entry : Entry) (key : Key) → Contains (entries_of_key key entries) entry → Contains (keys_of_entry entry) key
