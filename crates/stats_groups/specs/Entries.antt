-- A row as groups see it, and how lists of such rows are stored.
use Rattle.std.specs.Prelude.{ℕ, List, [], refl, slice_index_or}
use Rattle.std.specs.Coded.{Coded, code_by, coded×, coded_list}
use Rattle.esql_types.specs.declared.value.Value.{Value}
use Rattle.esql_types.specs.contracts.value.Value as value
use Rattle.esql_plan.specs.declared.step.Aggregate.{Aggregate}
use Rattle.esql_plan.specs.declared.step.GroupColumn.{GroupColumn}
use Rattle.esql_plan.specs.Values.{NumberedRow}
use Rattle.plan_semantics.specs.Groups.{Entry}
use Rattle.plan_semantics.specs.Stats.{entry_of}

-- the row of cells in the order of the column numbers
abbrev pub numbered : List (List Value) → NumberedRow
numbered cells = λ (id : ℕ). slice_index_or cells id []

-- what groups look at in a row of cells
abbrev pub entry_of_row : List GroupColumn → List Aggregate → List (List Value) → Entry
entry_of_row columns aggregates cells = entry_of aggregates columns (numbered cells)

-- the cells of a row at the columns that rows are grouped by
abbrev pub cells_of : List GroupColumn → List (List Value) → List (List Value)
cells_of columns cells = (entry_of_row columns [] cells).keys

-- the cells of a row at the inputs of aggregates
abbrev pub inputs_of : List Aggregate → List (List Value) → List (List Value)
inputs_of aggregates cells = (entry_of_row [] aggregates cells).inputs

abbrev cells_code : Coded (List (List Value))
cells_code = coded_list (coded_list value.the_row.coded)

abbrev made : List (List Value) → List (List Value) → Entry
made keys inputs = record { keys = keys; inputs = inputs }

abbrev entry_code : Coded Entry
entry_code = code_by (List (List Value) × List (List Value)) (coded× cells_code cells_code) (λ entry. (entry.keys, entry.inputs)) (λ cells. made cells.0 cells.1) (λ _. refl)

abbrev pub entries_code : Coded (List Entry)
entries_code = coded_list entry_code
