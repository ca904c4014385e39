-- What is seen of rows of numbers under names.
use Rattle.std.specs.Prelude.{List, map}
use Rattle.esql_plan.specs.declared.plan.OutColumn.{OutColumn}
use Rattle.esql_plan.specs.Values.{NumberedRow}
use Rattle.row_semantics.specs.declared.row.NamedCell.{NamedCell}
use Rattle.row_semantics.specs.Rows.{Row}
use Rattle.row_semantics.specs.Meanings.{CallCell, Given}
use Rattle.row_semantics.specs.declared.call.CallColumn.{CallColumn}
use Rattle.row_semantics.specs.Typed.{Visible}

abbrev pub named_cell : NumberedRow → OutColumn → NamedCell
named_cell row column = record { name = column.name; cell = row column.id.0 }

-- the row of names that a row of numbers is, where these columns can be seen
abbrev pub named_row : List OutColumn → NumberedRow → Row
named_row visible row = map (named_cell row) visible

abbrev pub call_cell : NumberedRow → CallColumn → CallCell
call_cell row call = record { node = call.node; cell = row call.id.0 }

-- what an expression over columns that can be seen is evaluated on
abbrev pub given_of : Visible → NumberedRow → Given
given_of visible row = record { row = named_row visible.columns row; calls = map (call_cell row) visible.calls }
