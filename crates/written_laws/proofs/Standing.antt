-- What has been written stands for rows of names.
use Rattle.std.proofs.Common.{◌≡◌, List, map}
use Rattle.esql_types.specs.declared.cause.Failure.{Failure}
use Rattle.esql_plan.specs.Values.{NumberedRow}
use Rattle.plan_semantics.specs.Steps.{rows_after, failures_after}
use Rattle.plan_semantics.specs.Tables.{CatalogHeld}
use Rattle.row_semantics.specs.Rows.{Row}
use Rattle.query_semantics.specs.Writings.{Writing}
use Rattle.query_semantics.specs.Named.{named_row}
use Rattle.query_semantics.proofs.Named.{AllBelow}

-- what has been written stands for rows of names and the failures on the way, over the rows that the source gives
pub record Stands (held : CatalogHeld) (start : List NumberedRow) (rows : List Row) (failures : List Failure) (writing : Writing) : Type 0 where
  pub rows_are : rows ≡ map (named_row writing.visible) (rows_after held writing.steps start)
  pub failures_are : failures ≡ failures_after held writing.steps start
  pub below : AllBelow writing.next writing.visible
