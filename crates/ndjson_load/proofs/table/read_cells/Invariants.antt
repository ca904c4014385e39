use Rattle.std.proofs.Common.{◌≡◌, drop}
use Rattle.serde_json.specs.View.{view}
use Rattle.ndjson_load.specs.Joining.{join_all, after}
use Rattle.ndjson_load.specs.Rows.{cell_of, cells_of}
use Rattle.ndjson_load.proofs.table.read_cells.Given as goal

abbrev pub invariant-loop-column : goal.invariant-loop-column
invariant-loop-column l = cells_of l.number l.columns (view l.object) ≡ after l.row (join_all (cell_of l.number (view l.object)) (drop l.column-index l.columns))
