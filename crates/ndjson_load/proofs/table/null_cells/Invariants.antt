use Rattle.std.proofs.Common.{◌≡◌, [], replicate}
use Rattle.ndjson_load.proofs.table.null_cells.Given as goal

abbrev pub invariant-loop : goal.invariant-loop
invariant-loop l = l.cells.items ≡ replicate l.counter []
