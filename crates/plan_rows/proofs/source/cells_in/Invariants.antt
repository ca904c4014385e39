use Rattle.std.proofs.Common.{◌≡◌, take}
use Rattle.plan_rows.specs.Places.{cells_in}
use Rattle.plan_rows.proofs.source.cells_in.Given as goal

abbrev pub invariant-loop-place : goal.invariant-loop-place
invariant-loop-place l = l.cells.items ≡ cells_in (take l.place-index l.places) l.row
