use Rattle.std.proofs.Common.{◌≡◌, take, map}
use Rattle.row_semantics.specs.Forms.{widened}
use Rattle.expression_analysis.proofs.constants.widened_cell.Given as goal

abbrev pub invariant-loop-value : goal.invariant-loop-value
invariant-loop-value l = l.cell ≡ map widened (take l.value-index l.values)
