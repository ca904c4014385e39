use Rattle.std.proofs.Common.{◌≡◌, [], take, get_or}
use Rattle.col_blocks.proofs.builder.Builder.push_row.Given as goal

abbrev pub invariant-loop-place : goal.invariant-loop-place
invariant-loop-place l = l.self ≡ record l.initial.self { row = take l.place (get_or l.block.cells l.row []) }
