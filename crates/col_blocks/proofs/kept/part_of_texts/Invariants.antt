use Rattle.std.proofs.Common.{◌≡◌, take, drop}
use Rattle.col_blocks.proofs.kept.part_of_texts.Given as goal

abbrev pub invariant-loop-place : goal.invariant-loop-place
invariant-loop-place l = l.new ≡ take l.place (drop l.start l.texts)
