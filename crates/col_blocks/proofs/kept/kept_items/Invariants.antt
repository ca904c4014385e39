use Rattle.std.proofs.Common.{◌≡◌, take}
use Rattle.col_blocks.specs.Kept.{kept_by}
use Rattle.col_blocks.proofs.kept.kept_items.Given as goal

abbrev pub invariant-loop-place : goal.invariant-loop-place
invariant-loop-place g l = l.new.items ≡ kept_by (take l.place l.keep) (take l.place l.items)
