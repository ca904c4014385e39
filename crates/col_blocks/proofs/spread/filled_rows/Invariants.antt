use Rattle.std.proofs.Common.{◌≡◌, length, take}
use Rattle.col_blocks.specs.Pieces.{filled}
use Rattle.col_blocks.proofs.spread.filled_rows.Given as goal

abbrev pub invariant-loop-row : goal.invariant-loop-row
invariant-loop-row l = record {
  as_long : length l.valid ≡ length l.ends;
  same : take l.row l.valid ≡ take l.row (filled 0 l.ends);
}
