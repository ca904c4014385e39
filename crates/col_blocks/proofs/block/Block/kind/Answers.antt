use Rattle.std.proofs.Common.{◌≡◌, ℕ, ◌+◌, ◌-◌, ◌<◌, ◌≤◌, Bool, true, false, List, [], ◌∷◌, Some, None, length, get_or, refl, sym, ap, ◌∙◌, subst, arith}
use Rattle.col_blocks.specs.Seen.{BlockSeen, ints_seen, longs_seen}
use Rattle.col_blocks.specs.Rows.{cells_of, form_of, RowsFit, where_valid}
use Rattle.col_blocks.specs.Stored.{values_of}
use Rattle.col_blocks.specs.Cells.{AreOfKind}
use Rattle.col_blocks.proofs.OfKind.{rows_kind}
use Rattle.col_blocks.proofs.block.Block.kind.Goals as goal

pub returns-clause-of_kind : goal.returns-clause-of_kind
returns-clause-of_kind c = subst (AreOfKind c.self.inside.kind) (ap (λ (block : BlockSeen). block.cells) c.self.view_is) (rows_kind c.self.inside.kind c.self.inside.rows c.self.invariant)
