use Rattle.std.proofs.Common.{◌≡◌, ℕ, ◌+◌, ◌-◌, ◌<◌, ◌≤◌, Bool, true, false, List, [], ◌∷◌, Some, None, length, get_or, refl, sym, ap, ◌∙◌, subst, arith}
use Rattle.col_blocks.specs.Seen.{BlockSeen, ints_seen, longs_seen}
use Rattle.col_blocks.specs.Rows.{cells_of, form_of, RowsFit, where_valid}
use Rattle.col_blocks.specs.Stored.{values_of}
use Rattle.col_blocks.proofs.Cuts.{length-pieces}
use Rattle.col_blocks.proofs.block.Block.len.Goals as goal

pub returns-in-Multi : goal.returns-in-Multi
returns-in-Multi c =
    c.len-in-Multi.ensures ∙ c.in-Multi.ends.ok.0 ∙ sym (length-pieces (values_of c.in-Multi.values) 0 c.in-Multi.ends.items)
    ∙ ap length (ap cells_of (sym c.in-Multi.is) ∙ ap (λ (block : BlockSeen). block.cells) c.self.view_is)
