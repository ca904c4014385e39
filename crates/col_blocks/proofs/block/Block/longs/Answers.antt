use Rattle.std.proofs.Common.{◌≡◌, ℕ, ◌+◌, ◌-◌, ◌<◌, ◌≤◌, Bool, true, false, List, [], ◌∷◌, Some, None, length, get_or, refl, sym, ap, ◌∙◌, subst, arith}
use Rattle.col_blocks.specs.Seen.{BlockSeen, ints_seen, longs_seen}
use Rattle.col_blocks.specs.Rows.{cells_of, form_of, RowsFit, where_valid}
use Rattle.col_blocks.specs.Stored.{values_of}
use Rattle.col_blocks.proofs.Numbers.{seen_vector, seen_nullable, longs_vector, longs_nullable}
use Rattle.col_blocks.proofs.block.Block.longs.Goals as goal

pub returns-in-Vector : goal.returns-in-Vector
returns-in-Vector c =
    let kind = c.self.inside.kind in
    let fits = subst (RowsFit kind) c.in-Vector.is c.self.invariant in
    let view : seen_vector kind c.in-Vector.values ≡ c.args.self.now = (λ i. record { kind = kind; form = form_of (sym c.in-Vector.is i); cells = cells_of (sym c.in-Vector.is i) }) ∙ c.self.view_is in
    c.longs.ensures ∙ longs_vector kind c.in-Vector.values fits ∙ ap longs_seen view

pub returns-in-Nullable : goal.returns-in-Nullable
returns-in-Nullable c =
    let kind = c.self.inside.kind in
    let fits = subst (RowsFit kind) c.in-Nullable.is c.self.invariant in
    let view : seen_nullable kind c.in-Nullable.values c.in-Nullable.valid ≡ c.args.self.now = (λ i. record { kind = kind; form = form_of (sym c.in-Nullable.is i); cells = cells_of (sym c.in-Nullable.is i) }) ∙ c.self.view_is in
    c.longs-in-Nullable.ensures ∙ longs_nullable kind c.in-Nullable.values c.in-Nullable.valid fits.0 fits.1 ∙ ap longs_seen view
