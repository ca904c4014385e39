use Rattle.std.proofs.Common.{◌≡◌, ℕ, ◌+◌, ◌-◌, ◌<◌, ◌≤◌, Bool, true, false, List, [], ◌∷◌, Some, None, length, get_or, refl, sym, ap, ◌∙◌, subst, arith}
use Rattle.col_blocks.specs.Seen.{BlockSeen, ints_seen, longs_seen}
use Rattle.col_blocks.specs.Rows.{cells_of, form_of, RowsFit, where_valid}
use Rattle.col_blocks.specs.Stored.{values_of}
use Rattle.col_blocks.specs.Seen.{valid_seen}
use Rattle.col_blocks.proofs.Numbers.{seen_nullable, valid_is}
use Rattle.col_blocks.proofs.block.Block.valid.Goals as goal

pub returns-in-Nullable : goal.returns-in-Nullable
returns-in-Nullable c =
    let values = c.in-Nullable.values in
    let valid = c.in-Nullable.valid in
    let fits = subst (RowsFit c.self.inside.kind) c.in-Nullable.is c.self.invariant in
    let view : seen_nullable c.self.inside.kind values valid ≡ c.args.self.now = (λ i. record { kind = c.self.inside.kind; form = form_of (sym c.in-Nullable.is i); cells = cells_of (sym c.in-Nullable.is i) }) ∙ c.self.view_is in
    ap Some (sym (valid_is valid (values_of values) fits.1.as_long)) ∙ ap valid_seen view
