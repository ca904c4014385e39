use Rattle.std.proofs.Common.{◌≡◌, ℕ, ◌+◌, ◌-◌, ◌<◌, ◌≤◌, Bool, true, false, leb, eqb, List, [], ◌∷◌, ◌++◌, map, length, get_or, take, drop, refl, sym, ap, ◌∙◌, subst, arith}
use Rattle.esql_types.specs.declared.value.Value.{Value}
use Rattle.col_blocks.specs.Building.{Building, BuilderFits}
use Rattle.col_blocks.specs.Pieces.{pieces, last_end}
use Rattle.col_blocks.specs.Stored.{values_of, kind_of, value_read}
use Rattle.col_blocks.proofs.Growth.{fits_more, cells_same, row_more}
use Rattle.col_blocks.proofs.builder.Builder.add.Goals as goal

pub invariant_of-self-2 : goal.invariant_of-self-2
invariant_of-self-2 c =
    let b = c.self.inside in
    fits_more b.kind b.values c.push.new.self b.ends.items b.single b.few (value_read c.args.value) c.in_ok-push.ensures.kind c.in_ok-push.ensures.ok c.self.invariant

pub returns-clause-ok : goal.returns-clause-ok
returns-clause-ok c =
    let b = c.self.inside in
    let value = value_read c.args.value in
    let cells = cells_same b.kind b.values c.push.new.self b.ends.items b.single b.few value c.in_ok-push.ensures.kind c.in_ok-push.ensures.ok c.self.invariant in
    let row = row_more b.kind b.values c.push.new.self b.ends.items b.single b.few value c.in_ok-push.ensures.kind c.in_ok-push.ensures.ok c.self.invariant in
    (λ i. record { kind = b.kind; cells = cells i; row = row i }) ∙ ap (λ (b : Building). record { kind = b.kind; cells = b.cells; row = b.row ++ value ∷ [] }) c.self.view_is
