use Rattle.std.proofs.Common.{◌≡◌, ℕ, ◌+◌, ◌-◌, ◌<◌, ◌≤◌, Bool, true, false, leb, eqb, List, [], ◌∷◌, ◌++◌, map, length, get_or, take, drop, refl, sym, ap, ◌∙◌, subst, arith}
use Rattle.esql_types.specs.declared.value.Value.{Value}
use Rattle.col_blocks.specs.Building.{Building, BuilderFits}
use Rattle.col_blocks.specs.Pieces.{pieces, last_end}
use Rattle.col_blocks.specs.Stored.{values_of, kind_of, value_read}
use Rattle.col_blocks.proofs.Cuts.{last_at_most}
use Rattle.col_blocks.proofs.Growth.{begins_last, fits_row, cells_more, row_none}
use Rattle.col_blocks.proofs.builder.Builder.end_row.Goals as goal

pub overflow_sub-count : goal.overflow_sub-count
overflow_sub-count c =
    let ends = c.self.inside.ends.items in
    let begins : c.begin_of.result ≡ last_end 0 ends = c.begin_of.ensures ∙ (λ i. get_or (0 ∷ c.as_slice.ensures.value i) ((c.len.ensures ∙ c.self.inside.ends.ok.0) i) 0) ∙ begins_last 0 ends in
    let within = last_at_most 0 ends (length (values_of c.self.inside.values)) c.self.invariant.rises in
    omega (arith, c.len-end.ensures)

pub invariant_of-self-2 : goal.invariant_of-self-2
invariant_of-self-2 c =
    let b = c.self.inside in
    let ends = b.ends.items in
    let begins : c.begin_of.result ≡ last_end 0 ends = c.begin_of.ensures ∙ (λ i. get_or (0 ∷ c.as_slice.ensures.value i) ((c.len.ensures ∙ b.ends.ok.0) i) 0) ∙ begins_last 0 ends in
    fits_row b.kind b.values ends c.push.new.self.items b.single b.few c.len-end.result (c.len-end.result - c.begin_of.result) c.self.invariant c.len-end.ensures (ap (λ (begin : ℕ). c.len-end.result - begin) begins) c.in_ok-push.ensures.items

pub returns-clause-ok : goal.returns-clause-ok
returns-clause-ok c =
    let b = c.self.inside in
    let ends = b.ends.items in
    let begins : c.begin_of.result ≡ last_end 0 ends = c.begin_of.ensures ∙ (λ i. get_or (0 ∷ c.as_slice.ensures.value i) ((c.len.ensures ∙ b.ends.ok.0) i) 0) ∙ begins_last 0 ends in
    let count = c.len-end.result - c.begin_of.result in
    let counted = ap (λ (begin : ℕ). c.len-end.result - begin) begins in
    let cells = cells_more b.kind b.values ends c.push.new.self.items b.single b.few c.len-end.result count c.self.invariant c.len-end.ensures counted c.in_ok-push.ensures.items in
    let row = row_none b.kind b.values ends c.push.new.self.items b.single b.few c.len-end.result count c.self.invariant c.len-end.ensures counted c.in_ok-push.ensures.items in
    (λ i. record { kind = b.kind; cells = cells i; row = row i }) ∙ ap (λ (b : Building). record { kind = b.kind; cells = b.cells ++ b.row ∷ []; row = [] }) c.self.view_is
