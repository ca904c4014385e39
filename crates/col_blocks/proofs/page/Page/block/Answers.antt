use Rattle.std.proofs.Common.{◌≡◌, ℕ, ◌+◌, ◌<◌, ◌≤◌, Bool, true, false, Some, None, length, get_or, drop, refl, sym, ap, ◌∙◌, arith}
use Rattle.std.proofs.lemmas.Bool.{eqb-true, eqb-false}
use Rattle.esql_types.specs.declared.names.ColId.{ColId}
use Rattle.col_blocks.specs.Pages.{found_by, blocks_of}
use Rattle.col_blocks.proofs.Columned.{found_here, found_next, found_nowhere}
use Rattle.col_blocks.proofs.Gets.{get-map}
use Rattle.col_blocks.proofs.page.Page.block.Goals as goal

pub returns-then-is_column : goal.returns-then-is_column
returns-then-is_column c =
    let page = c.args.self.now in
    let place = c.loop-place.place in
    let here = eqb-true (get_or c.as_slice.result.now place c.args.id).0 c.args.id.0 (sym c.is_column.ensures ∙ c.if-is_column.true) in
    let is : (get_or page.columns place c.args.id).0 ≡ c.args.id.0 = sym (ap (λ columns. (get_or {A = ColId} columns place c.args.id).0) c.as_slice.ensures) ∙ here in
    rw c.at.ensures.value (get-map _ page.blocks place ∙ sym (found_here page.columns (blocks_of page) place c.args.id.0 c.args.id c.requires.as_many (omega arith) is) ∙ c.loop-place.invariant)

pub loop-place-preserved : goal.loop-place-preserved
loop-place-preserved c =
    let page = c.args.self.now in
    let place = c.loop-place.place in
    let here = eqb-false (get_or c.as_slice.result.now place c.args.id).0 c.args.id.0 (sym c.is_column.ensures ∙ c.if-is_column.false) in
    let other : (get_or page.columns place c.args.id).0 ≡ c.args.id.0 → ⊥ = λ is. here (ap (λ columns. (get_or {A = ColId} columns place c.args.id).0) c.as_slice.ensures ∙ is) in
    found_next page.columns (blocks_of page) place c.args.id.0 c.args.id (found_by page.columns (blocks_of page) c.args.id.0) c.requires.as_many (omega arith) other c.loop-place.invariant

pub returns : goal.returns
returns c =
    let page = c.args.self.now in
    found_nowhere page.columns (blocks_of page) c.loop-place.place c.args.id.0 (omega arith) ∙ c.loop-place.invariant
