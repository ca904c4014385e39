use Rattle.std.proofs.Common.{◌≡◌, ℕ, List, Option, Some, map, length, take, sym, ap, ◌∙◌}
use Rattle.std.proofs.lemmas.List.{take_all, length-map}
use Rattle.esql_types.specs.declared.names.ColId.{ColId}
use Rattle.col_blocks.specs.Seen.{BlockSeen}
use Rattle.col_blocks.specs.Pages.{rows_by, blocks_of, found_by}
use Rattle.col_blocks.proofs.Columned.{columned, chosen_all, chosen_rows}
use Rattle.col_blocks.proofs.page.Page.project.Goals as goal

pub returns-clause-even : goal.returns-clause-even
returns-clause-even c =
    let page = c.args.self.now in
    let ids = c.args.ids.now in
    let found = λ (id : ColId). found_by page.columns (blocks_of page) id.0 in
    let chosen = blocks_of (record page { blocks = c.from_vec-2.result }) in
    let all : take c.loop-id.id-index c.as_slice-id-items.result.now ≡ ids = take_all c.loop-id.id-index c.as_slice-id-items.result.now c.loop-id-test.false ∙ c.as_slice-id-items.ensures in
    let numbers : c.from_vec.result ≡ ids = c.from_vec.ensures ∙ c.loop-id.invariant.numbers ∙ all in
    let are : map Some chosen ≡ map found ids = (λ i. map Some (blocks_of (record page { blocks = c.from_vec-2.ensures i }))) ∙ c.loop-id.invariant.found ∙ ap (map found) all in
    record {
      as_long = chosen_all (λ (block : BlockSeen). length block.cells ≡ page.rows) page.columns ids (blocks_of page) chosen c.requires.even.as_long are;
      as_many = ap length numbers ∙ sym (length-map ids found) ∙ sym (ap length are) ∙ length-map chosen Some;
    }

pub returns-clause-rows : goal.returns-clause-rows
returns-clause-rows c =
    let page = c.args.self.now in
    let ids = c.args.ids.now in
    let found = λ (id : ColId). found_by page.columns (blocks_of page) id.0 in
    let chosen = blocks_of (record page { blocks = c.from_vec-2.result }) in
    let all : take c.loop-id.id-index c.as_slice-id-items.result.now ≡ ids = take_all c.loop-id.id-index c.as_slice-id-items.result.now c.loop-id-test.false ∙ c.as_slice-id-items.ensures in
    let numbers : c.from_vec.result ≡ ids = c.from_vec.ensures ∙ c.loop-id.invariant.numbers ∙ all in
    let are : map Some chosen ≡ map found ids = (λ i. map Some (blocks_of (record page { blocks = c.from_vec-2.ensures i }))) ∙ c.loop-id.invariant.found ∙ ap (map found) all in
    ap (λ (ids : List ColId). rows_by page.rows (columned ids chosen)) numbers ∙ chosen_rows page.rows page.columns ids (blocks_of page) chosen are
