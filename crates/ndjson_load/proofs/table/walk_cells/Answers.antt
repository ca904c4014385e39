use Rattle.std.proofs.Common.{◌≡◌, List, [], replicate, length, Ok, refl, sym, ap, ◌∙◌, subst}
use Rattle.std.proofs.lemmas.List.{length-replicate, take_at}
use Rattle.serde_json.specs.View.{view}
use Rattle.esql_types.specs.declared.value.Value.{Value as CellValue}
use Rattle.ndjson_load.specs.Gathering.{gather}
use Rattle.ndjson_load.specs.Spreading.{Spreads, nothing}
use Rattle.ndjson_load.proofs.Walked.{cells_walked}
use Rattle.ndjson_load.proofs.table.walk_cells.Goals as goal

pub returns-in-Ok-clause-ok : goal.returns-in-Ok-clause-ok
returns-in-Ok-clause-ok c =
    let columns = c.args.columns.now in
    let d = view c.args.object.now in
    let n = length columns in
    let cells = c.spread.new.cells in
    let nulls : c.as_mut_slice.result.now ≡ replicate n [] = c.as_mut_slice.ensures.value ∙ c.in_ok-cells.ensures in
    let wide : length cells ≡ n = c.in-Ok.ensures.size ∙ ap length nulls ∙ length-replicate n [] in
    let walked = cells_walked c.args.number d columns n cells refl wide (subst (λ (old : List (List CellValue)). Spreads columns 0 0 n (gather d) nothing old cells) nulls c.in-Ok.ensures) in
    walked ∙ ap Ok (sym (c.from_vec.ensures ∙ take_at cells _ c.in_ok-cells.cells.len (c.in-Ok.ensures.size ∙ c.as_mut_slice.ensures.len)))
