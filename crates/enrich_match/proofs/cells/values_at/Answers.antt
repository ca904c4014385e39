use Rattle.std.proofs.Common.{◌≡◌, List, [], Option, ap, ◌∙◌}
use Rattle.std.specs.Prelude.{slice_index_or}
use Rattle.std.specs.Option.{unwrap_or}
use Rattle.std.proofs.lemmas.Option.{unwrap_or-slice_get}
use Rattle.esql_types.specs.declared.value.Value.{Value}
use Rattle.enrich_match.proofs.cells.values_at.Goals as goal

pub returns-in-None-at : goal.returns-in-None-at
returns-in-None-at c =
    let rows = c.args.rows.now in
    let row = c.in-Some.row.now in
    let here : row ≡ slice_index_or rows c.args.place [] = c.in-Some.ensures.lookup.3.1 [] in
    ap (λ (found : Option (List Value)). unwrap_or found []) c.in-None-at.ensures.value
    ∙ unwrap_or-slice_get row c.args.field []
    ∙ ap (λ (cells : List (List Value)). slice_index_or cells c.args.field []) here
