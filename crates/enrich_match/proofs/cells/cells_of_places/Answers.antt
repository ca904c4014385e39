use Rattle.std.proofs.Common.{ℕ, List, [], ◌∷◌, ◌++◌, map, sym, ap, ◌∙◌, arith}
use Rattle.std.specs.List.{flat_map, range_with_len}
use Rattle.std.proofs.lemmas.List.FromFn.{map-range_with_len_more}
use Rattle.esql_types.specs.declared.value.Value.{Value}
use Rattle.enrich_match.specs.Places.{field_at}
use Rattle.enrich_match.proofs.cells.cells_of_places.Goals as goal

pub loop-field-preserved : goal.loop-field-preserved
loop-field-preserved c =
    let given : ℕ → List Value = λ field. flat_map (field_at c.args.rows.now field) c.args.places.now in
    let pushed : List Value → List (List Value) = λ cell. map given (range_with_len 0 c.loop-field.field) ++ cell ∷ [] in
    c.in_ok-push.ensures.ok
    ∙ ap (λ (cells : List (List Value)). cells ++ c.in_ok-cell_of_places.field-0 ∷ []) c.loop-field.invariant
    ∙ ap pushed c.in_ok-cell_of_places.ensures
    ∙ sym (map-range_with_len_more given 0 c.loop-field.field c.loop-field.field (omega arith))
