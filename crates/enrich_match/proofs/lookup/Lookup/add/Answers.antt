use Rattle.std.proofs.Common.{◌≡◌, List, [], ◌∷◌, ◌++◌, length, map, sym, ap, ◌∙◌}
use Rattle.std.proofs.lemmas.List.{length-map, map-append}
use Rattle.esql_types.specs.declared.value.Value.{Value}
use Rattle.enrich_match.specs.Lookups.{match_row}
use Rattle.enrich_match.specs.Matches.{MatchRow}
use Rattle.enrich_match.specs.Places.{has_value, places_after, places_from}
use Rattle.enrich_match.proofs.Rows.{rows_more}
use Rattle.enrich_match.proofs.lookup.Lookup.add.Goals as goal

abbrev fields_in : MatchRow → List (List Value)
fields_in row = row.fields

pub invariant_of-self : goal.invariant_of-self
invariant_of-self c =
    let rows = c.self.inside.added.list in
    let row = match_row c.args.key.now c.args.fields.now in
    let added = c.then-self-inside.ensures in
    let count : length c.self.inside.cells ≡ length rows = ap (λ (cells : List (List (List Value))). length cells) c.self.invariant.cells_are ∙ length-map rows fields_in in
    record {
      cells_are =
          c.in-Ok.ensures.cells
          ∙ ap (λ (cells : List (List (List Value))). cells ++ c.args.fields.now ∷ []) c.self.invariant.cells_are
          ∙ sym (map-append fields_in rows (row ∷ []))
          ∙ ap (map fields_in) (sym added);
      places_are = λ value.
          c.in-Ok.ensures.places value
          ∙ (λ i. places_after value (count i) c.args.key.now (c.self.invariant.places_are value i))
          ∙ rows_more value rows row
          ∙ ap (places_from 0 (has_value value)) (sym added);
    }
