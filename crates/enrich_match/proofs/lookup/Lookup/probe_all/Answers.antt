use Rattle.std.proofs.Common.{◌∙◌, map}
use Rattle.std.specs.List.{flat_map, range_with_len}
use Rattle.enrich_match.specs.Matches.{matched_cells}
use Rattle.enrich_match.specs.Places.{field_at}
use Rattle.enrich_match.proofs.Found.{all_found, cell_found}
use Rattle.enrich_match.proofs.lookup.Lookup.probe_all.Goals as goal

pub returns : goal.returns
returns c =
    let rows = c.self.inside.added.list in
    let probed = c.as_slice.result.now in
    let found = all_found c.self.inside.places.entries rows c.self.invariant.places_are probed c.in_ok-places.places.items c.in_ok-places.ensures.single c.in_ok-places.ensures.several in
    let cells = c.as_slice-2.ensures ∙ c.self.invariant.cells_are in
    let places = c.deref.ensures.value ∙ found in
    c.in_ok-cells.ensures
    ∙ (λ i. map (λ field. flat_map (field_at (cells i) field) (places i)) (range_with_len 0 c.self.inside.fields))
    ∙ (λ i. map (λ field. cell_found rows probed field i) (range_with_len 0 c.self.inside.fields))
    ∙ (λ i. matched_cells (c.self.view_is i).fields (c.self.view_is i).rows (c.as_slice.ensures i))
