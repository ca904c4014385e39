use Rattle.std.proofs.Common.{◌∙◌}
use Rattle.std.specs.List.{flat_map}
use Rattle.enrich_match.specs.Matches.{matched_cell}
use Rattle.enrich_match.specs.Places.{field_at}
use Rattle.enrich_match.proofs.Found.{all_found, cell_found}
use Rattle.enrich_match.proofs.lookup.Lookup.probe.Goals as goal

pub returns : goal.returns
returns c =
    let rows = c.self.inside.added.list in
    let probed = c.as_slice.result.now in
    let found = all_found c.self.inside.places.entries rows c.self.invariant.places_are probed c.in_ok-places.places.items c.in_ok-places.ensures.single c.in_ok-places.ensures.several in
    let cells = c.as_slice-2.ensures ∙ c.self.invariant.cells_are in
    let places = c.deref.ensures.value ∙ found in
    c.in_ok-cell.ensures
    ∙ (λ i. flat_map (field_at (cells i) c.args.field) (places i))
    ∙ cell_found rows probed c.args.field
    ∙ (λ i. matched_cell (c.self.view_is i).rows (c.as_slice.ensures i) c.args.field)
