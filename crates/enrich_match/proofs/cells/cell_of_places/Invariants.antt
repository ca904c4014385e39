use Rattle.std.proofs.Common.{◌≡◌, take}
use Rattle.std.specs.List.{flat_map}
use Rattle.enrich_match.specs.Places.{field_at}
use Rattle.enrich_match.proofs.cells.cell_of_places.Given as goal

abbrev pub invariant-loop-place : goal.invariant-loop-place
invariant-loop-place l = l.cell ≡ flat_map (field_at l.rows l.field) (take l.place-index l.places)
