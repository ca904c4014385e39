use Rattle.std.proofs.Common.{◌≡◌, map}
use Rattle.std.specs.List.{flat_map, range_with_len}
use Rattle.enrich_match.specs.Places.{field_at}
use Rattle.enrich_match.proofs.cells.cells_of_places.Given as goal

abbrev pub invariant-loop-field : goal.invariant-loop-field
invariant-loop-field l = l.cells ≡ map (λ field. flat_map (field_at l.rows field) l.places) (range_with_len 0 l.field)
