use Rattle.query_semantics.proofs.ShapePlaces.{shape_fits}
use Rattle.query_semantics.proofs.laws.broken_rules_have_places.Goals as goal

pub returns : goal.returns
returns c = shape_fits
