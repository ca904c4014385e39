use Rattle.query_semantics.proofs.ExprPlaces.{kind_fits}
use Rattle.query_semantics.proofs.laws.broken_rules_of_expressions_have_places.Goals as goal

pub returns : goal.returns
returns c = kind_fits
