use Rattle.esql_parse.proofs.Deep.{deep_are_fronts}
use Rattle.esql_parse.proofs.laws.deep_are_fronts.Goals as goal

pub returns : goal.returns
returns c = deep_are_fronts
