use Rattle.esql_run.proofs.EachBuilt.{none_unbuilt}
use Rattle.esql_run.proofs.laws.none_unbuilt.Goals as goal

pub returns : goal.returns
returns c = none_unbuilt
