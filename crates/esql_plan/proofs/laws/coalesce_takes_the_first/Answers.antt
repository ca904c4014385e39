use Rattle.std.proofs.Common.{refl}
use Rattle.esql_plan.proofs.laws.coalesce_takes_the_first.Goals as goal

pub returns : goal.returns
returns c node value values failures rest = refl
