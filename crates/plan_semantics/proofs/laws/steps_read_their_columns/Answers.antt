use Rattle.plan_semantics.proofs.Restricted.{same_after}
use Rattle.plan_semantics.proofs.laws.steps_read_their_columns.Goals as goal

pub returns : goal.returns
returns c = λ held uses. same_after uses held
