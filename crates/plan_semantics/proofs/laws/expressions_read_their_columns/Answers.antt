use Rattle.plan_semantics.proofs.Reading.{value_by_columns}
use Rattle.plan_semantics.proofs.laws.expressions_read_their_columns.Goals as goal

pub returns : goal.returns
returns c = λ expr this that. value_by_columns this that expr
