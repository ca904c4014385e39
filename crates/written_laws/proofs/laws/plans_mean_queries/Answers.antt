use Rattle.written_laws.proofs.Whole.{plan_agrees}
use Rattle.written_laws.proofs.laws.plans_mean_queries.Goals as goal

pub returns : goal.returns
returns c text catalog held query columns = plan_agrees text held catalog query columns
