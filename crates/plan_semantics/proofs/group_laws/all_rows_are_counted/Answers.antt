use Rattle.plan_semantics.proofs.Grouping.{all_counted}
use Rattle.plan_semantics.proofs.group_laws.all_rows_are_counted.Goals as goal

pub returns : goal.returns
returns c = all_counted
