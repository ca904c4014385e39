use Rattle.plan_semantics.proofs.Grouping.{row_in_no_other}
use Rattle.plan_semantics.proofs.group_laws.rows_are_in_no_other.Goals as goal

pub returns : goal.returns
returns c = row_in_no_other
