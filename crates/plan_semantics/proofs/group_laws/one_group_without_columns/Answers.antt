use Rattle.std.proofs.Common.{refl}
use Rattle.plan_semantics.proofs.group_laws.one_group_without_columns.Goals as goal

pub returns : goal.returns
returns c = λ held aggregates rows. refl
