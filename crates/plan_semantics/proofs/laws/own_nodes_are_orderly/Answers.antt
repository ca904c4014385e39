use Rattle.plan_semantics.specs.Tables.{source_rows}
use Rattle.plan_semantics.proofs.OwnNodes.{orderly_steps}
use Rattle.plan_semantics.proofs.laws.own_nodes_are_orderly.Goals as goal

pub returns : goal.returns
returns c = λ plan own held. orderly_steps held plan.steps own (source_rows held.tables plan.source)
