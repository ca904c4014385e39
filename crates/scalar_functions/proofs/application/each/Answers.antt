use Rattle.std.proofs.Common.{arith}
use Rattle.std.proofs.lemmas.Grind.{common_steps}
use Rattle.esql_types.specs.declared.value.Value.{Value}
use Rattle.scalar_functions.specs.Calls.{conversion_rule}
use Rattle.scalar_functions.proofs.Truths.{failures_each}
use Rattle.scalar_functions.proofs.application.each.Goals as goal

pub returns-clause-failures : goal.returns-clause-failures
returns-clause-failures c =
    let all = failures_each c.args.node (λ (value : Value). (conversion_rule c.args.conversion value).causes) c.args.values.now in
    grind (arith, common_steps, all)
