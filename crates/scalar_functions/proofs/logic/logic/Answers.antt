use Rattle.std.proofs.Common.{arith}
use Rattle.std.proofs.lemmas.Grind.{common_steps}
use Rattle.esql_plan.specs.Rules.{multi_of}
use Rattle.scalar_functions.proofs.Truths.{failures_each}
use Rattle.scalar_functions.proofs.logic.logic.Goals as goal

pub returns-clause-failures : goal.returns-clause-failures
returns-clause-failures c = let each = failures_each c.args.node multi_of c.args.cells.now in grind (arith, common_steps, each)
