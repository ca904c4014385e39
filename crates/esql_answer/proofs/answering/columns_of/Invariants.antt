use Rattle.std.proofs.Common.{◌≡◌, take}
use Rattle.plan_semantics.specs.Plans.{columns_of}
use Rattle.esql_answer.proofs.answering.columns_of.Given as goal

abbrev pub invariant-loop-out : goal.invariant-loop-out
invariant-loop-out l = l.columns ≡ columns_of (take l.out-index l.output)
