use Rattle.std.proofs.Common.{◌≡◌, take}
use Rattle.esql_answer.proofs.catalogs.copy_policies.Given as goal

abbrev pub invariant-loop-policy : goal.invariant-loop-policy
invariant-loop-policy l = l.copies ≡ take l.policy-index l.policies
