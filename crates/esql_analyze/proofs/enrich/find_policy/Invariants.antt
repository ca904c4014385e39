use Rattle.std.proofs.Common.{◌≡◌, drop}
use Rattle.query_semantics.specs.Appended.{policy_from, policy_named}
use Rattle.esql_analyze.proofs.enrich.find_policy.Given as goal

abbrev pub invariant-loop-shape : goal.invariant-loop-shape
invariant-loop-shape l = record {
  found : policy_from l.number (drop l.shape-index l.policies) l.name ≡ policy_named l.policies l.name;
  number : l.number ≡ l.shape-index;
}
