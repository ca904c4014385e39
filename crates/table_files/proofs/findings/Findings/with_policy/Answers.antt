use Rattle.std.proofs.Common.{ap, arith}
use Rattle.table_files.specs.Shapes.{entries_of_policies}
use Rattle.table_files.proofs.Numbered.{policies_more}
use Rattle.table_files.proofs.findings.Findings.with_policy.Goals as goal

pub invariant_of-result : goal.invariant_of-result
invariant_of-result c = record {
  numbers = c.self.invariant.numbers;
  entries_are = omega (arith, c.self.invariant.entries_are, c.len.ensures, c.len-2.ensures, policies_more c.self.inside.policies c.args.policy, ap entries_of_policies c.in_ok-push.ensures.ok);
}
