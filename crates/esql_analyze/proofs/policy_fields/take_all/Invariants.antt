use Rattle.std.proofs.Common.{◌≡◌, drop}
use Rattle.query_semantics.specs.Appended.{all_fields}
use Rattle.esql_analyze.proofs.PolicyFields.{TakenSoFar}
use Rattle.esql_analyze.proofs.policy_fields.take_all.Given as goal

abbrev pub invariant-loop-field : goal.invariant-loop-field
invariant-loop-field l = record {
  taken : TakenSoFar (all_fields 0 l.fields) (all_fields l.number (drop l.field-index l.fields)) l.taken;
  number : l.number ≡ l.field-index;
}
