use Rattle.std.proofs.Common.{◌≡◌}
use Rattle.serde_json.specs.View.{members_view}
use Rattle.policy_json.specs.Policies.{has_parts_only}
use Rattle.policy_json.proofs.policy.has_parts_only.Given as goal

abbrev pub invariant-loop-key : goal.invariant-loop-key
invariant-loop-key l = has_parts_only (members_view l.initial.key-iterator) ≡ has_parts_only (members_view l.key-iterator)
