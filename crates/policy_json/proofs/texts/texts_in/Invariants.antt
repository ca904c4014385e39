use Rattle.std.proofs.Common.{◌≡◌, drop}
use Rattle.serde_json.specs.View.{items_view}
use Rattle.policy_json.specs.Policies.{texts_in}
use Rattle.policy_json.proofs.Behind.{behind}
use Rattle.policy_json.proofs.texts.texts_in.Given as goal

abbrev pub invariant-loop-item : goal.invariant-loop-item
invariant-loop-item l = texts_in (items_view l.item-items) ≡ behind l.texts (texts_in (items_view (drop l.item-index l.item-items)))
