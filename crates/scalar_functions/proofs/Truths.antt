-- Truths of cells, and the failures of a node for each of its parts.
use Rattle.std.proofs.Common.{◌≡◌, ◌≢◌, Bool, Option, None, List, [], ◌∷◌, ◌++◌, map, length, refl, ap, sym, ◌∙◌}
use Rattle.std.specs.List.{flat_map}
use Rattle.std.proofs.lemmas.List.{map-append}
use Rattle.esql_types.specs.declared.value.Value.{Value}
use Rattle.esql_types.specs.declared.cause.Cause.{Cause}
use Rattle.esql_types.specs.declared.names.NodeId.{NodeId}
use Rattle.esql_plan.specs.Rules.{truth_in}
use Rattle.esql_plan.specs.Functions.{of_one_truth, of_two_truths}
use Rattle.esql_plan.specs.Values.{failures_at}

pub of_one_truth_not : (rule : Option Bool → Option Bool) (cells : List (List Value)) → length cells ≢ 1 → of_one_truth rule (map truth_in cells) ≡ None
of_one_truth_not rule [] other = refl
of_one_truth_not rule (first ∷ []) other = absurd (other refl)
of_one_truth_not rule (first ∷ second ∷ rest) other = refl

pub of_two_truths_not : (rule : Option Bool → Option Bool → Option Bool) (cells : List (List Value)) → length cells ≢ 2 → of_two_truths rule (map truth_in cells) ≡ None
of_two_truths_not rule [] other = refl
of_two_truths_not rule (first ∷ []) other = refl
of_two_truths_not rule (first ∷ second ∷ []) other = absurd (other refl)
of_two_truths_not rule (first ∷ second ∷ third ∷ rest) other = refl

-- the failures of a node for the causes of each of several
pub failures_each : {A : Type 0} (node : NodeId) (causes : A → List Cause) (items : List A) → flat_map (λ item. failures_at node (causes item)) items ≡ failures_at node (flat_map causes items)
failures_each node causes [] = refl
failures_each node causes (item ∷ items) =
    ap (λ rest. failures_at node (causes item) ++ rest) (failures_each node causes items)
    ∙ sym (map-append (λ cause. record { node = node; cause = cause }) (causes item) (flat_map causes items))
