-- To agree is an equivalence.
use Rattle.std.proofs.Common.{◌≡◌, List, ◌++◌, refl, ap, sym, ◌∙◌}
use Rattle.esql_types.specs.declared.cause.Failure.{Failure}
use Rattle.plan_semantics.specs.Agrees.{PlanSeen, Agrees, AgreeAtNodes, causes_at}
use Rattle.plan_semantics.proofs.Transposed.{causes-append}

pub Agrees-itself : (this : PlanSeen) → Agrees this this
Agrees-itself this = record { columns = refl; rows = refl; failures = λ node. refl }

pub Agrees-back : (this that : PlanSeen) → Agrees this that → Agrees that this
Agrees-back this that agrees = record { columns = sym agrees.columns; rows = sym agrees.rows; failures = λ node. sym (agrees.failures node) }

pub Agrees-through : (this that other : PlanSeen) → Agrees this that → Agrees that other → Agrees this other
Agrees-through this that other first second = record {
  columns = first.columns ∙ second.columns;
  rows = first.rows ∙ second.rows;
  failures = λ node. first.failures node ∙ second.failures node;
}

pub Agrees-same : (this that : PlanSeen) → this ≡ that → Agrees this that
Agrees-same this that same = record {
  columns = ap (λ (seen : PlanSeen). seen.columns) same;
  rows = ap (λ (seen : PlanSeen). seen.rows) same;
  failures = λ node. ap (λ (seen : PlanSeen). causes_at node seen.failures) same;
}

pub AgreeAtNodes-append : (these those xs ys : List Failure) → AgreeAtNodes these those → AgreeAtNodes xs ys → AgreeAtNodes (these ++ xs) (those ++ ys)
AgreeAtNodes-append these those xs ys first second node = causes-append node these xs ∙ (λ i. first node i ++ second node i) ∙ sym (causes-append node those ys)
