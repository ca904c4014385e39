-- A well formed plan fails at nodes below its number alone.
use Rattle.std.proofs.Common.{◌≡◌, ℕ, ◌≤◌, ◌<◌, ◌==◌, nat_lt, Bool, true, false, List, [], ◌∷◌, ◌++◌, map, length, filter, All, refl, ap, sym, ◌∙◌, arith, cond, if◌then◌else◌}
use Rattle.std.specs.List.{flat_map}
use Rattle.std.proofs.lemmas.Bool.Decides.{nat_tests}
use Rattle.std.proofs.lemmas.List.Elements.{All-nil, All-cons, All-head, All-tail, All-append, All-map, All-weaker}
use Rattle.esql_types.specs.declared.cause.Cause.{Cause}
use Rattle.esql_types.specs.declared.cause.Failure.{Failure}
use Rattle.esql_types.specs.declared.names.NodeId.{NodeId}
use Rattle.esql_types.specs.declared.value.Value.{Value}
use Rattle.esql_plan.specs.declared.typed.TypedExpr.{TypedExpr}
use Rattle.esql_plan.specs.declared.plan.OutColumn.{OutColumn}
use Rattle.esql_plan.specs.declared.step.Aggregate.{Aggregate}
use Rattle.esql_plan.specs.declared.step.Step.{Step}
use Rattle.esql_plan.specs.declared.step.Step.TheVariants.{Eval, Filter, Sort, TopN, Limit, Expand, Stats, Dissect, Grok, Enrich}
use Rattle.esql_plan.specs.Rules.{multi_of}
use Rattle.esql_plan.specs.Values.{NumberedRow, failures_at, value_of_typed}
use Rattle.plan_semantics.specs.Taken.{grokked}
use Rattle.plan_semantics.specs.Steps.{step_fails, failures_after}
use Rattle.plan_semantics.specs.Agrees.{causes_at}
use Rattle.plan_semantics.specs.Parts.{parted, fails_in, parts_after, fails_at, count_of}
use Rattle.plan_semantics.specs.WellFormed.{Bounds, MadeColumn, nodes_of, step_nodes, step_made, ExprStands, AggregateStands, StepStands, StepsStand}
use Rattle.plan_semantics.specs.Laws.{AreBelow}
use Rattle.plan_semantics.proofs.Transposed.{causes-append, quiet, uncounted, on as on_row, fails_first}
use Rattle.plan_semantics.proofs.Failing.{none_fails, failures_by_parts}
use Rattle.plan_semantics.proofs.FailingSteps.{steps_by_parts, one_by_one}
use Rattle.plan_semantics.proofs.OwnNodes.{has_own, grok_quiet, places, parts_count, steps_count}
use Rattle.plan_semantics.specs.Tables.{CatalogHeld}

abbrev IsBelow : ℕ → NodeId → Type 0
IsBelow nodes node = node.0 < nodes

differ : (n m : ℕ) → n < m → n == m ≡ false
differ n m less = grind arith

-- a node that is not below a number is at none of the places that are
no_place : (nodes : ℕ) (node : NodeId) → nodes ≤ node.0 → (ones : List NodeId) → All (IsBelow nodes) ones → places node ones ≤ 0
no_place nodes node above [] all = omega arith
no_place nodes node above (one ∷ ones) all =
    let below : one.0 < nodes = All-head (IsBelow nodes) one ones all in
    let other : one.0 == node.0 ≡ false = differ one.0 node.0 (omega (arith, below, above)) in
    let off : cond {A = ℕ} (one.0 == node.0) 1 0 ≡ 0 = ap (λ (b : Bool). cond {A = ℕ} b 1 0) other in
    omega (arith, off, no_place nodes node above ones (All-tail (IsBelow nodes) one ones all))

abbrev others : NodeId → List Failure → List Failure
others node failures = filter (λ (failure : Failure). failure.node.0 == node.0) failures

-- failures that no node from a number on has are of nodes below it
below_from : (nodes : ℕ) (failures : List Failure) → ((node : NodeId) → nodes ≤ node.0 → causes_at node failures ≡ []) → AreBelow nodes failures
below_from nodes [] none = All-nil (λ (failure : Failure). failure.node.0 < nodes)
below_from nodes (failure ∷ failures) none =
    All-cons (λ (failure : Failure). failure.node.0 < nodes) failure failures
    (by_case (nat_lt failure.node.0 nodes) refl)
    (below_from nodes failures (λ node above. later node (failure.node.0 == node.0) (none node above)))
  where
    later : (node : NodeId) (b : Bool) → map (λ (failure : Failure). failure.cause) (if b then failure ∷ others node failures else others node failures) ≡ [] → causes_at node failures ≡ []
    later node true is = absurd cc
    later node false is = is

    own : (id : ℕ) → id == id ≡ true
    own id = grind arith

    by_case : (b : Bool) → nat_lt failure.node.0 nodes ≡ b → failure.node.0 < nodes
    by_case true is = grind (arith, nat_tests, is)
    by_case false is =
        let above : nodes ≤ failure.node.0 = grind (arith, nat_tests, is) in
        absurd (let no : failure.cause ∷ causes_at failure.node failures ≡ [] =
        sym (ap (λ (b : Bool). map (λ (failure : Failure). failure.cause) (if b then failure ∷ others failure.node failures else others failure.node failures)) (own failure.node.0)) ∙ none failure.node above in cc)

-- parts of which none fails at a node
none_at : (node : NodeId) (parts : List (List Failure)) → count_of (fails_at node) parts ≤ 0 → causes_at node (one_by_one node parts) ≡ []
none_at node [] none = refl
none_at node (part ∷ parts) none =
    causes-append node part (one_by_one node parts)
    ∙ (λ i. uncounted node part (count_of (fails_at node) parts) none i ++ none_at node parts (omega (arith, none)) i)

pub value_below : (bounds : Bounds) (made : List MadeColumn) (expr : TypedExpr) → ExprStands bounds made expr → (row : NumberedRow) → AreBelow bounds.nodes (value_of_typed expr row).failures
value_below bounds made expr stands row = below_from bounds.nodes (value_of_typed expr row).failures (λ node above.
    let none = no_place bounds.nodes node above (nodes_of expr) stands.nodes in
    let counts = parts_count node (nodes_of expr) (parted expr).parts (has_own expr) (row ∷ []) in
    let first = fails_first node (parted expr).parts row [] in
    failures_by_parts node row expr (omega (arith, none, counts, first)) ∙ none_on node (omega (arith, none, counts, first)))
  where
    none_on : (node : NodeId) → count_of (fails_at node) (on_row (parted expr).parts row) ≤ 0 → causes_at node (fails_in (parted expr).parts row) ≡ []
    none_on node none = none_fails node row (parted expr).parts none

at_below : (nodes : ℕ) (node : NodeId) → node.0 < nodes → (causes : List Cause) → AreBelow nodes (failures_at node causes)
at_below nodes node below [] = All-nil (λ (failure : Failure). failure.node.0 < nodes)
at_below nodes node below (cause ∷ causes) =
    All-cons (λ (failure : Failure). failure.node.0 < nodes) (record { node = node; cause = cause }) (failures_at node causes) below (at_below nodes node below causes)

grok_below : (nodes : ℕ) (node : NodeId) → node.0 < nodes → (pattern : List ℕ) (count : ℕ) (cell : List Value) → AreBelow nodes (grokked node pattern count cell).failures
grok_below nodes node below pattern count cell = below_from nodes (grokked node pattern count cell).failures (λ other above.
    quiet other (grokked node pattern count cell).failures (grok_quiet other node (differ node.0 other.0 (omega (arith, below, above))) pattern count cell))

-- what a step fails with on one row
pub step_fails_below : (bounds : Bounds) (made : List MadeColumn) (step : Step) → StepStands bounds made step → (row : NumberedRow) → AreBelow bounds.nodes (step_fails step row)
step_fails_below bounds made (Eval to expr) stands row = value_below bounds made expr stands.0 row
step_fails_below bounds made (Filter node condition) stands row =
    All-append (λ (failure : Failure). failure.node.0 < bounds.nodes) (value_of_typed condition row).failures (failures_at node (multi_of (value_of_typed condition row).cell))
    (value_below bounds made condition stands.stands row) (at_below bounds.nodes node stands.below (multi_of (value_of_typed condition row).cell))
step_fails_below bounds made (Expand id to) stands row = All-nil (λ (failure : Failure). failure.node.0 < bounds.nodes)
step_fails_below bounds made (Sort keys) stands row = All-nil (λ (failure : Failure). failure.node.0 < bounds.nodes)
step_fails_below bounds made (TopN keys count) stands row = All-nil (λ (failure : Failure). failure.node.0 < bounds.nodes)
step_fails_below bounds made (Limit count) stands row = All-nil (λ (failure : Failure). failure.node.0 < bounds.nodes)
step_fails_below bounds made (Stats aggregates groups) stands row = All-nil (λ (failure : Failure). failure.node.0 < bounds.nodes)
step_fails_below bounds made (Dissect node input cutter pattern separator to) stands row = All-nil (λ (failure : Failure). failure.node.0 < bounds.nodes)
step_fails_below bounds made (Grok node input cutter pattern to) stands row = grok_below bounds.nodes node stands.below pattern (length to) (row input.0)
step_fails_below bounds made (Enrich policy on fields to) stands row = All-nil (λ (failure : Failure). failure.node.0 < bounds.nodes)

step_below : (bounds : Bounds) (made : List MadeColumn) (step : Step) → StepStands bounds made step → All (IsBelow bounds.nodes) (step_nodes step)
step_below bounds made (Eval to expr) stands = stands.0.nodes
step_below bounds made (Filter node condition) stands =
    All-append (IsBelow bounds.nodes) (nodes_of condition) (node ∷ []) stands.stands.nodes (All-cons (IsBelow bounds.nodes) node [] stands.below (All-nil (IsBelow bounds.nodes)))
step_below bounds made (Expand id to) stands = All-nil (IsBelow bounds.nodes)
step_below bounds made (Sort keys) stands = All-nil (IsBelow bounds.nodes)
step_below bounds made (TopN keys count) stands = All-nil (IsBelow bounds.nodes)
step_below bounds made (Limit count) stands = All-nil (IsBelow bounds.nodes)
step_below bounds made (Stats aggregates groups) stands =
    All-map (IsBelow bounds.nodes) (λ (aggregate : Aggregate). aggregate.node) aggregates
    (All-weaker (AggregateStands bounds made) (λ (aggregate : Aggregate). aggregate.node.0 < bounds.nodes) (λ aggregate own. own.below) aggregates stands.stand)
step_below bounds made (Dissect node input cutter pattern separator to) stands = All-nil (IsBelow bounds.nodes)
step_below bounds made (Grok node input cutter pattern to) stands = All-cons (IsBelow bounds.nodes) node [] stands.below (All-nil (IsBelow bounds.nodes))
step_below bounds made (Enrich policy on fields to) stands = All-nil (IsBelow bounds.nodes)

steps_below : (bounds : Bounds) (output : List OutColumn) (made : List MadeColumn) (steps : List Step) → StepsStand bounds output made steps → All (IsBelow bounds.nodes) (flat_map step_nodes steps)
steps_below bounds output made [] stands = All-nil (IsBelow bounds.nodes)
steps_below bounds output made (step ∷ steps) stands =
    All-append (IsBelow bounds.nodes) (step_nodes step) (flat_map step_nodes steps) (step_below bounds made step stands.0) (steps_below bounds output (step_made made step) steps stands.1)

pub failures_below : (held : CatalogHeld) → (bounds : Bounds) (output : List OutColumn) (made : List MadeColumn) (steps : List Step) → StepsStand bounds output made steps
    → (rows : List NumberedRow) → AreBelow bounds.nodes (failures_after held steps rows)
failures_below held bounds output made steps stands rows = below_from bounds.nodes (failures_after held steps rows) (λ node above.
    let none = no_place bounds.nodes node above (flat_map step_nodes steps) (steps_below bounds output made steps stands) in
    let counts = steps_count node held steps rows in
    steps_by_parts node held steps rows (omega (arith, none, counts)) ∙ none_at node (parts_after held steps rows) (omega (arith, none, counts)))
