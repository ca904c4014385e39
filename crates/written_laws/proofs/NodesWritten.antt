-- No node is twice in a numbered query, and none from the number of its nodes on is in the steps of its plan.
use Rattle.std.proofs.Common.{◌≡◌, ℕ, zero, suc, ◌+◌, ◌≤◌, ◌<◌, ◌==◌, Bool, true, false, cond, List, [], ◌∷◌, ◌++◌, map, refl, ap, subst, ◌∙◌, arith}
use Rattle.std.specs.List.{flat_map, range_with_len}
use Rattle.std.proofs.lemmas.List.{append-nil}
use Rattle.esql_types.specs.declared.names.NodeId.{NodeId}
use Rattle.esql_types.specs.declared.names.ColId.{ColId}
use Rattle.esql_ast.specs.declared.nodes.NodeAt.{NodeAt}
use Rattle.esql_ast.specs.declared.query.Query.{Query}
use Rattle.esql_ast.specs.Laws.{IsNumbered}
use Rattle.esql_ast.specs.Nodes.{nodes_of_command, nodes_of_source, nodes_of}
use Rattle.esql_plan.specs.declared.catalog.Catalog.{Catalog}
use Rattle.esql_plan.specs.declared.step.Step.{Step}
use Rattle.esql_plan.specs.declared.step.Step.TheVariants as step
use Rattle.esql_plan.specs.declared.typed.TypedExpr.{TypedExpr}
use Rattle.plan_semantics.specs.Parts.{count_of}
use Rattle.plan_semantics.specs.WellFormed.{nodes_of as typed_nodes_of, step_nodes}
use Rattle.plan_semantics.proofs.OwnNodes.{places}
use Rattle.query_semantics.specs.WrittenStats.{Flag, flag_typed, flagged_typed}
use Rattle.query_semantics.specs.Written.{writing_of}
use Rattle.written_laws.proofs.FlagsFit.{flag_nodes, flagged_nodes}
use Rattle.written_laws.proofs.Measures.{IsMeasure, written_counts}
use Rattle.written_laws.proofs.NodesCounted.{placed, placed-append, places-append, one_at}

-- the numbers of a query, each once ------------------------------------------------------------------------------------------

placed_mapped : (node : NodeId) (nodes : List NodeAt) → placed node nodes ≡ count_of (λ n. n == node.0) (map (λ (place : NodeAt). place.node.0) nodes)
placed_mapped node [] = refl
placed_mapped node (one ∷ nodes) = ap (λ n. cond {A = ℕ} (one.node.0 == node.0) 1 0 + n) (placed_mapped node nodes)

one_off : (n k : ℕ) → k < n → n == k ≡ false
one_off n k less = grind arith

none_before : (k first count : ℕ) → k < first → count_of (λ n. n == k) (range_with_len first count) ≤ 0
none_before k first zero less = omega arith
none_before k first (suc count) less =
    let off : cond {A = ℕ} (first == k) 1 0 ≡ 0 = ap (λ (b : Bool). cond {A = ℕ} b 1 0) (one_off first k less) in
    omega (arith, off, none_before k (first + 1) count (omega (arith, less)))

none_behind : (k first count : ℕ) → first + count ≤ k → count_of (λ n. n == k) (range_with_len first count) ≤ 0
none_behind k first zero less = omega arith
none_behind k first (suc count) less =
    let off : cond {A = ℕ} (first == k) 1 0 ≡ 0 = ap (λ (b : Bool). cond {A = ℕ} b 1 0) (other first k (omega (arith, less))) in
    omega (arith, off, none_behind k (first + 1) count (omega (arith, less)))
  where
    other : (n k : ℕ) → n < k → n == k ≡ false
    other n k less = grind arith

once : (k first count : ℕ) → count_of (λ n. n == k) (range_with_len first count) ≤ 1
once k first zero = omega arith
once k first (suc count) = here (first == k) refl (once k (first + 1) count)
  where
    here : (same : Bool) → first == k ≡ same → count_of (λ n. n == k) (range_with_len (first + 1) count) ≤ 1 → count_of (λ n. n == k) (range_with_len first (suc count)) ≤ 1
    here true is later =
        let equal : first ≡ k = grind (arith, is) in
        let on : cond {A = ℕ} (first == k) 1 0 ≡ 1 = ap (λ (b : Bool). cond {A = ℕ} b 1 0) is in
        omega (arith, on, none_before k (first + 1) count (omega (arith, equal)))
    here false is later =
        let off : cond {A = ℕ} (first == k) 1 0 ≡ 0 = ap (λ (b : Bool). cond {A = ℕ} b 1 0) is in
        omega (arith, off, later)

-- whether there are some
abbrev some : ℕ → ℕ
some zero = 0
some (suc n) = 1

some_few : (n : ℕ) → some n ≤ n
some_few zero = omega arith
some_few (suc n) = omega arith

some_once : (n : ℕ) → some n ≤ 1
some_once zero = omega arith
some_once (suc n) = omega arith

some_sum : (n m : ℕ) → some (n + m) ≤ some n + m
some_sum zero m = omega (arith, some_few (0 + m))
some_sum (suc n) m = omega (arith, some_once (suc n + m))

some_more : (n m own : ℕ) (here : Bool) → (here ≡ true → 1 ≤ n) → own ≡ cond {A = ℕ} here 1 0 → some (n + (m + own)) ≤ some n + m
some_more zero m own true least is = absurd (omega (arith, least refl))
some_more (suc n) m own true least is = omega (arith, some_once (suc n + (m + own)))
some_more n m own false least is = subst (λ (more : ℕ). some (n + more) ≤ some n + m) (let same : m ≡ m + own = omega (arith, is) in same) (some_sum n m)

none_of_some : (n : ℕ) → some n ≤ 0 → n ≤ 0
none_of_some zero none = omega arith
none_of_some (suc n) none = absurd (omega (arith, none))

module _ (node : NodeId) where
  -- how often the node is in steps
  abbrev pub in_steps : List Step → ℕ
  in_steps steps = places node (flat_map step_nodes steps)

  steps-append : (these those : List Step) → in_steps (these ++ those) ≡ in_steps these + in_steps those
  steps-append [] those = omega arith
  steps-append (step ∷ these) those =
      omega (
        arith,
        places-append node (step_nodes step) (flat_map step_nodes (these ++ those)),
        places-append node (step_nodes step) (flat_map step_nodes these),
        steps-append these those,
      )

  pushed : (steps : List Step) (step : Step) → in_steps (steps ++ step ∷ []) ≡ in_steps steps + places node (step_nodes step)
  pushed steps step = steps-append steps (step ∷ []) ∙ ap (λ (nodes : List NodeId). in_steps steps + places node nodes) (append-nil (step_nodes step))

  abbrev is_in : List Step → ℕ
  is_in steps = some (in_steps steps)

  -- the node of a condition is in the step of its column
  abbrev HasNode : List Step → Flag → Type 0
  HasNode steps flag = flag.node.0 == node.0 ≡ true → 1 ≤ in_steps steps

  flag_has : (steps : List Step) (flag : Flag) (condition : TypedExpr) → HasNode (steps ++ step.Eval flag.id (flag_typed flag.node condition) ∷ []) flag
  flag_has steps flag condition is =
      let one : one_at node flag.node ≡ 1 = ap (λ (b : Bool). cond {A = ℕ} b 1 0) is in
      omega (
        arith,
        one,
        pushed steps (step.Eval flag.id (flag_typed flag.node condition)),
        ap (places node) (flag_nodes flag.node condition),
        places-append node (typed_nodes_of condition) (flag.node ∷ []),
      )

  flagged_in : (steps : List Step) (flag : Flag) (to : ColId) (argument : TypedExpr) → HasNode steps flag
      → is_in (steps ++ step.Eval to (flagged_typed flag argument) ∷ []) ≤ is_in steps + places node (typed_nodes_of argument)
  flagged_in steps flag to argument has =
      let are : in_steps (steps ++ step.Eval to (flagged_typed flag argument) ∷ []) ≡ in_steps steps + (places node (typed_nodes_of argument) + one_at node flag.node) =
      omega (
        arith,
        pushed steps (step.Eval to (flagged_typed flag argument)),
        ap (places node) (flagged_nodes flag argument),
        places-append node (typed_nodes_of argument) (flag.node ∷ []),
      ) in
      omega (arith, ap some are, some_more (in_steps steps) (places node (typed_nodes_of argument)) (one_at node flag.node) (flag.node.0 == node.0) has refl)

  is_in_measure : IsMeasure node is_in HasNode
  is_in_measure = record {
    nothing = omega arith;
    pushed = λ steps last. omega (arith, ap some (pushed steps last), some_sum (in_steps steps) (places node (step_nodes last)));
    made = flag_has;
    kept = λ steps flag to expr below has is. omega (arith, has is, pushed steps (step.Eval to expr));
    flagged = flagged_in;
  }

  numbered_counts : (query : Query) → IsNumbered query → placed node (nodes_of query) ≡ count_of (λ n. n == node.0) (range_with_len 0 query.nodes)
  numbered_counts query numbered = placed_mapped node (nodes_of query) ∙ ap (count_of (λ n. n == node.0)) numbered

  -- no node is twice in a numbered query
  pub nodes_once : (query : Query) → IsNumbered query → placed node (nodes_of query) ≤ 1
  nodes_once query numbered = omega (arith, numbered_counts query numbered, once node.0 0 query.nodes)

  pub commands_once : (query : Query) → IsNumbered query → placed node (flat_map nodes_of_command query.commands) ≤ 1
  commands_once query numbered = omega (arith, nodes_once query numbered, placed-append node (nodes_of_source query.source) (flat_map nodes_of_command query.commands))

  -- and none is in the steps of its plan from the number of nodes on
  pub written_below : (text : List ℕ) (catalog : Catalog) (query : Query) → IsNumbered query → query.nodes ≤ node.0 → in_steps (writing_of text catalog query).steps ≤ 0
  written_below text catalog query numbered above =
      none_of_some (in_steps (writing_of text catalog query).steps)
      (omega (
        arith,
        written_counts node is_in HasNode is_in_measure text catalog query,
        numbered_counts query numbered,
        none_behind node.0 0 query.nodes (omega (arith, above)),
      ))
