-- The plan of a numbered query is orderly.
use Rattle.std.proofs.Common.{◌≡◌, ℕ, ◌+◌, ◌≤◌, ◌<◌, Bool, true, false, cond, List, [], ◌∷◌, ◌++◌, All, None, ◌⊎◌, inl, inr, ⊎_elim, refl, ap, sym, subst, ◌∙◌, arith}
use Rattle.std.specs.List.{flat_map}
use Rattle.std.proofs.lemmas.List.{append-nil, map-append}
use Rattle.std.proofs.lemmas.List.Elements.{All-nil, All-cons, All-head, All-tail, All-weaker}
use Rattle.esql_types.specs.declared.value.Value.{Value}
use Rattle.esql_types.specs.declared.value.Value.TheVariants as value
use Rattle.esql_types.specs.declared.cause.Failure.{Failure}
use Rattle.esql_types.specs.declared.names.NodeId.{NodeId}
use Rattle.esql_types.specs.declared.names.ColId.{ColId}
use Rattle.esql_ast.specs.declared.query.Query.{Query}
use Rattle.esql_ast.specs.Laws.{IsNumbered}
use Rattle.esql_plan.specs.declared.catalog.Catalog.{Catalog}
use Rattle.esql_plan.specs.declared.function.Function.TheVariants.{Case}
use Rattle.esql_plan.specs.declared.step.Step.{Step}
use Rattle.esql_plan.specs.declared.step.Step.TheVariants.{Eval}
use Rattle.esql_plan.specs.declared.typed.TypedExpr.{TypedExpr}
use Rattle.esql_plan.specs.Functions.{rule_of}
use Rattle.esql_plan.specs.Rules.{truth_in}
use Rattle.esql_plan.specs.Values.{Valued, NumberedRow, silent, failures_at, is_met, value_of_typed}
use Rattle.esql_plan.proofs.TypedFolds.{value_of_constant, value_of_call}
use Rattle.plan_semantics.specs.Tables.{CatalogHeld, source_rows, with_cell}
use Rattle.plan_semantics.specs.Steps.{step_gives, rows_after}
use Rattle.plan_semantics.specs.Parts.{FalliblePart, Parted, parts_by, case_causes, own_part, parted, over_rows, step_parts, parts_after, fails_at, count_of, IsOrderly}
use Rattle.plan_semantics.specs.WellFormed.{nodes_of, step_nodes}
use Rattle.plan_semantics.proofs.OwnNodes.{AreOf, has_own, places, parts_count, steps_count}
use Rattle.plan_semantics.proofs.PartedFolds.{parted_of_column, parted_of_call}
use Rattle.plan_semantics.proofs.Splits.{rows_after-append, parts_after-append}
use Rattle.plan_semantics.proofs.Transposed.{count_of-append}
use Rattle.query_semantics.specs.Written.{source_in_plan, written_of}
use Rattle.query_semantics.specs.WrittenStats.{Flag, flag_typed, flagged_typed}
use Rattle.query_semantics.proofs.Named.{cell_put, same_put}
use Rattle.written_laws.proofs.FlagsFit.{true_at, flag_at, flagged_nodes}
use Rattle.written_laws.proofs.Measures.{IsMeasure, written_counts}
use Rattle.written_laws.proofs.NodesWritten.{nodes_once}

-- the columns of conditions -----------------------------------------------------------------------------------------------------

-- the cell of a condition's column is true or null
abbrev IsFlagCell : List Value → Type 0
IsFlagCell cell = (cell ≡ []) ⊎ (cell ≡ value.Bool true ∷ [])

abbrev IsFlagAt : ColId → NumberedRow → Type 0
IsFlagAt id row = IsFlagCell (row id.0)

-- a condition in such a column is no failure
flag_quiet : (cell other : List Value) → IsFlagCell cell → case_causes (cell ∷ other ∷ []) ≡ []
flag_quiet cell other flag =
    ⊎_elim (λ none. ap (λ (these : List Value). case_causes (these ∷ other ∷ [])) none) (λ met. ap (λ (these : List Value). case_causes (these ∷ other ∷ [])) met) flag

case_is_flag : (met : Bool) (part : Valued) → part.cell ≡ value.Bool true ∷ [] → IsFlagCell (cond met part (silent [])).cell
case_is_flag true part is = inr is
case_is_flag false part is = inl refl

flag_cell : (node : NodeId) (condition : TypedExpr) (row : NumberedRow) → IsFlagCell (value_of_typed (flag_typed node condition) row).cell
flag_cell node condition row =
    let is = ap (λ (this : Valued). this.cell) (value_of_call (flag_typed node condition) row Case (condition ∷ true_at node ∷ []) None refl) in
    let own : Valued = value_of_typed (true_at node) row in
    subst IsFlagCell (sym is)
    (case_is_flag (is_met (truth_in (value_of_typed condition row).cell)) own (ap (λ (this : Valued). this.cell) (value_of_constant (true_at node) row (value.Bool true ∷ []) refl)))

-- the rows after a step that makes a column
given_all : (held : CatalogHeld) (P : NumberedRow → Type 0) (to : ColId) (expr : TypedExpr) (rows : List NumberedRow) → All (λ row. P (with_cell row to.0 (value_of_typed expr row).cell)) rows
    → All P (flat_map (step_gives held (Eval to expr)) rows)
given_all held P to expr [] all = All-nil P
given_all held P to expr (row ∷ rows) all =
    let Given : NumberedRow → Type 0 = λ row. P (with_cell row to.0 (value_of_typed expr row).cell) in
    All-cons P (with_cell row to.0 (value_of_typed expr row).cell) (flat_map (step_gives held (Eval to expr)) rows) (All-head Given row rows all) (given_all held P to expr rows (All-tail Given row rows all))

all_rows : (P : NumberedRow → Type 0) (rows : List NumberedRow) → ((row : NumberedRow) → P row) → All P rows
all_rows P [] holds = All-nil P
all_rows P (row ∷ rows) holds = All-cons P row rows (holds row) (all_rows P rows holds)

-- the parts of a flagged argument -----------------------------------------------------------------------------------------------

-- all parts but the last one
of_front : (nodes : List NodeId) (last : NodeId) (parts : List FalliblePart) (own : FalliblePart) → AreOf (nodes ++ last ∷ []) (parts ++ own ∷ []) → AreOf nodes parts
of_front [] last [] own are = tt
of_front [] last (part ∷ []) own are = absurd are.1
of_front [] last (part ∷ next ∷ parts) own are = absurd are.1
of_front (node ∷ []) last [] own are = absurd are.1
of_front (node ∷ next ∷ nodes) last [] own are = absurd are.1
of_front (node ∷ nodes) last (part ∷ parts) own are = (are.0, of_front nodes last parts own are.1)

module _ (flag : Flag) (argument : TypedExpr) where
  abbrev args : List Parted
  args = parted (flag_at flag) ∷ parted argument ∷ []

  abbrev inner : List FalliblePart
  inner = parts_by (rule_of Case) args

  abbrev own : FalliblePart
  own = own_part Case flag.node args

  parts_are : (parted (flagged_typed flag argument)).parts ≡ inner ++ own ∷ []
  parts_are = ap (λ (this : Parted). this.parts) (parted_of_call (flagged_typed flag argument) Case (flag_at flag ∷ argument ∷ []) None refl)

  inner_own : AreOf (nodes_of argument) inner
  inner_own =
      of_front (nodes_of argument) flag.node inner own
      (subst (λ (nodes : List NodeId). AreOf nodes (inner ++ own ∷ [])) (flagged_nodes flag argument)
      (subst (AreOf (nodes_of (flagged_typed flag argument))) parts_are (has_own (flagged_typed flag argument))))

  -- the condition's own part fails on no row where its column is true or null
  own_quiet : (row : NumberedRow) → IsFlagAt flag.id row → own row ≡ []
  own_quiet row is =
      let cell : ((parted (flag_at flag)).value row).cell ≡ row flag.id.0 = ap (λ (this : Parted). (this.value row).cell) (parted_of_column (flag_at flag) flag.id refl) in
      ap (λ causes. failures_at flag.node causes) (flag_quiet ((parted (flag_at flag)).value row).cell ((parted argument).value row).cell (subst IsFlagCell (sym cell) is))

  all_quiet : (rows : List NumberedRow) → All (IsFlagAt flag.id) rows → flat_map own rows ≡ []
  all_quiet [] all = refl
  all_quiet (row ∷ rows) all =
      (λ i. own_quiet row (All-head (IsFlagAt flag.id) row rows all) i ++ flat_map own rows) ∙ all_quiet rows (All-tail (IsFlagAt flag.id) row rows all)

-- the parts of steps that fail at a node ----------------------------------------------------------------------------------------

module _ (node : NodeId) (held : CatalogHeld) (start : List NumberedRow) where
  -- in how many parts of steps the node fails
  abbrev failing : List Step → ℕ
  failing steps = count_of (fails_at node) (parts_after held steps start)

  abbrev Knows : List Step → Flag → Type 0
  Knows steps flag = All (IsFlagAt flag.id) (rows_after held steps start)

  failing_last : (steps : List Step) (last : Step) → failing (steps ++ last ∷ []) ≡ failing steps + count_of (fails_at node) (step_parts last (rows_after held steps start))
  failing_last steps last =
      ap (count_of (fails_at node)) (parts_after-append held steps (last ∷ []) start)
      ∙ count_of-append (fails_at node) (parts_after held steps start) (parts_after held (last ∷ []) (rows_after held steps start))
      ∙ ap (λ (parts : List (List Failure)). failing steps + count_of (fails_at node) parts) (append-nil (step_parts last (rows_after held steps start)))

  pushed : (steps : List Step) (last : Step) → failing (steps ++ last ∷ []) ≤ failing steps + places node (step_nodes last)
  pushed steps last =
      let rows : List NumberedRow = rows_after held steps start in
      omega (
        arith,
        failing_last steps last,
        steps_count node held (last ∷ []) rows,
        ap (count_of (fails_at node)) (append-nil (step_parts last rows)),
        ap (places node) (append-nil (step_nodes last)),
      )

  flag_made : (steps : List Step) (flag : Flag) (condition : TypedExpr) → Knows (steps ++ Eval flag.id (flag_typed flag.node condition) ∷ []) flag
  flag_made steps flag condition =
      let typed : TypedExpr = flag_typed flag.node condition in
      subst (All (IsFlagAt flag.id)) (sym (rows_after-append held steps (Eval flag.id typed ∷ []) start))
      (given_all held (IsFlagAt flag.id) flag.id typed (rows_after held steps start)
      (all_rows _ (rows_after held steps start) (λ row. subst IsFlagCell (sym (cell_put row flag.id.0 (value_of_typed typed row).cell)) (flag_cell flag.node condition row))))

  flag_kept : (steps : List Step) (flag : Flag) (to : ColId) (expr : TypedExpr) → flag.id.0 < to.0 → Knows steps flag → Knows (steps ++ Eval to expr ∷ []) flag
  flag_kept steps flag to expr below known =
      subst (All (IsFlagAt flag.id)) (sym (rows_after-append held steps (Eval to expr ∷ []) start))
      (given_all held (IsFlagAt flag.id) to expr (rows_after held steps start)
      (All-weaker (IsFlagAt flag.id) (λ row. IsFlagAt flag.id (with_cell row to.0 (value_of_typed expr row).cell))
      (λ row is. subst IsFlagCell (sym (same_put row to.0 (value_of_typed expr row).cell flag.id.0 below)) is) (rows_after held steps start) known))

  flagged : (steps : List Step) (flag : Flag) (to : ColId) (argument : TypedExpr) → Knows steps flag
      → failing (steps ++ Eval to (flagged_typed flag argument) ∷ []) ≤ failing steps + places node (nodes_of argument)
  flagged steps flag to argument known =
      let rows : List NumberedRow = rows_after held steps start in
      let parts : List FalliblePart = inner flag argument in
      let last : FalliblePart = own flag argument in
      omega (
        arith,
        failing_last steps (Eval to (flagged_typed flag argument)),
        ap (λ (these : List FalliblePart). count_of (fails_at node) (over_rows these rows)) (parts_are flag argument),
        ap (count_of (fails_at node)) (map-append (λ (part : FalliblePart). flat_map part rows) parts (last ∷ [])),
        count_of-append (fails_at node) (over_rows parts rows) (over_rows (last ∷ []) rows),
        parts_count node (nodes_of argument) parts (inner_own flag argument) rows,
        ap (λ (failures : List Failure). count_of (fails_at node) (failures ∷ [])) (all_quiet flag argument rows known),
      )

  failing_measure : IsMeasure node failing Knows
  failing_measure = record { nothing = omega arith; pushed = pushed; made = flag_made; kept = flag_kept; flagged = flagged }

pub written_orderly : (text : List ℕ) (catalog : Catalog) (query : Query) → IsNumbered query → (held : CatalogHeld) → IsOrderly (written_of text catalog query).plan held
written_orderly text catalog query numbered held node =
    let start : List NumberedRow = source_rows held.tables (source_in_plan catalog query.source) in
    omega (arith, written_counts node (failing node held start) (Knows node held start) (failing_measure node held start) text catalog query, nodes_once node query numbered)
