-- The rows after the steps of a well formed plan have cells of their kinds in the columns that are made.
use Rattle.std.proofs.Common.{ℕ, Bool, true, false, List, [], ◌∷◌, ◌++◌, map, length, All, refl, ap, sym, subst, ◌∙◌, if◌then◌else◌}
use Rattle.std.specs.List.{AllZip}
use Rattle.std.proofs.lemmas.List.Elements.{All-nil, All-cons, All-take, All-map, All-weaker}
use Rattle.esql_types.specs.declared.value.Value.{Value}
use Rattle.esql_types.specs.declared.value.Kind.{Kind}
use Rattle.esql_types.specs.declared.names.ColId.{ColId}
use Rattle.esql_types.specs.declared.names.NodeId.{NodeId}
use Rattle.function_rules.specs.Lists.{sorted_by}
use Rattle.esql_plan.specs.declared.typed.TypedExpr.{TypedExpr}
use Rattle.esql_plan.specs.declared.catalog.Catalog.{Catalog}
use Rattle.esql_plan.specs.declared.plan.Plan.{Plan}
use Rattle.esql_plan.specs.declared.plan.OutColumn.{OutColumn}
use Rattle.esql_plan.specs.declared.step.NewColumn.{NewColumn}
use Rattle.esql_plan.specs.declared.step.Step.{Step}
use Rattle.esql_plan.specs.declared.step.Step.TheVariants.{Eval, Filter, Sort, TopN, Limit, Expand, Stats, Dissect, Grok, Enrich}
use Rattle.esql_plan.specs.Values.{NumberedRow, value_of_typed}
use Rattle.dissect_grok.specs.declared.cutter.Cutter.{Cutter}
use Rattle.plan_semantics.specs.Tables.{CatalogHeld, with_cell, source_rows}
use Rattle.plan_semantics.specs.Taken.{dissected, grokked, enriched, with_new, columns_of_reading, columns_of_grok}
use Rattle.plan_semantics.specs.Orders.{order_of_rows}
use Rattle.plan_semantics.specs.Steps.{is_true, expanded, step_gives, step_rows, rows_after}
use Rattle.plan_semantics.specs.Plans.{columns_of, shown_row}
use Rattle.plan_semantics.specs.WellFormed.{Bounds, MadeColumn, made_as, IsNew, kind_made, source_made, step_made, steps_made, new_made, new_kinds, kinds_of, NewStand, DissectStands, GrokStands, StepStands, StepsStand, bounds_of, IsWellFormed, AreTables, StepFits, StepsFit, RowHas}
use Rattle.plan_semantics.proofs.ResultKinds.{Has, pass_one, pass_first, pass_rest, has_test}
use Rattle.plan_semantics.proofs.ValueKinds.{value_has_kind}
use Rattle.plan_semantics.proofs.RowKinds.{all_flat, all_sorted, has_new, expr_fits_row, made_has, CellFits, shown_made, shown_kinds, source_kinds}
use Rattle.plan_semantics.proofs.StatsKinds.{stats_kinds}
use Rattle.plan_semantics.proofs.TakenKinds.{CellsHave, dissected_have, grokked_have}
use Rattle.plan_semantics.proofs.NewColumns.{new_has}
use Rattle.plan_semantics.proofs.EnrichKinds.{enriched_have}

-- steps ------------------------------------------------------------------------------------------------------------------------------------

abbrev StepKinds : CatalogHeld → List MadeColumn → Step → NumberedRow → Type 0
StepKinds held made step row = All (RowHas (step_made made step)) (step_gives held step row)

eval_kinds : (held : CatalogHeld) (bounds : Bounds) (made : List MadeColumn) (to : ColId) (expr : TypedExpr) → StepStands bounds made (Eval to expr) → (row : NumberedRow) → RowHas made row
    → StepKinds held made (Eval to expr) row
eval_kinds held bounds made to expr stands row has =
    let cell = (value_of_typed expr row).cell in
    All-cons (RowHas (made_as to expr.kind ∷ made)) (with_cell row to.0 cell) []
    (has_new made to expr.kind row cell stands.1.new (value_has_kind bounds.whole bounds.free row expr stands.0.fits (expr_fits_row bounds made expr stands.0 row has)) has)
    (All-nil (RowHas (made_as to expr.kind ∷ made)))

expand_kinds : (made : List MadeColumn) (to : ColId) (kind : Kind) (row : NumberedRow) → IsNew made to → RowHas made row → (values : List Value) → Has kind values
    → All (RowHas (made_as to kind ∷ made)) (map (λ (one : Value). with_cell row to.0 (one ∷ [])) values)
expand_kinds made to kind row new has [] own = All-nil (RowHas (made_as to kind ∷ made))
expand_kinds made to kind row new has (value ∷ values) own =
    All-cons (RowHas (made_as to kind ∷ made)) (with_cell row to.0 (value ∷ [])) (map (λ (one : Value). with_cell row to.0 (one ∷ [])) values)
    (has_new made to kind row (value ∷ []) new (pass_one (has_test kind) value (pass_first (has_test kind) value values own)) has)
    (expand_kinds made to kind row new has values (pass_rest (has_test kind) value values own))

expanded_kinds : (made : List MadeColumn) (to : ColId) (kind : Kind) (row : NumberedRow) → IsNew made to → RowHas made row → (values : List Value) → Has kind values
    → All (RowHas (made_as to kind ∷ made)) (expanded row to.0 values)
expanded_kinds made to kind row new has [] own =
    All-cons (RowHas (made_as to kind ∷ made)) (with_cell row to.0 []) [] (has_new made to kind row [] new refl has) (All-nil (RowHas (made_as to kind ∷ made)))
expanded_kinds made to kind row new has (value ∷ values) own = expand_kinds made to kind row new has (value ∷ values) own

if_kinds : (made : List MadeColumn) (row : NumberedRow) → RowHas made row → (b : Bool) → All (RowHas made) (if b then row ∷ [] else [])
if_kinds made row has true = All-cons (RowHas made) row [] has (All-nil (RowHas made))
if_kinds made row has false = All-nil (RowHas made)

-- new columns
cut_have : (bounds : Bounds) (made : List MadeColumn) (input : ColId) (number : ℕ) (pattern separator : List ℕ) (to : List NewColumn)
    → DissectStands bounds made input number pattern separator to → (cell : List Value) → CellsHave (dissected pattern separator (length to) cell).cells (new_kinds to)
cut_have bounds made input number pattern separator to stands cell =
    subst (CellsHave (dissected pattern separator (length to) cell).cells)
    (ap (λ reading. kinds_of (columns_of_reading reading)) stands.read ∙ sym stands.cut.kinds)
    (dissected_have pattern separator (length to) cell)

read_have : (bounds : Bounds) (made : List MadeColumn) (node : NodeId) (input : ColId) (number : ℕ) (pattern : List ℕ) (to : List NewColumn)
    → GrokStands bounds made node input number pattern to → (cell : List Value) → CellsHave (grokked node pattern (length to) cell).cells (new_kinds to)
read_have bounds made node input number pattern to stands cell =
    subst (CellsHave (grokked node pattern (length to) cell).cells)
    (ap (λ read. kinds_of (columns_of_grok read)) stands.read ∙ sym stands.cut.kinds)
    (grokked_have node pattern (length to) cell)

new_kinds_after : (bounds : Bounds) (made : List MadeColumn) (to : List NewColumn) → NewStand bounds made to → (cells : List (List Value)) → CellsHave cells (new_kinds to)
    → (row : NumberedRow) → RowHas made row → All (RowHas (new_made to ++ made)) (with_new row to cells ∷ [])
new_kinds_after bounds made to stands cells kinds row has =
    All-cons (RowHas (new_made to ++ made)) (with_new row to cells) [] (new_has bounds made to cells row stands kinds has) (All-nil (RowHas (new_made to ++ made)))

-- the rows after a step have the columns that are made after it
pub step_kinds : (held : CatalogHeld) (bounds : Bounds) → AreTables bounds.catalog held → (made : List MadeColumn) (step : Step) → StepStands bounds made step → (rows : List NumberedRow) → All (RowHas made) rows
    → All (RowHas (step_made made step)) (step_rows held step rows)
step_kinds held bounds are made (Eval to expr) stands rows has =
    all_flat (RowHas made) (RowHas (made_as to expr.kind ∷ made)) (step_gives held (Eval to expr)) (eval_kinds held bounds made to expr stands) rows has
step_kinds held bounds are made (Filter node condition) stands rows has =
    all_flat (RowHas made) (RowHas made) (step_gives held (Filter node condition)) (λ row own. if_kinds made row own (is_true (value_of_typed condition row).cell)) rows has
step_kinds held bounds are made (Expand id to) stands rows has =
    let kind = kind_made made id in
    all_flat (RowHas made) (RowHas (made_as to kind ∷ made)) (step_gives held (Expand id to))
    (λ row own. expanded_kinds made to kind row stands.1.new own (row id.0) (made_has made id row stands.0 own)) rows has
step_kinds held bounds are made (Sort keys) stands rows has = all_sorted (RowHas made) (order_of_rows keys) rows has
step_kinds held bounds are made (TopN keys count) stands rows has = All-take (RowHas made) count (sorted_by (order_of_rows keys) rows) (all_sorted (RowHas made) (order_of_rows keys) rows has)
step_kinds held bounds are made (Limit count) stands rows has = All-take (RowHas made) count rows has
step_kinds held bounds are made (Stats aggregates groups) stands rows has = stats_kinds bounds made aggregates groups stands rows has
step_kinds held bounds are made (Dissect node input cutter pattern separator to) stands rows has =
    all_flat (RowHas made) (RowHas (new_made to ++ made)) (step_gives held (Dissect node input cutter pattern separator to))
    (λ row own.
    new_kinds_after bounds made to stands.cut.new (dissected pattern separator (length to) (row input.0)).cells
    (cut_have bounds made input cutter pattern separator to stands (row input.0)) row own) rows has
step_kinds held bounds are made (Grok node input cutter pattern to) stands rows has =
    all_flat (RowHas made) (RowHas (new_made to ++ made)) (step_gives held (Grok node input cutter pattern to))
    (λ row own.
    new_kinds_after bounds made to stands.cut.new (grokked node pattern (length to) (row input.0)).cells
    (read_have bounds made node input cutter pattern to stands (row input.0)) row own) rows has
step_kinds held bounds are made (Enrich policy on fields to) stands rows has =
    all_flat (RowHas made) (RowHas (new_made to ++ made)) (step_gives held (Enrich policy on fields to))
    (λ row own.
    new_kinds_after bounds made to stands.new (enriched held policy fields (row on.0))
    (enriched_have held bounds are made policy on fields to stands (row on.0)) row own) rows has

pub steps_kinds : (held : CatalogHeld) (bounds : Bounds) (output : List OutColumn) (made : List MadeColumn) (steps : List Step) → AreTables bounds.catalog held → StepsStand bounds output made steps
    → (rows : List NumberedRow) → All (RowHas made) rows → All (RowHas (steps_made made steps)) (rows_after held steps rows)
steps_kinds held bounds output made [] are stands rows has = has
steps_kinds held bounds output made (step ∷ steps) are stands rows has =
    steps_kinds held bounds output (step_made made step) steps are stands.1 (step_rows held step rows) (step_kinds held bounds are made step stands.0 rows has)

-- the expression of a step fits each row that has the columns that are made before it
step_fits : (bounds : Bounds) (made : List MadeColumn) (step : Step) → StepStands bounds made step → (row : NumberedRow) → RowHas made row → StepFits step row
step_fits bounds made (Eval to expr) stands row has = expr_fits_row bounds made expr stands.0 row has
step_fits bounds made (Filter node condition) stands row has = expr_fits_row bounds made condition stands.stands row has
step_fits bounds made (Expand id to) stands row has = tt
step_fits bounds made (Sort keys) stands row has = tt
step_fits bounds made (TopN keys count) stands row has = tt
step_fits bounds made (Limit count) stands row has = tt
step_fits bounds made (Stats aggregates groups) stands row has = tt
step_fits bounds made (Dissect node input cutter pattern separator to) stands row has = tt
step_fits bounds made (Grok node input cutter pattern to) stands row has = tt
step_fits bounds made (Enrich policy on fields to) stands row has = tt

pub steps_fit : (held : CatalogHeld) (bounds : Bounds) (output : List OutColumn) (made : List MadeColumn) (steps : List Step) → AreTables bounds.catalog held → StepsStand bounds output made steps
    → (rows : List NumberedRow) → All (RowHas made) rows → StepsFit held steps rows
steps_fit held bounds output made [] are stands rows has = tt
steps_fit held bounds output made (step ∷ steps) are stands rows has = (
  All-weaker (RowHas made) (StepFits step) (step_fits bounds made step stands.0) rows has,
  steps_fit held bounds output (step_made made step) steps are stands.1 (step_rows held step rows) (step_kinds held bounds are made step stands.0 rows has),
)

-- plans ------------------------------------------------------------------------------------------------------------------------------------------

module _ (catalog : Catalog) (whole free : List (List ℕ)) (cutters : List Cutter) (plan : Plan) (held : CatalogHeld) (well : IsWellFormed catalog whole free cutters plan) (are : AreTables catalog held) where
  abbrev bounds : Bounds
  bounds = bounds_of catalog whole free cutters plan

  start : All (RowHas (source_made plan.source)) (source_rows held.tables plan.source)
  start = source_kinds catalog bounds held.tables (ap (λ (catalog : Catalog). catalog.tables) are.shapes) are.kinds plan.source well.source

  pub plan_fits_rows : StepsFit held plan.steps (source_rows held.tables plan.source)
  plan_fits_rows = steps_fit held bounds plan.output (source_made plan.source) plan.steps are well.steps (source_rows held.tables plan.source) start

  pub plan_kinds : All (RowHas (steps_made (source_made plan.source) plan.steps)) (rows_after held plan.steps (source_rows held.tables plan.source))
  plan_kinds = steps_kinds held bounds plan.output (source_made plan.source) plan.steps are well.steps (source_rows held.tables plan.source) start

  pub plan_shows_kinds : All (λ cells. AllZip CellFits (columns_of plan.output) cells) (map (shown_row plan.output) (rows_after held plan.steps (source_rows held.tables plan.source)))
  plan_shows_kinds =
      let made = steps_made (source_made plan.source) plan.steps in
      let rows = rows_after held plan.steps (source_rows held.tables plan.source) in
      All-map (λ cells. AllZip CellFits (columns_of plan.output) cells) (shown_row plan.output) rows
      (All-weaker (RowHas made) (λ row. AllZip CellFits (columns_of plan.output) (shown_row plan.output row))
      (λ row has. shown_kinds made row has plan.output (shown_made bounds plan.output (source_made plan.source) plan.steps well.steps)) rows plan_kinds)
