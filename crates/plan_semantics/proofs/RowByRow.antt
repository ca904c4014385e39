-- The rows and the failures of single steps.
use Rattle.std.proofs.Common.{◌≡◌, ℕ, Bool, true, false, List, [], ◌∷◌, ◌++◌, map, filter, refl, ap, sym, ◌∙◌, if◌then◌else◌}
use Rattle.std.specs.List.{flat_map}
use Rattle.std.proofs.lemmas.List.Concat.{flat_map_single}
use Rattle.std.proofs.lemmas.Grind.{flat_map-append}
use Rattle.esql_types.specs.declared.cause.Failure.{Failure}
use Rattle.esql_types.specs.declared.names.ColId.{ColId}
use Rattle.esql_types.specs.declared.names.NodeId.{NodeId}
use Rattle.esql_plan.specs.declared.typed.TypedExpr.{TypedExpr}
use Rattle.esql_plan.specs.declared.step.PlanKey.{PlanKey}
use Rattle.esql_plan.specs.declared.step.Step.{Step}
use Rattle.esql_plan.specs.declared.step.Step.TheVariants.{Eval, Filter, Sort, TopN, Limit, Expand, Stats, Dissect, Grok, Enrich}
use Rattle.esql_plan.specs.Values.{NumberedRow, value_of_typed}
use Rattle.plan_semantics.specs.Tables.{CatalogHeld, with_cell}
use Rattle.plan_semantics.specs.Steps.{is_true, is_stats, step_fails, step_rows, step_failures}

-- the items that pass a test, each as a list of one
pub filtered_singly : {Item : Type 0} (test : Item → Bool) (items : List Item) → flat_map (λ (item : Item). if test item then item ∷ [] else []) items ≡ filter test items
filtered_singly test [] = refl
filtered_singly {Item} test (item ∷ items) =
    elim (test item) as (λ b. (if b then item ∷ [] else []) ++ flat_map (λ (item : Item). if test item then item ∷ [] else []) items ≡ (if b then item ∷ filter test items else filter test items))
    [ true ↦ ap (λ (rest : List Item). item ∷ rest) (filtered_singly test items) | false ↦ filtered_singly test items ]

pub step_rows-eval : (held : CatalogHeld) → (to : ColId) (expr : TypedExpr) (rows : List NumberedRow)
    → step_rows held (Eval to expr) rows ≡ map (λ (row : NumberedRow). with_cell row to.0 (value_of_typed expr row).cell) rows
step_rows-eval held to expr rows = flat_map_single (λ (row : NumberedRow). with_cell row to.0 (value_of_typed expr row).cell) rows

pub step_rows-filter : (held : CatalogHeld) → (node : NodeId) (condition : TypedExpr) (rows : List NumberedRow)
    → step_rows held (Filter node condition) rows ≡ filter (λ (row : NumberedRow). is_true (value_of_typed condition row).cell) rows
step_rows-filter held node condition rows = filtered_singly (λ (row : NumberedRow). is_true (value_of_typed condition row).cell) rows

-- no row fails
pub none_of_any : {Row : Type 0} (rows : List Row) → flat_map (λ (row : Row). let none : List Failure = [] in none) rows ≡ []
none_of_any [] = refl
none_of_any (row ∷ rows) = none_of_any rows

pub step_failures-limit : (count : ℕ) (rows : List NumberedRow) → step_failures (Limit count) rows ≡ []
step_failures-limit count rows = none_of_any rows

pub step_failures-sort : (keys : List PlanKey) (rows : List NumberedRow) → step_failures (Sort keys) rows ≡ []
step_failures-sort keys rows = none_of_any rows

pub step_failures-top : (keys : List PlanKey) (count : ℕ) (rows : List NumberedRow) → step_failures (TopN keys count) rows ≡ []
step_failures-top keys count rows = none_of_any rows

pub step_failures-expand : (id to : ColId) (rows : List NumberedRow) → step_failures (Expand id to) rows ≡ []
step_failures-expand id to rows = none_of_any rows

-- a step that is no Stats fails row by row
pub step_failures-rows : (step : Step) → is_stats step ≡ false → (rows : List NumberedRow) → step_failures step rows ≡ flat_map (step_fails step) rows
step_failures-rows (Eval to expr) is rows = refl
step_failures-rows (Filter node condition) is rows = refl
step_failures-rows (Expand id to) is rows = refl
step_failures-rows (Sort keys) is rows = refl
step_failures-rows (TopN keys count) is rows = refl
step_failures-rows (Limit count) is rows = refl
step_failures-rows (Stats aggregates groups) is rows = absurd cc
step_failures-rows (Dissect node input cutter pattern separator to) is rows = refl
step_failures-rows (Grok node input cutter pattern to) is rows = refl
step_failures-rows (Enrich policy on fields to) is rows = refl

pub step_failures-append : (step : Step) → is_stats step ≡ false → (these those : List NumberedRow) → step_failures step (these ++ those) ≡ step_failures step these ++ step_failures step those
step_failures-append step is these those =
    step_failures-rows step is (these ++ those)
    ∙ flat_map-append (step_fails step) these those
    ∙ sym (λ i. step_failures-rows step is these i ++ step_failures-rows step is those i)
