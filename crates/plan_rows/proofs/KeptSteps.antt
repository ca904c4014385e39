-- A step on rows as they are kept is the step on the rows of numbered columns.
use Rattle.std.proofs.Common.{◌≡◌, ℕ, zero, suc, ◌<◌, ◌≤◌, Bool, true, false, List, [], ◌∷◌, ◌++◌, length, get_or, map, take, All, refl, ap, sym, subst, ◌∙◌, arith}
use Rattle.std.specs.Prelude.{if◌then◌else◌}
use Rattle.std.specs.List.{flat_map}
use Rattle.std.specs.Ordering.{is_gt}
use Rattle.std.specs.declared.cmp.Ordering.{Ordering}
use Rattle.std.proofs.lemmas.List.{map-append, append-nil}
use Rattle.std.proofs.lemmas.List.Elements.{All-nil, All-cons, All-head, All-tail, All-weaker}
use Rattle.std.proofs.lemmas.List.Folds.{flat_map-map}
use Rattle.esql_types.specs.declared.value.Value.{Value}
use Rattle.esql_types.specs.declared.cause.Failure.{Failure}
use Rattle.function_rules.specs.Lists.{put_in_order, sorted_by}
use Rattle.esql_plan.specs.declared.plan.OutColumn.{OutColumn}
use Rattle.esql_plan.specs.declared.step.NewColumn.{NewColumn}
use Rattle.esql_plan.specs.declared.step.Step.{Step}
use Rattle.esql_plan.specs.declared.step.Step.TheVariants.{Eval, Filter, Sort, TopN, Limit, Expand, Stats, Dissect, Grok, Enrich}
use Rattle.esql_plan.specs.Values.{NumberedRow, value_of_typed}
use Rattle.esql_scalar.specs.Rows.{row_of}
use Rattle.plan_semantics.specs.Tables.{CatalogHeld, with_cell}
use Rattle.plan_semantics.specs.Taken.{dissected, grokked, enriched, with_new}
use Rattle.plan_semantics.specs.Orders.{order_of_rows}
use Rattle.plan_semantics.specs.Steps.{is_true, step_gives, step_fails, step_rows, step_failures, expanded, rows_after, failures_after}
use Rattle.plan_semantics.specs.Laws.{AreBelow}
use Rattle.plan_semantics.specs.WellFormed.{Bounds, MadeColumn, StepStands, StepsStand, IsMadeAs, step_made}
use Rattle.plan_semantics.proofs.Below.{failures_below}
use Rattle.stats_groups.specs.Cells.{put_cell}
use Rattle.plan_rows.specs.Kept.{rows_of, kept_gives, kept_rows, kept_failures, kept_new, expanded_cells, order_of_kept}
use Rattle.plan_rows.specs.Runs.{CanRun, FailsBelow, StatsFailBelow}
use Rattle.plan_rows.proofs.NumberedRows.{row_of-put}
use Rattle.plan_rows.proofs.StatsRows.{rows_of-stats}

-- lists ------------------------------------------------------------------------------------------------------------------------

map_chosen : {A B : Type 0} (f : A → B) (item : A) (b : Bool) → map f (if b then item ∷ [] else []) ≡ (if b then f item ∷ [] else [])
map_chosen f item true = refl
map_chosen f item false = refl

map_take : {A B : Type 0} (f : A → B) (count : ℕ) (items : List A) → map f (take count items) ≡ take count (map f items)
map_take f zero items = refl
map_take f (suc count) [] = refl
map_take f (suc count) (item ∷ items) = ap (λ rest. f item ∷ rest) (map_take f count items)

map_flat : {A B C D : Type 0} (f : A → List B) (g : C → List D) (on : A → C) (by : B → D) → ((item : A) → map by (f item) ≡ g (on item))
    → (items : List A) → map by (flat_map f items) ≡ flat_map g (map on items)
map_flat f g on by each [] = refl
map_flat f g on by each (item ∷ items) = map-append by (f item) (flat_map f items) ∙ (λ i. each item i ++ map_flat f g on by each items i)

module _ {A B : Type 0} (order : B → B → Ordering) (on : A → B) where
  abbrev through : A → A → Ordering
  through this that = order (on this) (on that)

  put_mapped : (item : A) (items : List A) → map on (put_in_order through item items) ≡ put_in_order order (on item) (map on items)
  put_mapped item [] = refl
  put_mapped item (first ∷ rest) = elim (is_gt (order (on item) (on first)))
      as (λ b. map on (if b then first ∷ put_in_order through item rest else item ∷ first ∷ rest)
      ≡ (if b then on first ∷ put_in_order order (on item) (map on rest) else on item ∷ on first ∷ map on rest))
      [ true ↦ ap (λ these. on first ∷ these) (put_mapped item rest) | false ↦ refl ]

  sorted_mapped : (items : List A) → map on (sorted_by through items) ≡ sorted_by order (map on items)
  sorted_mapped [] = refl
  sorted_mapped (item ∷ items) = put_mapped item (sorted_by through items) ∙ ap (put_in_order order (on item)) (sorted_mapped items)

-- one row ------------------------------------------------------------------------------------------------------------------------

expanded_mapped : (row : List (List Value)) (id : ℕ) (values : List Value)
    → map row_of (map (λ (one : Value). put_cell row id (one ∷ [])) values) ≡ map (λ (one : Value). with_cell (row_of row) id (one ∷ [])) values
expanded_mapped row id [] = refl
expanded_mapped row id (value ∷ values) = λ i. row_of-put row id (value ∷ []) i ∷ expanded_mapped row id values i

expanded_rows : (row : List (List Value)) (id : ℕ) (cell : List Value) → rows_of (expanded_cells row id cell) ≡ expanded (row_of row) id cell
expanded_rows row id [] = ap (λ (one : NumberedRow). one ∷ []) (row_of-put row id [])
expanded_rows row id (value ∷ values) = expanded_mapped row id (value ∷ values)

row_of-new : (row : List (List Value)) (to : List NewColumn) (cells : List (List Value)) → row_of (kept_new row to cells) ≡ with_new (row_of row) to cells
row_of-new row [] cells = refl
row_of-new row (new ∷ to) [] =
    row_of-new (put_cell row new.id.0 []) to [] ∙ ap (λ (one : NumberedRow). with_new one to []) (row_of-put row new.id.0 [])
row_of-new row (new ∷ to) (cell ∷ cells) =
    row_of-new (put_cell row new.id.0 cell) to cells ∙ ap (λ (one : NumberedRow). with_new one to cells) (row_of-put row new.id.0 cell)

-- steps --------------------------------------------------------------------------------------------------------------------------

module _ (held : CatalogHeld) (bounds : Bounds) where
  gives_rows : (step : Step) → (row : List (List Value)) → rows_of (kept_gives held step row) ≡ step_gives held step (row_of row)
  gives_rows (Eval to expr) row = ap (λ (one : NumberedRow). one ∷ []) (row_of-put row to.0 (value_of_typed expr (row_of row)).cell)
  gives_rows (Filter node condition) row = map_chosen row_of row (is_true (value_of_typed condition (row_of row)).cell)
  gives_rows (Expand id to) row = expanded_rows row to.0 (get_or row id.0 [])
  gives_rows (Sort keys) row = refl
  gives_rows (TopN keys count) row = refl
  gives_rows (Limit count) row = refl
  gives_rows (Stats aggregates groups) row = refl
  gives_rows (Dissect node input cutter pattern separator to) row =
      ap (λ (one : NumberedRow). one ∷ []) (row_of-new row to (dissected pattern separator (length to) (row_of row input.0)).cells)
  gives_rows (Grok node input cutter pattern to) row =
      ap (λ (one : NumberedRow). one ∷ []) (row_of-new row to (grokked node pattern (length to) (row_of row input.0)).cells)
  gives_rows (Enrich policy on fields to) row =
      ap (λ (one : NumberedRow). one ∷ []) (row_of-new row to (enriched held policy fields (row_of row on.0)))

  abbrev each_row : (step : Step) (rows : List (List (List Value))) → rows_of (flat_map (kept_gives held step) rows) ≡ flat_map (step_gives held step) (rows_of rows)
  each_row step rows = map_flat (kept_gives held step) (step_gives held step) row_of row_of (gives_rows step) rows

  pub rows_of-step : (step : Step) → CanRun bounds step → (rows : List (List (List Value))) → rows_of (kept_rows held step rows) ≡ step_rows held step (rows_of rows)
  rows_of-step (Eval to expr) run rows = each_row (Eval to expr) rows
  rows_of-step (Filter node condition) run rows = each_row (Filter node condition) rows
  rows_of-step (Expand id to) run rows = each_row (Expand id to) rows
  rows_of-step (Sort keys) run rows = sorted_mapped (order_of_rows keys) row_of rows
  rows_of-step (TopN keys count) run rows =
      map_take row_of count (sorted_by (order_of_kept keys) rows) ∙ ap (take count) (sorted_mapped (order_of_rows keys) row_of rows)
  rows_of-step (Limit count) run rows = map_take row_of count rows
  rows_of-step (Stats aggregates groups) run rows = rows_of-stats aggregates groups run rows
  rows_of-step (Dissect node input cutter pattern separator to) run rows = each_row (Dissect node input cutter pattern separator to) rows
  rows_of-step (Grok node input cutter pattern to) run rows = each_row (Grok node input cutter pattern to) rows
  rows_of-step (Enrich policy on fields to) run rows = each_row (Enrich policy on fields to) rows

-- the failures of a step on the rows of numbered columns
pub failures_of-step : (step : Step) (rows : List (List (List Value))) → kept_failures step rows ≡ step_failures step (rows_of rows)
failures_of-step (Eval to expr) rows = sym (flat_map-map (step_fails (Eval to expr)) row_of rows)
failures_of-step (Filter node condition) rows = sym (flat_map-map (step_fails (Filter node condition)) row_of rows)
failures_of-step (Expand id to) rows = sym (flat_map-map (step_fails (Expand id to)) row_of rows)
failures_of-step (Sort keys) rows = sym (flat_map-map (step_fails (Sort keys)) row_of rows)
failures_of-step (TopN keys count) rows = sym (flat_map-map (step_fails (TopN keys count)) row_of rows)
failures_of-step (Limit count) rows = sym (flat_map-map (step_fails (Limit count)) row_of rows)
failures_of-step (Stats aggregates groups) rows = refl
failures_of-step (Dissect node input cutter pattern separator to) rows = sym (flat_map-map (step_fails (Dissect node input cutter pattern separator to)) row_of rows)
failures_of-step (Grok node input cutter pattern to) rows = sym (flat_map-map (step_fails (Grok node input cutter pattern to)) row_of rows)
failures_of-step (Enrich policy on fields to) rows = sym (flat_map-map (step_fails (Enrich policy on fields to)) row_of rows)

-- what fails on no row
pub no_failures : (fails : NumberedRow → List Failure) → ((row : NumberedRow) → fails row ≡ []) → (rows : List (List (List Value))) → flat_map (λ row. fails (row_of row)) rows ≡ []
no_failures fails none [] = refl
no_failures fails none (row ∷ rows) = λ i. none (row_of row) i ++ no_failures fails none rows i

-- plans that are well formed -----------------------------------------------------------------------------------------------------

can_run : (bounds : Bounds) (made : List MadeColumn) (step : Step) → StepStands bounds made step → CanRun bounds step
can_run bounds made (Eval to expr) stands = stands.0.fits
can_run bounds made (Filter node condition) stands = stands.stands.fits
can_run bounds made (Expand id to) stands = tt
can_run bounds made (Sort keys) stands = tt
can_run bounds made (TopN keys count) stands = tt
can_run bounds made (Limit count) stands = tt
can_run bounds made (Stats aggregates groups) stands = stands.once
can_run bounds made (Dissect node input cutter pattern separator to) stands =
    record { reading = stands.reading; read = stands.read; cutter = stands.cutter }
can_run bounds made (Grok node input cutter pattern to) stands =
    record { reading = stands.reading; read = stands.read; cutter = stands.cutter }
can_run bounds made (Enrich policy on fields to) stands = record { policy = stands.policy; is = stands.is }

-- what can be run can be run whatever the numbers of columns and of nodes are
abbrev pub unnumbered : Bounds → Bounds
unnumbered bounds = record { catalog = bounds.catalog; whole = bounds.whole; free = bounds.free; cutters = bounds.cutters; columns = 0; nodes = 0 }

runs_anyway : (bounds : Bounds) (step : Step) → CanRun bounds step → CanRun (unnumbered bounds) step
runs_anyway bounds (Eval to expr) run = run
runs_anyway bounds (Filter node condition) run = run
runs_anyway bounds (Expand id to) run = run
runs_anyway bounds (Sort keys) run = run
runs_anyway bounds (TopN keys count) run = run
runs_anyway bounds (Limit count) run = run
runs_anyway bounds (Stats aggregates groups) run = run
runs_anyway bounds (Dissect node input cutter pattern separator to) run = record { reading = run.reading; read = run.read; cutter = run.cutter }
runs_anyway bounds (Grok node input cutter pattern to) run = record { reading = run.reading; read = run.read; cutter = run.cutter }
runs_anyway bounds (Enrich policy on fields to) run = record { policy = run.policy; is = run.is }

pub all_run_anyway : (bounds : Bounds) (steps : List Step) → All (CanRun bounds) steps → All (CanRun (unnumbered bounds)) steps
all_run_anyway bounds steps run = All-weaker (CanRun bounds) (CanRun (unnumbered bounds)) (runs_anyway bounds) steps run

pub all_run : (bounds : Bounds) (output : List OutColumn) (made : List MadeColumn) (steps : List Step) → StepsStand bounds output made steps
    → All (CanRun bounds) steps
all_run bounds output made [] stands = All-nil (CanRun bounds)
all_run bounds output made (step ∷ steps) stands =
    All-cons (CanRun bounds) step steps (can_run bounds made step stands.0) (all_run bounds output (step_made made step) steps stands.1)

below_more : (nodes more : ℕ) → nodes ≤ more → (failures : List Failure) → AreBelow nodes failures → AreBelow more failures
below_more nodes more less [] below = All-nil (λ (failure : Failure). failure.node.0 < more)
below_more nodes more less (failure ∷ failures) below =
    let here : failure.node.0 < nodes = All-head (λ (failure : Failure). failure.node.0 < nodes) failure failures below in
    All-cons (λ (failure : Failure). failure.node.0 < more) failure failures (omega (arith, here, less))
    (below_more nodes more less failures (All-tail (λ (failure : Failure). failure.node.0 < nodes) failure failures below))

-- failures do not depend on what is held
no_rows : CatalogHeld
no_rows = record { tables = []; policies = [] }

-- the failures of a step that works row by row, on one row
one_row : (bounds : Bounds) (made : List MadeColumn) (step : Step) → StepStands bounds made step → (row : NumberedRow)
    → step_failures step (row ∷ []) ≡ step_fails step row ++ [] → AreBelow bounds.nodes (step_fails step row)
one_row bounds made step stands row alone =
    subst (AreBelow bounds.nodes) (append-nil (step_failures step (row ∷ [])) ∙ alone ∙ append-nil (step_fails step row))
    (failures_below no_rows bounds [] made (step ∷ []) (stands, All-nil (λ (out : OutColumn). IsMadeAs (step_made made step) out.id out.kind)) (row ∷ []))

one_below : (bounds : Bounds) (made : List MadeColumn) (step : Step) → StepStands bounds made step → (row : NumberedRow) → AreBelow bounds.nodes (step_fails step row)
one_below bounds made (Eval to expr) stands row = one_row bounds made (Eval to expr) stands row refl
one_below bounds made (Filter node condition) stands row = one_row bounds made (Filter node condition) stands row refl
one_below bounds made (Expand id to) stands row = one_row bounds made (Expand id to) stands row refl
one_below bounds made (Sort keys) stands row = one_row bounds made (Sort keys) stands row refl
one_below bounds made (TopN keys count) stands row = one_row bounds made (TopN keys count) stands row refl
one_below bounds made (Limit count) stands row = one_row bounds made (Limit count) stands row refl
one_below bounds made (Stats aggregates groups) stands row = All-nil (λ (failure : Failure). failure.node.0 < bounds.nodes)
one_below bounds made (Dissect node input cutter pattern separator to) stands row = one_row bounds made (Dissect node input cutter pattern separator to) stands row refl
one_below bounds made (Grok node input cutter pattern to) stands row = one_row bounds made (Grok node input cutter pattern to) stands row refl
one_below bounds made (Enrich policy on fields to) stands row = one_row bounds made (Enrich policy on fields to) stands row refl

-- the failures of groups, over all rows
groups_below : (bounds : Bounds) (made : List MadeColumn) (step : Step) → StepStands bounds made step → (nodes : ℕ) → bounds.nodes ≤ nodes → StatsFailBelow nodes step
groups_below bounds made (Eval to expr) stands nodes within = tt
groups_below bounds made (Filter node condition) stands nodes within = tt
groups_below bounds made (Expand id to) stands nodes within = tt
groups_below bounds made (Sort keys) stands nodes within = tt
groups_below bounds made (TopN keys count) stands nodes within = tt
groups_below bounds made (Limit count) stands nodes within = tt
groups_below bounds made (Stats aggregates groups) stands nodes within = λ rows.
    below_more bounds.nodes nodes within (step_failures (Stats aggregates groups) rows)
    (subst (AreBelow bounds.nodes) (append-nil (step_failures (Stats aggregates groups) rows))
    (failures_below no_rows bounds [] made (Stats aggregates groups ∷ []) (stands, All-nil (λ (out : OutColumn). IsMadeAs (step_made made (Stats aggregates groups)) out.id out.kind)) rows))
groups_below bounds made (Dissect node input cutter pattern separator to) stands nodes within = tt
groups_below bounds made (Grok node input cutter pattern to) stands nodes within = tt
groups_below bounds made (Enrich policy on fields to) stands nodes within = tt

pub all_groups_below : (bounds : Bounds) (output : List OutColumn) (made : List MadeColumn) (steps : List Step) (nodes : ℕ) → bounds.nodes ≤ nodes → StepsStand bounds output made steps
    → All (StatsFailBelow nodes) steps
all_groups_below bounds output made [] nodes within stands = All-nil (StatsFailBelow nodes)
all_groups_below bounds output made (step ∷ steps) nodes within stands =
    All-cons (StatsFailBelow nodes) step steps (groups_below bounds made step stands.0 nodes within) (all_groups_below bounds output (step_made made step) steps nodes within stands.1)

pub all_below : (bounds : Bounds) (output : List OutColumn) (made : List MadeColumn) (steps : List Step) (nodes : ℕ) → bounds.nodes ≤ nodes → StepsStand bounds output made steps
    → All (FailsBelow nodes) steps
all_below bounds output made [] nodes within stands = All-nil (FailsBelow nodes)
all_below bounds output made (step ∷ steps) nodes within stands =
    All-cons (FailsBelow nodes) step steps
    (λ row. below_more bounds.nodes nodes within (step_fails step row) (one_below bounds made step stands.0 row))
    (all_below bounds output (step_made made step) steps nodes within stands.1)
