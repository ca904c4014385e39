-- What the laws of plans say.
use Rattle.std.specs.List.{flat_map, AllZip}
use Rattle.std.specs.Prelude.{◌≡◌, ◌<◌, ◌==◌, ℕ, Bool, true, false, List, [], ◌++◌, map, length, All, Some, slice_get}
use Rattle.esql_types.specs.declared.value.Value.{Value}
use Rattle.esql_types.specs.declared.cause.Failure.{Failure}
use Rattle.esql_types.specs.declared.names.ColId.{ColId}
use Rattle.esql_types.specs.declared.names.NodeId.{NodeId}
use Rattle.esql_plan.specs.declared.catalog.Catalog.{Catalog}
use Rattle.esql_plan.specs.declared.catalog.PolicyShape.{PolicyShape}
use Rattle.esql_plan.specs.declared.plan.Plan.{Plan}
use Rattle.esql_plan.specs.declared.plan.PlanSource.{PlanSource}
use Rattle.esql_plan.specs.declared.plan.OutColumn.{OutColumn}
use Rattle.esql_plan.specs.declared.step.NewColumn.{NewColumn}
use Rattle.esql_plan.specs.declared.step.Step.{Step}
use Rattle.esql_plan.specs.declared.step.Step.TheVariants.{Dissect, Grok, Enrich}
use Rattle.esql_plan.specs.declared.typed.TypedExpr.{TypedExpr}
use Rattle.esql_plan.specs.Values.{NumberedRow, value_of_typed}
use Rattle.esql_plan.specs.Fits.{ReadColumn, ExprFits, RowFits, columns_read, has_kind}
use Rattle.plan_semantics.specs.Steps.{step_gives, step_fails, is_stats, rows_after, failures_after}
use Rattle.plan_semantics.specs.Agrees.{PlanSeen, Agrees, AgreeAtNodes}
use Rattle.plan_semantics.specs.Plans.{plan_means}
use Rattle.plan_semantics.specs.Parts.{parted, fails_in, plan_parts, IsOrderly, IsExprOrderly}
use Rattle.plan_semantics.specs.Used.{StepReadsUsed, SameOn, SameAfter}
use Rattle.dissect_grok.specs.declared.cutter.Cutter.{Cutter}
use Rattle.plan_semantics.specs.Tables.{CatalogHeld, source_rows}
use Rattle.plan_semantics.specs.Taken.{rows_of_policy, grokked, columns_in_grok, with_new}
use Rattle.plan_semantics.specs.WellFormed.{Bounds, MadeColumn, AreOnce, new_ids, StepStands, StepsStand, HaveOwnNodes, RowHas, steps_made, source_made, SourceStands, AreMadeOnce, AreTables, StepsFit, IsWellFormed, ExprStands}

-- Steps one after another ----------------------------------------------------------------------------------------------------

-- the rows after these steps and those are the rows after those of the rows after these
abbrev pub RowsSplit : Type 0
RowsSplit = (held : CatalogHeld) (these those : List Step) (rows : List NumberedRow) → rows_after held (these ++ those) rows ≡ rows_after held those (rows_after held these rows)

-- the failures of these steps and those are the failures of these, and behind them those of those on the rows after these
abbrev pub FailuresSplit : Type 0
FailuresSplit = (held : CatalogHeld) (these those : List Step) (rows : List NumberedRow)
    → failures_after held (these ++ those) rows ≡ failures_after held these rows ++ failures_after held those (rows_after held these rows)

-- Columns ----------------------------------------------------------------------------------------------------------------------

-- two rows have one cell in the column
abbrev pub AreSameAt : NumberedRow → NumberedRow → ReadColumn → Type 0
AreSameAt this that column = this column.id.0 ≡ that column.id.0

-- on rows that are the same in the columns that an expression reads, it has one value
abbrev pub ReadsItsColumns : Type 0
ReadsItsColumns = (expr : TypedExpr) (this that : NumberedRow) → All (AreSameAt this that) (columns_read expr)
    → value_of_typed expr this ≡ value_of_typed expr that

-- steps that read columns that are used alone give the same of rows that are the same in these, and fail in the same way
abbrev pub StepsReadTheirColumns : Type 0
StepsReadTheirColumns = (held : CatalogHeld) (uses : ℕ → Bool) (steps : List Step) → All (StepReadsUsed uses) steps
    → (these those : List NumberedRow) → SameOn uses these those → SameAfter held uses steps these those

-- a source and steps that are well formed make each column once where no step is Stats
abbrev pub StepsMakeOnce : Type 0
StepsMakeOnce = (catalog : Catalog) (bounds : Bounds) (output : List OutColumn) (source : PlanSource) (steps : List Step)
    → SourceStands catalog bounds source → StepsStand bounds output (source_made source) steps → All (λ (step : Step). is_stats step ≡ false) steps → AreMadeOnce source steps

-- two rows have one cell in each column that is made
abbrev pub IsKept : List MadeColumn → NumberedRow → NumberedRow → Type 0
IsKept made before after = All (λ column. after column.id ≡ before column.id) made

-- The rows that a step of a well formed plan makes of one row keep its cells in the columns that are made before the step. Stats
-- makes no row of one row.
abbrev pub StepsKeep : Type 0
StepsKeep = (held : CatalogHeld) (bounds : Bounds) (made : List MadeColumn) (step : Step) → StepStands bounds made step
    → (row : NumberedRow) → All (IsKept made row) (step_gives held step row)

-- Plans that agree -----------------------------------------------------------------------------------------------------------------

-- what a plan shows agrees with itself
abbrev pub EachAgrees : Type 0
EachAgrees = (this : PlanSeen) → Agrees this this

-- where this agrees with that, that agrees with this
abbrev pub AgreeBack : Type 0
AgreeBack = (this that : PlanSeen) → Agrees this that → Agrees that this

-- what agrees with what agrees with a third agrees with that third
abbrev pub AgreeThrough : Type 0
AgreeThrough = (this that other : PlanSeen) → Agrees this that → Agrees that other → Agrees this other

-- what is equal agrees
abbrev pub EqualAgree : Type 0
EqualAgree = (this that : PlanSeen) → this ≡ that → Agrees this that

-- Parts that can fail ----------------------------------------------------------------------------------------------------------------

-- over rows on which an expression is orderly, its value fails at each node as its parts do, row by row
abbrev pub FailsByRows : Type 0
FailsByRows = (expr : TypedExpr) (rows : List NumberedRow) → IsExprOrderly expr rows
    → AgreeAtNodes (flat_map (λ row. (value_of_typed expr row).failures) rows) (flat_map (fails_in (parted expr).parts) rows)

-- and part by part, each over all rows
abbrev pub FailsByParts : Type 0
FailsByParts = (expr : TypedExpr) (rows : List NumberedRow) → IsExprOrderly expr rows
    → AgreeAtNodes (flat_map (λ row. (value_of_typed expr row).failures) rows) (flat_map (λ part. flat_map part rows) (parted expr).parts)

-- an orderly plan fails at each node as its parts do, one after another
abbrev pub PlanFailsByParts : Type 0
PlanFailsByParts = (plan : Plan) (held : CatalogHeld) → IsOrderly plan held
    → AgreeAtNodes (plan_means plan held).failures (flat_map (λ failures. failures) (plan_parts plan held))

-- a plan in which no two parts have one node is orderly on all tables
abbrev pub OwnNodesAreOrderly : Type 0
OwnNodesAreOrderly = (plan : Plan) → HaveOwnNodes plan.steps → (held : CatalogHeld) → IsOrderly plan held

-- Kinds ---------------------------------------------------------------------------------------------------------------------------------

-- the value of a well formed expression, on a row with cells of their kinds in the columns that it reads, has its kind
abbrev pub ValuesHaveTheirKind : Type 0
ValuesHaveTheirKind = (whole free : List (List ℕ)) (expr : TypedExpr) (row : NumberedRow)
    → ExprFits whole free expr → RowFits expr row → has_kind expr.kind (value_of_typed expr row).cell ≡ true

-- the rows after steps have a cell of its kind in each column that is made
abbrev pub RowsKeepKinds : Type 0
RowsKeepKinds = (held : CatalogHeld) (bounds : Bounds) (output : List OutColumn) (made : List MadeColumn) (steps : List Step) → AreTables bounds.catalog held → StepsStand bounds output made steps
    → (rows : List NumberedRow) → All (RowHas made) rows → All (RowHas (steps_made made steps)) (rows_after held steps rows)

-- over tables of the catalog each expression of a well formed plan fits each row that it is evaluated on
abbrev pub PlansFitRows : Type 0
PlansFitRows = (catalog : Catalog) (whole free : List (List ℕ)) (cutters : List Cutter) (plan : Plan) (held : CatalogHeld)
    → IsWellFormed catalog whole free cutters plan → AreTables catalog held → StepsFit held plan.steps (source_rows held.tables plan.source)

-- over tables of the catalog a well formed plan shows rows with a cell of its kind for each of its columns
abbrev pub PlansShowKinds : Type 0
PlansShowKinds = (catalog : Catalog) (whole free : List (List ℕ)) (cutters : List Cutter) (plan : Plan) (held : CatalogHeld)
    → IsWellFormed catalog whole free cutters plan → AreTables catalog held
    → All (λ cells. AllZip (λ column cell. has_kind column.kind cell ≡ true) (plan_means plan held).columns cells) (plan_means plan held).rows

-- the failures of nodes below a number
abbrev pub AreBelow : ℕ → List Failure → Type 0
AreBelow nodes failures = All (λ failure. failure.node.0 < nodes) failures

-- an expression of a well formed plan fails at nodes below the plan's number
abbrev pub ValuesFailBelow : Type 0
ValuesFailBelow = (bounds : Bounds) (made : List MadeColumn) (expr : TypedExpr) → ExprStands bounds made expr
    → (row : NumberedRow) → AreBelow bounds.nodes (value_of_typed expr row).failures

-- a well formed plan fails at nodes below its number, on all tables
abbrev pub PlansFailBelow : Type 0
PlansFailBelow = (catalog : Catalog) (whole free : List (List ℕ)) (cutters : List Cutter) (plan : Plan) → IsWellFormed catalog whole free cutters plan
    → (held : CatalogHeld) → AreBelow plan.nodes (plan_means plan held).failures

-- New columns ---------------------------------------------------------------------------------------------------------------------------

-- a row with cells in new columns of different numbers has each in its column, and in every other column what it had
pub record HasCells (row : NumberedRow) (to : List NewColumn) (cells : List (List Value)) : Type 0 where
  pub own : map (λ (new : NewColumn). with_new row to cells new.id.0) to ≡ cells
  pub others : (id : ℕ) → All (λ (new : NewColumn). new.id.0 == id ≡ false) to → with_new row to cells id ≡ row id

abbrev pub NewColumnsHold : Type 0
NewColumnsHold = (to : List NewColumn) (row : NumberedRow) (cells : List (List Value)) → AreOnce (new_ids to) → length cells ≡ length to → HasCells row to cells

-- the step makes one row of the row, with null in each new column, and fails in nothing
pub record GivesNull (held : CatalogHeld) (step : Step) (to : List NewColumn) (row : NumberedRow) : Type 0 where
  pub alone : length (step_gives held step row) ≡ 1
  pub cells : All (λ (given : NumberedRow). All (λ (new : NewColumn). given new.id.0 ≡ []) to) (step_gives held step row)
  pub failures : step_fails step row ≡ []

-- DISSECT and GROK of null give null
abbrev pub NullIsCutToNull : Type 0
NullIsCutToNull = (held : CatalogHeld) (node : NodeId) (input : ColId) (number : ℕ) (pattern separator : List ℕ) (to : List NewColumn) (row : NumberedRow) → row input.0 ≡ []
    → GivesNull held (Dissect node input number pattern separator to) to row × GivesNull held (Grok node input number pattern to) to row

-- what GROK takes out of a cell has the kinds of the pattern's columns
abbrev pub GrokHasKinds : Type 0
GrokHasKinds = (node : NodeId) (pattern : List ℕ) (cell : List Value)
    → AllZip (λ column given. has_kind column.kind given ≡ true) (columns_in_grok pattern) (grokked node pattern (length (columns_in_grok pattern)) cell).cells

-- ENRICH by a policy whose tables have no rows gives null
abbrev pub EmptyPolicyGivesNull : Type 0
EmptyPolicyGivesNull = (held : CatalogHeld) (number : ℕ) (policy : PolicyShape) → slice_get held.policies number ≡ Some policy → rows_of_policy held.tables policy ≡ []
    → (on : ColId) (fields : List ℕ) (to : List NewColumn) (row : NumberedRow) → GivesNull held (Enrich number on fields to) to row

-- and so does ENRICH by null, which matches no row
abbrev pub NullMatchesNothing : Type 0
NullMatchesNothing = (held : CatalogHeld) (number : ℕ) (on : ColId) (fields : List ℕ) (to : List NewColumn) (row : NumberedRow) → row on.0 ≡ []
    → GivesNull held (Enrich number on fields to) to row
