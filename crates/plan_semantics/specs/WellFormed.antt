-- When a plan is well formed for a catalog, patterns and cutters, and when tables are those of their shapes.
use Rattle.std.specs.Prelude.{◌≡◌, ℕ, ◌==◌, ◌<◌, true, false, List, [], ◌∷◌, ◌++◌, map, length, All, Contains, Option, Some, None, IfSome, slice_get, if◌then◌else◌}
use Rattle.std.specs.List.{flat_map, AllZip, IsDistinct}
use Rattle.std.specs.Str.{bytes_eq}
use Rattle.esql_types.specs.declared.value.Kind.{Kind}
use Rattle.esql_types.specs.declared.value.Kind.TheVariants.{Boolean, Keyword, Null}
use Rattle.esql_types.specs.declared.names.Column.{Column as NamedColumn}
use Rattle.esql_types.specs.declared.names.ColId.{ColId}
use Rattle.esql_types.specs.declared.names.NodeId.{NodeId}
use Rattle.esql_plan.specs.declared.catalog.Catalog.{Catalog}
use Rattle.esql_plan.specs.declared.catalog.PolicyShape.{PolicyShape}
use Rattle.esql_plan.specs.declared.catalog.TableShape.{TableShape}
use Rattle.esql_plan.specs.declared.typed.TypedExpr.{TypedExpr}
use Rattle.esql_plan.specs.declared.typed.TypedForm.TheOpen.{TypedForm-F, Constant, Column, Apply}
use Rattle.esql_plan.specs.declared.typed.TypedForm.TheFolds.{fold-TypedExpr}
use Rattle.esql_plan.specs.declared.plan.Plan.{Plan}
use Rattle.esql_plan.specs.declared.plan.PlanSource.{PlanSource}
use Rattle.esql_plan.specs.declared.plan.PlanSource.TheVariants.{OneRow, Scan}
use Rattle.esql_plan.specs.declared.plan.ScanColumn.{ScanColumn}
use Rattle.esql_plan.specs.declared.plan.OutColumn.{OutColumn}
use Rattle.esql_plan.specs.declared.function.AggFunction.{AggFunction}
use Rattle.esql_plan.specs.declared.function.AggFunction.TheVariants.{CountRows, Count, CountDistinct, Sum, Min, Max, Values}
use Rattle.esql_plan.specs.declared.step.Aggregate.{Aggregate}
use Rattle.esql_plan.specs.declared.step.GroupColumn.{GroupColumn}
use Rattle.esql_plan.specs.declared.step.NewColumn.{NewColumn}
use Rattle.esql_plan.specs.declared.step.Step.{Step}
use Rattle.esql_plan.specs.declared.step.Step.TheVariants.{Eval, Filter, Sort, TopN, Limit, Expand, Stats, Dissect, Grok, Enrich}
use Rattle.esql_plan.specs.Signatures.{is_kind}
use Rattle.esql_plan.specs.Values.{NumberedRow}
use Rattle.esql_plan.specs.Fits.{ExprFits, RowFits, columns_read, has_kind}
use Rattle.dissect_grok.specs.declared.cutter.Cutter.{Cutter}
use Rattle.dissect_grok.specs.declared.cutter.Cutter.TheVariants as cutter
use Rattle.dissect_grok.specs.Patterns.{Reading, reading_of}
use Rattle.dissect_grok.specs.Groks.{GrokRead, grok_of}
use Rattle.plan_semantics.specs.Tables.{TableHeld, CatalogHeld, catalog_held}
use Rattle.plan_semantics.specs.Aggregates.{aggregate_fits, aggregate_kind}
use Rattle.plan_semantics.specs.Stats.{stats_columns}
use Rattle.plan_semantics.specs.Taken.{kinds_match, columns_of_reading, columns_of_grok}
use Rattle.plan_semantics.specs.Steps.{step_rows}

-- Columns that are made ------------------------------------------------------------------------------------------------------------

-- a column number that is made, with its kind
pub record MadeColumn : Type 0 where
  pub id : ℕ
  pub kind : Kind

-- a column of this number, made with this kind
abbrev pub made_as : ColId → Kind → MadeColumn
made_as id kind = record { id = id.0; kind = kind }

-- the column is made, with this kind
abbrev pub IsMadeAs : List MadeColumn → ColId → Kind → Type 0
IsMadeAs made id kind = Contains made (made_as id kind)

-- the column is made
abbrev pub IsMade : List MadeColumn → ColId → Type 0
IsMade made id = Contains (map (λ column. column.id) made) id.0

-- no column of this number is made
abbrev pub IsNew : List MadeColumn → ColId → Type 0
IsNew made id = All (λ column. id.0 == column.id ≡ false) made

-- the kind that a column is made with
abbrev pub kind_made : List MadeColumn → ColId → Kind
kind_made [] id = Null
kind_made (column ∷ made) id = if id.0 == column.id then column.kind else kind_made made id

-- no two columns have one number
abbrev pub AreOnce : List ColId → Type 0
AreOnce ids = IsDistinct (λ this that. this == that) (map (λ id. id.0) ids)

-- the columns that a source makes
abbrev pub source_made : PlanSource → List MadeColumn
source_made OneRow = []
source_made (Scan tables columns) = map (λ column. made_as column.to column.kind) columns

-- the kind that the input of an aggregate is made with, that of null where it has none
abbrev pub input_kind : List MadeColumn → Option ColId → Kind
input_kind made None = Null
input_kind made (Some id) = kind_made made id

-- the columns that Stats makes, with the kinds of the aggregates and of the columns that rows are grouped by
abbrev pub stats_made : List MadeColumn → List Aggregate → List GroupColumn → List MadeColumn
stats_made made aggregates groups =
    map (λ (aggregate : Aggregate). made_as aggregate.to (aggregate_kind aggregate.function (input_kind made aggregate.input))) aggregates
    ++ map (λ (group : GroupColumn). made_as group.to (kind_made made group.id)) groups

-- new columns of a step, with their kinds
abbrev pub new_made : List NewColumn → List MadeColumn
new_made to = map (λ (new : NewColumn). made_as new.id new.kind) to

abbrev pub new_ids : List NewColumn → List ColId
new_ids to = map (λ (new : NewColumn). new.id) to

abbrev pub new_kinds : List NewColumn → List Kind
new_kinds to = map (λ (new : NewColumn). new.kind) to

abbrev pub kinds_of : List NamedColumn → List Kind
kinds_of columns = map (λ (column : NamedColumn). column.kind) columns

-- the columns that are made after a step; Stats leaves those that it makes alone
abbrev pub step_made : List MadeColumn → Step → List MadeColumn
step_made made (Eval to expr) = made_as to expr.kind ∷ made
step_made made (Filter node condition) = made
step_made made (Expand id to) = made_as to (kind_made made id) ∷ made
step_made made (Sort keys) = made
step_made made (TopN keys count) = made
step_made made (Limit count) = made
step_made made (Stats aggregates groups) = stats_made made aggregates groups
step_made made (Dissect node input cutter pattern separator to) = new_made to ++ made
step_made made (Grok node input cutter pattern to) = new_made to ++ made
step_made made (Enrich policy on fields to) = new_made to ++ made

-- the columns that are made after steps one after another
abbrev pub steps_made : List MadeColumn → List Step → List MadeColumn
steps_made made [] = made
steps_made made (step ∷ steps) = steps_made (step_made made step) steps

-- Expressions ------------------------------------------------------------------------------------------------------------------------

-- only functions have nodes that can fail
abbrev pub nodes_of_form : TypedForm-F (NodeId → List NodeId) (List NodeId) → NodeId → List NodeId
nodes_of_form (Constant cell) node = []
nodes_of_form (Column id) node = []
nodes_of_form (Apply function nodes pattern) node = flat_map (λ these. these) nodes ++ node ∷ []

-- the nodes of the functions in an expression, which alone can fail, those of the arguments first
abbrev pub nodes_of : TypedExpr → List NodeId
nodes_of = fold-TypedExpr (NodeId → List NodeId) (List NodeId) nodes_of_form (λ expr. expr.form expr.node)

-- the nodes of a step that can fail
abbrev pub step_nodes : Step → List NodeId
step_nodes (Eval to expr) = nodes_of expr
step_nodes (Filter node condition) = nodes_of condition ++ node ∷ []
step_nodes (Expand id to) = []
step_nodes (Sort keys) = []
step_nodes (TopN keys count) = []
step_nodes (Limit count) = []
step_nodes (Stats aggregates groups) = map (λ (aggregate : Aggregate). aggregate.node) aggregates
step_nodes (Dissect node input cutter pattern separator to) = []
step_nodes (Grok node input cutter pattern to) = node ∷ []
step_nodes (Enrich policy on fields to) = []

-- no two parts of the steps that can fail have one node
abbrev pub HaveOwnNodes : List Step → Type 0
HaveOwnNodes steps = IsDistinct (λ this that. this == that) (map (λ node. node.0) (flat_map step_nodes steps))

-- a catalog; the texts of patterns, those that are matched against whole texts and those that are searched for in a text; what the
-- patterns of DISSECT and GROK are read as; and the numbers that the numbers of all columns and nodes are below
pub record Bounds : Type 0 where
  pub catalog : Catalog
  pub whole : List (List ℕ)
  pub free : List (List ℕ)
  pub cutters : List Cutter
  pub columns : ℕ
  pub nodes : ℕ

-- an expression is well formed, and reads columns that are made with the kinds that it takes them for
pub record ExprStands (bounds : Bounds) (made : List MadeColumn) (expr : TypedExpr) : Type 0 where
  pub fits : ExprFits bounds.whole bounds.free expr
  pub reads : All (λ column. IsMadeAs made column.id column.kind) (columns_read expr)
  pub nodes : All (λ node. node.0 < bounds.nodes) (nodes_of expr)

-- Steps ------------------------------------------------------------------------------------------------------------------------------

-- a step makes a new column
pub record MakesNew (bounds : Bounds) (made : List MadeColumn) (to : ColId) : Type 0 where
  pub new : IsNew made to
  pub below : to.0 < bounds.columns

-- a condition is a boolean or null
pub record FilterStands (bounds : Bounds) (made : List MadeColumn) (node : NodeId) (condition : TypedExpr) : Type 0 where
  pub stands : ExprStands bounds made condition
  pub truth : is_kind Boolean condition.kind ≡ true
  pub below : node.0 < bounds.nodes

-- an aggregate has an input that is made with a kind that fits it
abbrev pub HasInput : List MadeColumn → AggFunction → Option ColId → Type 0
HasInput made function None = ⊥
HasInput made function (Some id) = IsMade made id × (aggregate_fits function (kind_made made id) ≡ true)

-- CountRows has no input, and every other aggregate has one
abbrev pub InputStands : List MadeColumn → AggFunction → Option ColId → Type 0
InputStands made CountRows input = input ≡ None
InputStands made Count input = HasInput made Count input
InputStands made CountDistinct input = HasInput made CountDistinct input
InputStands made Sum input = HasInput made Sum input
InputStands made Min input = HasInput made Min input
InputStands made Max input = HasInput made Max input
InputStands made Values input = HasInput made Values input

pub record AggregateStands (bounds : Bounds) (made : List MadeColumn) (aggregate : Aggregate) : Type 0 where
  pub input : InputStands made aggregate.function aggregate.input
  pub below : aggregate.node.0 < bounds.nodes

-- aggregates are well formed, rows are grouped by columns that are made, and the new columns differ
pub record StatsStand (bounds : Bounds) (made : List MadeColumn) (aggregates : List Aggregate) (groups : List GroupColumn) : Type 0 where
  pub stand : All (AggregateStands bounds made) aggregates
  pub keys : All (λ (group : GroupColumn). IsMade made group.id) groups
  pub new : All (MakesNew bounds made) (stats_columns aggregates groups)
  pub once : AreOnce (stats_columns aggregates groups)

-- new columns are made once, and were not made before
pub record NewStand (bounds : Bounds) (made : List MadeColumn) (to : List NewColumn) : Type 0 where
  pub new : All (λ (new : NewColumn). MakesNew bounds made new.id) to
  pub once : AreOnce (new_ids to)

-- a keyword is cut into columns, which are new and have their kinds
pub record CutStands (bounds : Bounds) (made : List MadeColumn) (input : ColId) (columns : List NamedColumn) (to : List NewColumn) : Type 0 where
  pub is_made : IsMade made input
  pub keyword : is_kind Keyword (kind_made made input) ≡ true
  pub kinds : new_kinds to ≡ kinds_of columns
  pub new : NewStand bounds made to

-- the pattern of DISSECT is read, and its number has what it is read as
pub record DissectStands (bounds : Bounds) (made : List MadeColumn) (input : ColId) (number : ℕ) (pattern separator : List ℕ) (to : List NewColumn) : Type 0 where
  pub reading : Reading
  pub read : reading_of pattern separator ≡ Some reading
  pub cutter : slice_get bounds.cutters number ≡ Some (cutter.Dissect reading)
  pub cut : CutStands bounds made input (columns_of_reading (Some reading)) to

-- the pattern of GROK is read, and its number has what it is read as
pub record GrokStands (bounds : Bounds) (made : List MadeColumn) (node : NodeId) (input : ColId) (number : ℕ) (pattern : List ℕ) (to : List NewColumn) : Type 0 where
  pub reading : GrokRead
  pub read : grok_of pattern ≡ Some reading
  pub cutter : slice_get bounds.cutters number ≡ Some (cutter.Grok reading)
  pub cut : CutStands bounds made input (columns_of_grok (Some reading)) to
  pub below : node.0 < bounds.nodes

-- the kind of the column of a name
abbrev pub kind_named : List NamedColumn → List ℕ → Option Kind
kind_named [] name = None
kind_named (column ∷ columns) name = if bytes_eq column.name name then Some column.kind else kind_named columns name

-- the table gives the column its kind, if it has one of its name
abbrev pub GivesKind : TableShape → NamedColumn → Type 0
GivesKind table column = IfSome (kind_named table.columns column.name) (λ kind. kind ≡ column.kind)

-- a table of a policy is there, and gives the match field and the fields the kinds that the policy takes them for
pub record IsPolicyTable (catalog : Catalog) (policy : PolicyShape) (number : ℕ) : Type 0 where
  pub there : number < length catalog.tables
  pub kinds : IfSome (slice_get catalog.tables number) (λ table. All (GivesKind table) (policy.match_field ∷ policy.fields))

-- a new column has the kind of the field of a number
pub record IsField (policy : PolicyShape) (number : ℕ) (new : NewColumn) : Type 0 where
  pub field : NamedColumn
  pub is : slice_get policy.fields number ≡ Some field
  pub kind : new.kind ≡ field.kind

-- the policy and its fields are in the catalog, and the matched column fits the match field
pub record EnrichStands (bounds : Bounds) (made : List MadeColumn) (number : ℕ) (on : ColId) (fields : List ℕ) (to : List NewColumn) : Type 0 where
  pub policy : PolicyShape
  pub is : slice_get bounds.catalog.policies number ≡ Some policy
  pub tables : All (IsPolicyTable bounds.catalog policy) policy.tables
  pub matched : IsMade made on
  pub fit : kinds_match (kind_made made on) policy.match_field.kind ≡ true
  pub fields_are : AllZip (IsField policy) fields to
  pub new : NewStand bounds made to

-- a step is well formed over the columns that are made
abbrev pub StepStands : Bounds → List MadeColumn → Step → Type 0
StepStands bounds made (Eval to expr) = ExprStands bounds made expr × MakesNew bounds made to
StepStands bounds made (Filter node condition) = FilterStands bounds made node condition
StepStands bounds made (Expand id to) = IsMade made id × MakesNew bounds made to
StepStands bounds made (Sort keys) = All (λ key. IsMade made key.id) keys
StepStands bounds made (TopN keys count) = All (λ key. IsMade made key.id) keys
StepStands bounds made (Limit count) = Unit {0}
StepStands bounds made (Stats aggregates groups) = StatsStand bounds made aggregates groups
StepStands bounds made (Dissect node input number pattern separator to) = DissectStands bounds made input number pattern separator to
StepStands bounds made (Grok node input number pattern to) = GrokStands bounds made node input number pattern to
StepStands bounds made (Enrich policy on fields to) = EnrichStands bounds made policy on fields to

-- each step over the columns that are made before it; in the end those that are shown are made, with their kinds
abbrev pub StepsStand : Bounds → List OutColumn → List MadeColumn → List Step → Type 0
StepsStand bounds output made [] = All (λ out. IsMadeAs made out.id out.kind) output
StepsStand bounds output made (step ∷ steps) = StepStands bounds made step × StepsStand bounds output (step_made made step) steps

-- Sources and plans --------------------------------------------------------------------------------------------------------------------

-- the table is there, and gives each column of a scan that it has the scan's kind
pub record IsScannedAs (catalog : Catalog) (columns : List ScanColumn) (number : ℕ) : Type 0 where
  pub there : number < length catalog.tables
  pub kinds : IfSome (slice_get catalog.tables number) (λ table. All (λ column. IfSome (kind_named table.columns column.name) (λ kind. kind ≡ column.kind)) columns)

-- the tables of a scan are in the catalog, and its columns are made once
pub record ScanStands (catalog : Catalog) (bounds : Bounds) (numbers : List ℕ) (columns : List ScanColumn) : Type 0 where
  pub tables : All (IsScannedAs catalog columns) numbers
  pub below : All (λ column. column.to.0 < bounds.columns) columns
  pub once : IsDistinct (λ this that. this == that) (map (λ column. column.to.0) columns)

-- a source is well formed for the catalog
abbrev pub SourceStands : Catalog → Bounds → PlanSource → Type 0
SourceStands catalog bounds OneRow = Unit {0}
SourceStands catalog bounds (Scan numbers columns) = ScanStands catalog bounds numbers columns

-- the bounds of a plan for a catalog, over these patterns and cutters
abbrev pub bounds_of : Catalog → List (List ℕ) → List (List ℕ) → List Cutter → Plan → Bounds
bounds_of catalog whole free cutters plan =
    record { catalog = catalog; whole = whole; free = free; cutters = cutters; columns = plan.columns; nodes = plan.nodes }

-- the numbers of the columns that a source makes
abbrev pub source_makes : PlanSource → List ColId
source_makes OneRow = []
source_makes (Scan tables columns) = map (λ column. column.to) columns

-- the numbers of the columns that a step makes
abbrev pub step_makes : Step → List ColId
step_makes (Eval to expr) = to ∷ []
step_makes (Filter node condition) = []
step_makes (Expand id to) = to ∷ []
step_makes (Sort keys) = []
step_makes (TopN keys count) = []
step_makes (Limit count) = []
step_makes (Stats aggregates groups) = stats_columns aggregates groups
step_makes (Dissect node input cutter pattern separator to) = new_ids to
step_makes (Grok node input cutter pattern to) = new_ids to
step_makes (Enrich policy on fields to) = new_ids to

-- Each column number is made once by the source or one of the steps, also where a Stats stands between two of them. Where there
-- is no Stats, it follows from each step being well formed over the columns that are made before it.
abbrev pub AreMadeOnce : PlanSource → List Step → Type 0
AreMadeOnce source steps = AreOnce (source_makes source ++ flat_map step_makes steps)

-- The plan is well formed: each column is made once, before its use and with no Stats between the two, and has one kind; its
-- expressions are well formed for the patterns, and each number of a cutter has what the pattern beside it is read as; its tables,
-- policies and fields are in the catalog; and the numbers of columns and nodes are below the plan's.
pub record IsWellFormed (catalog : Catalog) (whole free : List (List ℕ)) (cutters : List Cutter) (plan : Plan) : Type 0 where
  pub source : SourceStands catalog (bounds_of catalog whole free cutters plan) plan.source
  pub steps : StepsStand (bounds_of catalog whole free cutters plan) plan.output (source_made plan.source) plan.steps
  pub once : AreMadeOnce plan.source plan.steps

-- Rows and tables of their kinds ---------------------------------------------------------------------------------------------------------

-- the cell of each column that is made has its kind
abbrev pub RowHas : List MadeColumn → NumberedRow → Type 0
RowHas made row = All (λ column. has_kind column.kind (row column.id) ≡ true) made

-- each row has a cell of its kind for each column
abbrev pub IsTable : TableHeld → Type 0
IsTable table = All (λ cells. AllZip (λ column cell. has_kind column.kind cell ≡ true) table.shape.columns cells) table.rows

-- the catalog's tables have rows with cells of their columns' kinds
pub record AreTables (catalog : Catalog) (held : CatalogHeld) : Type 0 where
  pub shapes : catalog ≡ catalog_held held
  pub kinds : All IsTable held.tables

-- Rows that come to steps ----------------------------------------------------------------------------------------------------------------

-- the expression of a step fits a row that comes to it
abbrev pub StepFits : Step → NumberedRow → Type 0
StepFits (Eval to expr) row = RowFits expr row
StepFits (Filter node condition) row = RowFits condition row
StepFits (Expand id to) row = Unit {0}
StepFits (Sort keys) row = Unit {0}
StepFits (TopN keys count) row = Unit {0}
StepFits (Limit count) row = Unit {0}
StepFits (Stats aggregates groups) row = Unit {0}
StepFits (Dissect node input cutter pattern separator to) row = Unit {0}
StepFits (Grok node input cutter pattern to) row = Unit {0}
StepFits (Enrich policy on fields to) row = Unit {0}

-- the expression of each step fits each row that comes to it
abbrev pub StepsFit : CatalogHeld → List Step → List NumberedRow → Type 0
StepsFit held [] rows = Unit {0}
StepsFit held (step ∷ steps) rows = All (StepFits step) rows × StepsFit held steps (step_rows held step rows)
