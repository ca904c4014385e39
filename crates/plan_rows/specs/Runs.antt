-- What a step needs to be run.
use Rattle.std.specs.Prelude.{◌≡◌, ℕ, List, Some, slice_get}
use Rattle.esql_types.specs.declared.value.Value.{Value}
use Rattle.esql_plan.specs.declared.catalog.PolicyShape.{PolicyShape}
use Rattle.esql_plan.specs.declared.step.Aggregate.{Aggregate}
use Rattle.esql_plan.specs.declared.step.GroupColumn.{GroupColumn}
use Rattle.esql_plan.specs.declared.step.Step.{Step}
use Rattle.esql_plan.specs.declared.step.Step.TheVariants.{Eval, Filter, Sort, TopN, Limit, Expand, Stats, Dissect, Grok, Enrich}
use Rattle.esql_plan.specs.Fits.{ExprFits}
use Rattle.esql_plan.specs.Values.{NumberedRow}
use Rattle.dissect_grok.specs.declared.cutter.Cutter.{Cutter}
use Rattle.dissect_grok.specs.declared.cutter.Cutter.TheVariants as cutter
use Rattle.dissect_grok.specs.Patterns.{Reading, reading_of}
use Rattle.dissect_grok.specs.Groks.{GrokRead, grok_of}
use Rattle.plan_semantics.specs.Laws.{AreBelow}
use Rattle.plan_semantics.specs.Taken.{Taken}
use Rattle.plan_semantics.specs.Stats.{stats_columns, stats_failures}
use Rattle.plan_semantics.specs.Steps.{step_fails}
use Rattle.plan_semantics.specs.WellFormed.{Bounds, AreOnce}

-- on each row, a step fails at nodes below a number
abbrev pub FailsBelow : ℕ → Step → Type 0
FailsBelow nodes step = (row : NumberedRow) → AreBelow nodes (step_fails step row)

-- over all rows, aggregates fail at nodes below a number
abbrev pub GroupsFailBelow : ℕ → List Aggregate → List GroupColumn → Type 0
GroupsFailBelow nodes aggregates groups = (rows : List NumberedRow) → AreBelow nodes (stats_failures aggregates groups rows)

-- the same of Stats alone, which fails on groups
abbrev pub StatsFailBelow : ℕ → Step → Type 0
StatsFailBelow nodes (Eval to expr) = Unit {0}
StatsFailBelow nodes (Filter node condition) = Unit {0}
StatsFailBelow nodes (Expand id to) = Unit {0}
StatsFailBelow nodes (Sort keys) = Unit {0}
StatsFailBelow nodes (TopN keys count) = Unit {0}
StatsFailBelow nodes (Limit count) = Unit {0}
StatsFailBelow nodes (Stats aggregates groups) = GroupsFailBelow nodes aggregates groups
StatsFailBelow nodes (Dissect node input cutter pattern separator to) = Unit {0}
StatsFailBelow nodes (Grok node input cutter pattern to) = Unit {0}
StatsFailBelow nodes (Enrich policy on fields to) = Unit {0}

-- what a cell gives fails at nodes below a number
abbrev pub TakenBelow : ℕ → (List Value → Taken) → Type 0
TakenBelow nodes take = (cell : List Value) → AreBelow nodes (take cell).failures

-- a number of a cutter has what the pattern of DISSECT is read as
pub record DissectRun (bounds : Bounds) (number : ℕ) (pattern separator : List ℕ) : Type 0 where
  pub reading : Reading
  pub read : reading_of pattern separator ≡ Some reading
  pub cutter : slice_get bounds.cutters number ≡ Some (cutter.Dissect reading)

-- a number of a cutter has what the pattern of GROK is read as
pub record GrokRun (bounds : Bounds) (number : ℕ) (pattern : List ℕ) : Type 0 where
  pub reading : GrokRead
  pub read : grok_of pattern ≡ Some reading
  pub cutter : slice_get bounds.cutters number ≡ Some (cutter.Grok reading)

-- the policy of a number is there
pub record EnrichRun (bounds : Bounds) (number : ℕ) : Type 0 where
  pub policy : PolicyShape
  pub is : slice_get bounds.catalog.policies number ≡ Some policy

-- The expression of a step fits the patterns, its cutter and its policy are there, and the columns that Stats makes differ.
abbrev pub CanRun : Bounds → Step → Type 0
CanRun bounds (Eval to expr) = ExprFits bounds.whole bounds.free expr
CanRun bounds (Filter node condition) = ExprFits bounds.whole bounds.free condition
CanRun bounds (Expand id to) = Unit {0}
CanRun bounds (Sort keys) = Unit {0}
CanRun bounds (TopN keys count) = Unit {0}
CanRun bounds (Limit count) = Unit {0}
CanRun bounds (Stats aggregates groups) = AreOnce (stats_columns aggregates groups)
CanRun bounds (Dissect node input number pattern separator to) = DissectRun bounds number pattern separator
CanRun bounds (Grok node input number pattern to) = GrokRun bounds number pattern
CanRun bounds (Enrich policy on fields to) = EnrichRun bounds policy
