-- The columns that steps read, and rows that are the same in them.
use Rattle.std.specs.Prelude.{◌≡◌, ℕ, Bool, true, List, [], map, All, Option, Some, None, if◌then◌else◌}
use Rattle.esql_types.specs.declared.names.ColId.{ColId}
use Rattle.esql_plan.specs.declared.typed.TypedExpr.{TypedExpr}
use Rattle.esql_plan.specs.declared.plan.OutColumn.{OutColumn}
use Rattle.esql_plan.specs.declared.step.Aggregate.{Aggregate}
use Rattle.esql_plan.specs.declared.step.GroupColumn.{GroupColumn}
use Rattle.esql_plan.specs.declared.step.Step.{Step}
use Rattle.esql_plan.specs.declared.step.Step.TheVariants.{Eval, Filter, Sort, TopN, Limit, Expand, Stats, Dissect, Grok, Enrich}
use Rattle.esql_plan.specs.Values.{NumberedRow}
use Rattle.esql_plan.specs.Fits.{columns_read}
use Rattle.plan_semantics.specs.Tables.{CatalogHeld}
use Rattle.plan_semantics.specs.Steps.{rows_after, failures_after}
use Rattle.plan_semantics.specs.Parts.{parts_after}

-- a row with null in place of each column that is not used
abbrev pub restrict : (ℕ → Bool) → NumberedRow → NumberedRow
restrict uses row = λ id. if uses id then row id else []

-- an expression reads columns that are used alone
abbrev pub ReadsUsed : (ℕ → Bool) → TypedExpr → Type 0
ReadsUsed uses expr = All (λ column. uses column.id.0 ≡ true) (columns_read expr)

-- the input of an aggregate is used, where it has one
abbrev pub InputUsed : (ℕ → Bool) → Option ColId → Type 0
InputUsed uses None = Unit {0}
InputUsed uses (Some id) = uses id.0 ≡ true

-- the inputs of aggregates and the columns that rows are grouped by are used
pub record StatsReadUsed (uses : ℕ → Bool) (aggregates : List Aggregate) (groups : List GroupColumn) : Type 0 where
  pub inputs : All (λ (aggregate : Aggregate). InputUsed uses aggregate.input) aggregates
  pub keys : All (λ (group : GroupColumn). uses group.id.0 ≡ true) groups

-- a step reads columns that are used alone
abbrev pub StepReadsUsed : (ℕ → Bool) → Step → Type 0
StepReadsUsed uses (Eval to expr) = ReadsUsed uses expr
StepReadsUsed uses (Filter node condition) = ReadsUsed uses condition
StepReadsUsed uses (Expand id to) = uses id.0 ≡ true
StepReadsUsed uses (Sort keys) = All (λ key. uses key.id.0 ≡ true) keys
StepReadsUsed uses (TopN keys count) = All (λ key. uses key.id.0 ≡ true) keys
StepReadsUsed uses (Limit count) = Unit {0}
StepReadsUsed uses (Stats aggregates groups) = StatsReadUsed uses aggregates groups
StepReadsUsed uses (Dissect node input cutter pattern separator to) = uses input.0 ≡ true
StepReadsUsed uses (Grok node input cutter pattern to) = uses input.0 ≡ true
StepReadsUsed uses (Enrich policy on fields to) = uses on.0 ≡ true

-- the column is used
abbrev pub IsUsedOut : (ℕ → Bool) → OutColumn → Type 0
IsUsedOut uses out = uses out.id.0 ≡ true

-- the same rows in the same order, as far as columns are used
abbrev pub SameOn : (ℕ → Bool) → List NumberedRow → List NumberedRow → Type 0
SameOn uses these those = map (restrict uses) these ≡ map (restrict uses) those

-- steps give the same of these rows as of those, as far as columns are used, and fail in the same way
pub record SameAfter (held : CatalogHeld) (uses : ℕ → Bool) (steps : List Step) (these those : List NumberedRow) : Type 0 where
  pub rows : SameOn uses (rows_after held steps these) (rows_after held steps those)
  pub failures : failures_after held steps these ≡ failures_after held steps those
  pub parts : parts_after held steps these ≡ parts_after held steps those
