-- What a plan means over a catalog whose tables have their rows.
use Rattle.std.specs.Prelude.{List, map}
use Rattle.esql_types.specs.declared.value.Value.{Value}
use Rattle.esql_types.specs.declared.names.Column.{Column}
use Rattle.esql_plan.specs.declared.plan.Plan.{Plan}
use Rattle.esql_plan.specs.declared.plan.OutColumn.{OutColumn}
use Rattle.esql_plan.specs.Values.{NumberedRow}
use Rattle.plan_semantics.specs.Tables.{CatalogHeld, source_rows}
use Rattle.plan_semantics.specs.Steps.{rows_after, failures_after}
use Rattle.plan_semantics.specs.Agrees.{PlanSeen}

-- the names and kinds of the columns that are shown
abbrev pub columns_of : List OutColumn → List Column
columns_of output = map (λ out. record { name = out.name; kind = out.kind }) output

-- the cells of the columns that are shown
abbrev pub shown_row : List OutColumn → NumberedRow → List (List Value)
shown_row output row = map (λ out. row out.id.0) output

-- the rows of the source put through the steps, each with the cells that are shown, and the failures of the steps
abbrev pub plan_means : Plan → CatalogHeld → PlanSeen
plan_means plan held = record {
  columns = columns_of plan.output;
  rows = map (shown_row plan.output) (rows_after held plan.steps (source_rows held.tables plan.source));
  failures = failures_after held plan.steps (source_rows held.tables plan.source);
}
