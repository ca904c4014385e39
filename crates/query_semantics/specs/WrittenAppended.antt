-- DISSECT, GROK and ENRICH in a plan: the input first, then one step, whose new columns take the next numbers.
use Rattle.std.specs.Prelude.{ℕ, ◌+◌, List, [], ◌∷◌, ◌++◌, length, Option, Some, None}
use Rattle.esql_types.specs.declared.names.Column.{Column}
use Rattle.esql_types.specs.declared.names.NodeId.{NodeId}
use Rattle.esql_ast.specs.declared.expr.Expr.{Expr}
use Rattle.esql_ast.specs.declared.query.EnrichItem.{EnrichItem}
use Rattle.esql_ast.specs.declared.query.NameAt.{NameAt}
use Rattle.esql_plan.specs.declared.catalog.PolicyShape.{PolicyShape}
use Rattle.esql_plan.specs.declared.plan.OutColumn.{OutColumn}
use Rattle.esql_plan.specs.declared.step.NewColumn.{NewColumn}
use Rattle.esql_plan.specs.declared.step.Step.{Step}
use Rattle.esql_plan.specs.declared.step.Step.TheVariants as step
use Rattle.dissect_grok.specs.declared.cutter.Cutter.{Cutter}
use Rattle.dissect_grok.specs.declared.cutter.Cutter.TheVariants as cutter
use Rattle.dissect_grok.specs.Patterns.{Reading, reading_of}
use Rattle.dissect_grok.specs.Groks.{GrokRead, grok_of}
use Rattle.plan_semantics.specs.Taken.{dissect_columns, columns_in_grok}
use Rattle.row_semantics.specs.Typed.{visible_named}
use Rattle.query_semantics.specs.Appended.{FoundPolicy, policy_named, matched_name, FieldTaken, fields_taken, taken_columns, taken_numbers}
use Rattle.query_semantics.specs.Writings.{Writing, column_at, put_visible, write_input, input_of}

-- columns take the places of those of their names, and stand at the end, under numbers in turn
abbrev pub put_new : List OutColumn → List Column → ℕ → List OutColumn
put_new visible [] next = visible
put_new visible (column ∷ columns) next = put_new (put_visible visible column.name column.kind next) columns (next + 1)

abbrev pub new_columns : ℕ → List Column → List NewColumn
new_columns next [] = []
new_columns next (column ∷ columns) = record { id = column_at next; kind = column.kind } ∷ new_columns (next + 1) columns

-- one more step, which makes columns and may read a cutter
abbrev pub write_new : List Column → List Cutter → (List NewColumn → Step) → Writing → Writing
write_new columns cutters step_to writing = record writing {
  visible = put_new writing.visible columns writing.next;
  next = writing.next + length columns;
  cutters = writing.cutters ++ cutters;
  steps = writing.steps ++ step_to (new_columns writing.next columns) ∷ [];
}

abbrev pub dissect_cutters : Option Reading → List Cutter
dissect_cutters None = []
dissect_cutters (Some reading) = cutter.Dissect reading ∷ []

abbrev pub write_dissect : NodeId → Expr → List ℕ → List ℕ → Writing → Writing
write_dissect node input pattern separator writing =
    write_new (dissect_columns pattern separator) (dissect_cutters (reading_of pattern separator))
    (step.Dissect node (input_of writing input) (length writing.cutters) pattern separator) (write_input writing input)

abbrev pub grok_cutters : Option GrokRead → List Cutter
grok_cutters None = []
grok_cutters (Some read) = cutter.Grok read ∷ []

abbrev pub write_grok : NodeId → Expr → List ℕ → Writing → Writing
write_grok node input pattern writing =
    write_new (columns_in_grok pattern) (grok_cutters (grok_of pattern))
    (step.Grok node (input_of writing input) (length writing.cutters) pattern) (write_input writing input)

-- ENRICH: a step over the matched column
abbrev pub write_matched : FoundPolicy → Option OutColumn → List FieldTaken → Writing → Writing
write_matched policy None taken writing = writing
write_matched policy (Some column) taken writing = write_new (taken_columns taken) [] (step.Enrich policy.number column.id (taken_numbers taken)) writing

abbrev pub write_policy : Option FoundPolicy → Option NameAt → Option (List EnrichItem) → Writing → Writing
write_policy None on items writing = writing
write_policy (Some policy) on items writing =
    write_matched policy (visible_named writing.visible (matched_name policy.shape on)) (fields_taken policy.shape.fields items) writing

abbrev pub write_enrich : List PolicyShape → NameAt → Option NameAt → Option (List EnrichItem) → Writing → Writing
write_enrich policies policy on items writing = write_policy (policy_named policies policy.name) on items writing
