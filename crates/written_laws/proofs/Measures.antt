-- A count that grows with each step of a written plan by the step's nodes at most, whatever it counts: it grows with a query by the
-- query's nodes at most.
use Rattle.std.proofs.Common.{◌≡◌, ℕ, ◌+◌, ◌≤◌, ◌<◌, List, [], ◌∷◌, ◌++◌, map, length, fold, Option, Some, None, ap, arith}
use Rattle.std.specs.List.{flat_map}
use Rattle.esql_types.specs.declared.names.Column.{Column}
use Rattle.esql_types.specs.declared.names.NodeId.{NodeId}
use Rattle.esql_types.specs.declared.names.ColId.{ColId}
use Rattle.esql_ast.specs.declared.expr.Expr.{Expr}
use Rattle.esql_ast.specs.declared.query.Condition.{Condition}
use Rattle.esql_ast.specs.declared.query.EnrichItem.{EnrichItem}
use Rattle.esql_ast.specs.declared.query.NameAt.{NameAt}
use Rattle.esql_ast.specs.declared.query.Field.{Field}
use Rattle.esql_ast.specs.declared.query.StatsField.{StatsField}
use Rattle.esql_ast.specs.declared.query.Query.{Query}
use Rattle.esql_ast.specs.declared.query.Command.{Command}
use Rattle.esql_ast.specs.declared.query.CommandKind.{CommandKind}
use Rattle.esql_ast.specs.declared.query.CommandKind.TheVariants.{Filter, Eval, Sort, Limit, Expand, Stats, Dissect, Grok, Enrich}
use Rattle.esql_ast.specs.declared.query.SourceCommand.{SourceCommand}
use Rattle.esql_ast.specs.declared.query.SourceCommand.TheVariants.{Tables, OneRow}
use Rattle.esql_ast.specs.Nodes.{nodes_of_expr, nodes_of_field, nodes_of_condition, nodes_of_stats, nodes_of_kind, nodes_of_command, nodes_of_source, nodes_of}
use Rattle.esql_plan.specs.declared.catalog.Catalog.{Catalog}
use Rattle.esql_plan.specs.declared.catalog.PolicyShape.{PolicyShape}
use Rattle.esql_plan.specs.declared.plan.OutColumn.{OutColumn}
use Rattle.esql_plan.specs.declared.step.Aggregate.{Aggregate}
use Rattle.esql_plan.specs.declared.step.NewColumn.{NewColumn}
use Rattle.esql_plan.specs.declared.step.Step.{Step}
use Rattle.esql_plan.specs.declared.step.Step.TheVariants as step
use Rattle.esql_plan.specs.declared.typed.TypedExpr.{TypedExpr}
use Rattle.dissect_grok.specs.declared.cutter.Cutter.{Cutter}
use Rattle.dissect_grok.specs.Patterns.{reading_of}
use Rattle.dissect_grok.specs.Groks.{grok_of}
use Rattle.plan_semantics.specs.Taken.{dissect_columns, columns_in_grok}
use Rattle.plan_semantics.specs.WellFormed.{nodes_of as typed_nodes_of, step_nodes}
use Rattle.plan_semantics.proofs.OwnNodes.{places}
use Rattle.row_semantics.specs.Forms.{read_by}
use Rattle.row_semantics.specs.Typed.{visible_named}
use Rattle.query_semantics.specs.Appended.{FoundPolicy, policy_named, matched_name, FieldTaken, fields_taken, taken_columns, taken_numbers}
use Rattle.query_semantics.specs.Calls.{AggregateCall, calls_of}
use Rattle.query_semantics.specs.Cuts.{last_count}
use Rattle.query_semantics.specs.Writings.{Writing, column_at, typed_in, column_of_typed, write_input_by, write_input, input_of}
use Rattle.query_semantics.specs.WrittenAppended.{new_columns, write_new, dissect_cutters, write_dissect, grok_cutters, write_grok, write_matched, write_policy}
use Rattle.query_semantics.specs.WrittenStats.{Flag, flag_typed, flagged_typed, write_flag, flag_of, write_call, CallInput, write_calls, inputs_of_calls, write_before, inputs_before, write_all_before, all_inputs, aggregates_from, groups_from, GroupInput, write_groups, group_inputs, write_grouping, call_columns, field_typed, write_field_by, write_stats_field, write_stats_fields, write_stats}
use Rattle.query_semantics.specs.Written.{write_field, write_fields, write_keys, keys_in_plan, write_expand_of, write_kind, write_command, write_source, writing_of_columns, writing_of}
use Rattle.written_laws.proofs.Inputs.{write_inputs}
use Rattle.written_laws.proofs.Commands.{expr_of_key}
use Rattle.written_laws.proofs.CallsCounted.{in_argument, in_calls, field_counts}
use Rattle.written_laws.proofs.FlagsFit.{flag_nodes}
use Rattle.written_laws.proofs.NodesTyped.{spent, typed_nodes}
use Rattle.written_laws.proofs.NodesCounted.{placed, placed-append, places-append, one_at, expr_counts}

-- The count, and what is known of steps behind which the column of a condition is true or null: an argument on the rows on which it is
-- true adds no more than the argument's own nodes.
pub record IsMeasure (node : NodeId) (count : List Step → ℕ) (Knows : List Step → Flag → Type 0) : Type 0 where
  pub nothing : count [] ≤ 0
  pub pushed : (steps : List Step) (last : Step) → count (steps ++ last ∷ []) ≤ count steps + places node (step_nodes last)
  pub made : (steps : List Step) (flag : Flag) (condition : TypedExpr) → Knows (steps ++ step.Eval flag.id (flag_typed flag.node condition) ∷ []) flag
  pub kept : (steps : List Step) (flag : Flag) (to : ColId) (expr : TypedExpr) → flag.id.0 < to.0 → Knows steps flag → Knows (steps ++ step.Eval to expr ∷ []) flag
  pub flagged : (steps : List Step) (flag : Flag) (to : ColId) (argument : TypedExpr) → Knows steps flag
      → count (steps ++ step.Eval to (flagged_typed flag argument) ∷ []) ≤ count steps + places node (typed_nodes_of argument)

module _ (node : NodeId) (count : List Step → ℕ) (Knows : List Step → Flag → Type 0) (measure : IsMeasure node count Knows) where
  abbrev in_writing : Writing → ℕ
  in_writing writing = count writing.steps

  typed_counts : (writing : Writing) (expr : Expr) → places node (typed_nodes_of (typed_in writing expr)) ≤ placed node (nodes_of_expr expr)
  typed_counts writing expr =
      let are : places node (typed_nodes_of (typed_in writing expr)) ≡ places node (read_by spent expr) =
      ap (places node) (typed_nodes expr (record { columns = writing.visible; calls = [] }) (length writing.whole) (length writing.free)) in
      omega (arith, are, expr_counts node expr)

  fields_count : (text : List ℕ) (fields : List Field) (writing : Writing) → in_writing (write_fields text fields writing) ≤ in_writing writing + placed node (flat_map nodes_of_field fields)
  fields_count text [] writing = omega arith
  fields_count text (field ∷ fields) writing =
      omega (
        arith,
        typed_counts writing field.expr,
        measure.pushed writing.steps (step.Eval (column_at writing.next) (typed_in writing field.expr)),
        fields_count text fields (write_field text writing field),
        placed-append node (nodes_of_field field) (flat_map nodes_of_field fields),
      )

  -- an input has the nodes of its expression, or none
  input_counts : (writing : Writing) (expr : Expr) → in_writing (write_input writing expr) ≤ in_writing writing + placed node (nodes_of_expr expr)
  input_counts writing expr = by_found (column_of_typed (typed_in writing expr))
    where
      by_found : (found : Option ColId) → in_writing (write_input_by found expr writing) ≤ in_writing writing + placed node (nodes_of_expr expr)
      by_found (Some id) = omega arith
      by_found None = omega (arith, typed_counts writing expr, measure.pushed writing.steps (step.Eval (column_at writing.next) (typed_in writing expr)))

  inputs_count : {Item : Type 0} (expr_of : Item → Expr) (items : List Item) (writing : Writing)
      → in_writing (write_inputs expr_of items writing) ≤ in_writing writing + placed node (flat_map (λ (item : Item). nodes_of_expr (expr_of item)) items)
  inputs_count expr_of [] writing = omega arith
  inputs_count {Item} expr_of (item ∷ items) writing =
      omega (
        arith,
        input_counts writing (expr_of item),
        inputs_count expr_of items (write_input writing (expr_of item)),
        placed-append node (nodes_of_expr (expr_of item)) (flat_map (λ (item : Item). nodes_of_expr (expr_of item)) items),
      )

  expand_counts : (name : List ℕ) (writing : Writing) (found : Option OutColumn) → in_writing (write_expand_of found name writing) ≤ in_writing writing
  expand_counts name writing None = omega arith
  expand_counts name writing (Some column) = omega (arith, measure.pushed writing.steps (step.Expand column.id (column_at writing.next)))

  -- conditions and arguments of STATS -------------------------------------------------------------------------------------------

  flag_counts : (condition : Option Condition) (writing : Writing) → in_writing (write_flag condition writing) ≤ in_writing writing + placed node (nodes_of_condition condition)
  flag_counts None writing = omega arith
  flag_counts (Some condition) writing =
      let inner : TypedExpr = typed_in writing condition.expr in
      omega (
        arith,
        measure.pushed writing.steps (step.Eval (column_at writing.next) (flag_typed condition.node inner)),
        ap (places node) (flag_nodes condition.node inner),
        places-append node (typed_nodes_of inner) (condition.node ∷ []),
        typed_counts writing condition.expr,
      )

  -- the column of a condition is known, and numbered below the next one
  abbrev IsKnown : Writing → Option Flag → Type 0
  IsKnown writing None = Unit {0}
  IsKnown writing (Some flag) = Knows writing.steps flag × (flag.id.0 < writing.next)

  flag_known : (condition : Option Condition) (writing : Writing) → IsKnown (write_flag condition writing) (flag_of condition writing)
  flag_known None writing = tt
  flag_known (Some condition) writing =
      (measure.made writing.steps (record { node = condition.node; id = column_at writing.next }) (typed_in writing condition.expr), omega arith)

  call_known : (flag : Option Flag) (argument : Option Expr) (writing : Writing) → IsKnown writing flag → IsKnown (write_call flag argument writing) flag
  call_known None argument writing known = tt
  call_known (Some flag) None writing known = known
  call_known (Some flag) (Some argument) writing known =
      (measure.kept writing.steps flag (column_at writing.next) (flagged_typed flag (typed_in writing argument)) known.1 known.0, omega (arith, known.1))

  call_counts : (flag : Option Flag) (argument : Option Expr) (writing : Writing) → IsKnown writing flag → in_writing (write_call flag argument writing) ≤ in_writing writing + in_argument node argument
  call_counts None None writing known = omega arith
  call_counts (Some flag) None writing known = omega arith
  call_counts None (Some argument) writing known = input_counts writing argument
  call_counts (Some flag) (Some argument) writing known =
      omega (arith, measure.flagged writing.steps flag (column_at writing.next) (typed_in writing argument) known.0, typed_counts writing argument)

  -- the nodes of the arguments of calls, and the calls' own nodes
  abbrev in_arguments : List AggregateCall → ℕ
  in_arguments [] = 0
  in_arguments (call ∷ calls) = in_argument node call.argument + in_arguments calls

  abbrev own_in : List AggregateCall → ℕ
  own_in [] = 0
  own_in (call ∷ calls) = one_at node call.node + own_in calls

  calls_parts : (calls : List AggregateCall) → in_calls node calls ≡ own_in calls + in_arguments calls
  calls_parts [] = omega arith
  calls_parts (call ∷ calls) = omega (arith, calls_parts calls)

  calls_count : (flag : Option Flag) (calls : List AggregateCall) (writing : Writing) → IsKnown writing flag → in_writing (write_calls flag calls writing) ≤ in_writing writing + in_arguments calls
  calls_count flag [] writing known = omega arith
  calls_count flag (call ∷ calls) writing known =
      omega (arith, call_counts flag call.argument writing known, calls_count flag calls (write_call flag call.argument writing) (call_known flag call.argument writing known))

  -- what fields have before the step that makes the groups, in it and behind it
  abbrev in_before : List StatsField → ℕ
  in_before [] = 0
  in_before (stats ∷ fields) = placed node (nodes_of_condition stats.condition) + in_arguments (calls_of stats.field.expr) + in_before fields

  abbrev in_own : List StatsField → ℕ
  in_own [] = 0
  in_own (stats ∷ fields) = own_in (calls_of stats.field.expr) + in_own fields

  abbrev in_behind : List StatsField → ℕ
  in_behind [] = 0
  in_behind (stats ∷ fields) = places node (read_by spent stats.field.expr) + in_behind fields

  stats_parts : (fields : List StatsField) → in_before fields + in_own fields + in_behind fields ≤ placed node (flat_map nodes_of_stats fields)
  stats_parts [] = omega arith
  stats_parts (stats ∷ fields) =
      omega (
        arith,
        stats_parts fields,
        field_counts node stats.field.expr,
        calls_parts (calls_of stats.field.expr),
        placed-append node (nodes_of_stats stats) (flat_map nodes_of_stats fields),
        placed-append node (nodes_of_expr stats.field.expr) (nodes_of_condition stats.condition),
      )

  before_count : (fields : List StatsField) (writing : Writing) → in_writing (write_all_before fields writing) ≤ in_writing writing + in_before fields
  before_count [] writing = omega arith
  before_count (stats ∷ fields) writing =
      omega (
        arith,
        flag_counts stats.condition writing,
        calls_count (flag_of stats.condition writing) (calls_of stats.field.expr) (write_flag stats.condition writing) (flag_known stats.condition writing),
        before_count fields (write_before stats writing),
      )

  groups_count : (groups : List Field) (writing : Writing) → in_writing (write_groups groups writing) ≤ in_writing writing + placed node (flat_map nodes_of_field groups)
  groups_count [] writing = omega arith
  groups_count (group ∷ groups) writing =
      omega (
        arith,
        input_counts writing group.expr,
        groups_count groups (write_input writing group.expr),
        placed-append node (nodes_of_field group) (flat_map nodes_of_field groups),
      )

  -- the step that makes the groups ----------------------------------------------------------------------------------------------

  abbrev in_inputs : List CallInput → ℕ
  in_inputs [] = 0
  in_inputs (input ∷ inputs) = one_at node input.node + in_inputs inputs

  inputs-append : (these those : List CallInput) → in_inputs (these ++ those) ≡ in_inputs these + in_inputs those
  inputs-append [] those = omega arith
  inputs-append (input ∷ these) those = omega (arith, inputs-append these those)

  aggregates_in : (number : ℕ) (inputs : List CallInput) → places node (map (λ (one : Aggregate). one.node) (aggregates_from number inputs)) ≡ in_inputs inputs
  aggregates_in number [] = omega arith
  aggregates_in number (input ∷ inputs) = omega (arith, aggregates_in (number + 1) inputs)

  inputs_own : (flag : Option Flag) (calls : List AggregateCall) (writing : Writing) → in_inputs (inputs_of_calls flag calls writing) ≡ own_in calls
  inputs_own flag [] writing = omega arith
  inputs_own flag (call ∷ calls) writing = omega (arith, inputs_own flag calls (write_call flag call.argument writing))

  all_own : (fields : List StatsField) (writing : Writing) → in_inputs (all_inputs fields writing) ≡ in_own fields
  all_own [] writing = omega arith
  all_own (stats ∷ fields) writing =
      omega (
        arith,
        inputs-append (inputs_before stats writing) (all_inputs fields (write_before stats writing)),
        inputs_own (flag_of stats.condition writing) (calls_of stats.field.expr) (write_flag stats.condition writing),
        all_own fields (write_before stats writing),
      )

  grouping_counts : (inputs : List CallInput) (groups : List GroupInput) (writing : Writing) → in_writing (write_grouping inputs groups writing) ≤ in_writing writing + in_inputs inputs
  grouping_counts inputs groups writing =
      omega (
        arith,
        measure.pushed writing.steps (step.Stats (aggregates_from writing.next inputs) (groups_from (writing.next + length inputs) groups)),
        aggregates_in writing.next inputs,
      )

  -- fields behind it ------------------------------------------------------------------------------------------------------------

  field_count : (text : List ℕ) (before : List OutColumn) (number : ℕ) (stats : StatsField) (writing : Writing)
      → in_writing (write_stats_field text before number stats writing) ≤ in_writing writing + places node (read_by spent stats.field.expr)
  field_count text before number stats writing = by_found (column_of_typed typed)
    where
      typed : TypedExpr
      typed = field_typed before number writing stats.field.expr

      are : places node (typed_nodes_of typed) ≡ places node (read_by spent stats.field.expr)
      are =
          ap (places node)
          (typed_nodes stats.field.expr (record { columns = before; calls = call_columns number (calls_of stats.field.expr) }) (length writing.whole) (length writing.free))

      by_found : (found : Option ColId) → in_writing (write_field_by found writing stats.field.expr typed) ≤ in_writing writing + places node (read_by spent stats.field.expr)
      by_found (Some id) = omega arith
      by_found None = omega (arith, measure.pushed writing.steps (step.Eval (column_at writing.next) typed), are)

  behind_count : (text : List ℕ) (before : List OutColumn) (number : ℕ) (fields : List StatsField) (writing : Writing)
      → in_writing (write_stats_fields text before number fields writing) ≤ in_writing writing + in_behind fields
  behind_count text before number [] writing = omega arith
  behind_count text before number (stats ∷ fields) writing =
      omega (
        arith,
        field_count text before number stats writing,
        behind_count text before (number + length (calls_of stats.field.expr)) fields (write_stats_field text before number stats writing),
      )

  stats_counts : (text : List ℕ) (fields : List StatsField) (groups : List Field) (writing : Writing)
      → in_writing (write_stats text fields groups writing) ≤ in_writing writing + placed node (flat_map nodes_of_stats fields ++ flat_map nodes_of_field groups)
  stats_counts text fields groups writing =
      let with_arguments : Writing = write_all_before fields writing in
      let with_inputs : Writing = write_groups groups with_arguments in
      let inputs : List CallInput = all_inputs fields writing in
      omega (
        arith,
        before_count fields writing,
        groups_count groups with_arguments,
        grouping_counts inputs (group_inputs groups with_arguments) with_inputs,
        all_own fields writing,
        behind_count text writing.visible with_inputs.next fields (write_grouping inputs (group_inputs groups with_arguments) with_inputs),
        stats_parts fields,
        placed-append node (flat_map nodes_of_stats fields) (flat_map nodes_of_field groups),
      )

  -- DISSECT, GROK and ENRICH ----------------------------------------------------------------------------------------------------

  new_counts : (columns : List Column) (cutters : List Cutter) (step_to : List NewColumn → Step) (writing : Writing)
      → in_writing (write_new columns cutters step_to writing) ≤ in_writing writing + places node (step_nodes (step_to (new_columns writing.next columns)))
  new_counts columns cutters step_to writing = measure.pushed writing.steps (step_to (new_columns writing.next columns))

  dissect_counts : (own : NodeId) (input : Expr) (pattern separator : List ℕ) (writing : Writing)
      → in_writing (write_dissect own input pattern separator writing) ≤ in_writing writing + placed node (nodes_of_expr input)
  dissect_counts own input pattern separator writing =
      omega (
        arith,
        input_counts writing input,
        new_counts (dissect_columns pattern separator) (dissect_cutters (reading_of pattern separator))
            (step.Dissect own (input_of writing input) (length writing.cutters) pattern separator) (write_input writing input),
      )

  -- all columns of a GROK fail at the command's node
  grok_counts : (own : NodeId) (input : Expr) (pattern : List ℕ) (writing : Writing)
      → in_writing (write_grok own input pattern writing) ≤ in_writing writing + (one_at node own + placed node (nodes_of_expr input))
  grok_counts own input pattern writing =
      omega (
        arith,
        input_counts writing input,
        new_counts (columns_in_grok pattern) (grok_cutters (grok_of pattern)) (step.Grok own (input_of writing input) (length writing.cutters) pattern) (write_input writing input),
      )

  matched_counts : (policy : FoundPolicy) (found : Option OutColumn) (taken : List FieldTaken) (writing : Writing) → in_writing (write_matched policy found taken writing) ≤ in_writing writing
  matched_counts policy None taken writing = omega arith
  matched_counts policy (Some column) taken writing = omega (arith, new_counts (taken_columns taken) [] (step.Enrich policy.number column.id (taken_numbers taken)) writing)

  policy_counts : (found : Option FoundPolicy) (on : Option NameAt) (items : Option (List EnrichItem)) (writing : Writing) → in_writing (write_policy found on items writing) ≤ in_writing writing
  policy_counts None on items writing = omega arith
  policy_counts (Some policy) on items writing =
      matched_counts policy (visible_named writing.visible (matched_name policy.shape on)) (fields_taken policy.shape.fields items) writing

  -- commands --------------------------------------------------------------------------------------------------------------------

  kind_counts : (text : List ℕ) (policies : List PolicyShape) (own : NodeId) (kind : CommandKind) (writing : Writing)
      → in_writing (write_kind text policies own kind writing) ≤ in_writing writing + (one_at node own + placed node (nodes_of_kind kind))
  kind_counts text policies own (Filter condition) writing =
      omega (
        arith,
        typed_counts writing condition,
        measure.pushed writing.steps (step.Filter own (typed_in writing condition)),
        places-append node (typed_nodes_of (typed_in writing condition)) (own ∷ []),
      )
  kind_counts text policies own (Eval fields) writing = omega (arith, fields_count text fields writing)
  kind_counts text policies own (Limit count) writing = omega (arith, measure.pushed writing.steps (step.Limit count))
  kind_counts text policies own (Sort keys) writing = omega (arith, inputs_count expr_of_key keys writing, measure.pushed (write_keys keys writing).steps (step.Sort (keys_in_plan keys writing)))
  kind_counts text policies own (Expand column) writing = omega (arith, expand_counts column.name writing (visible_named writing.visible column.name))
  kind_counts text policies own (Stats fields groups) writing = omega (arith, stats_counts text fields groups writing)
  kind_counts text policies own (Dissect input pattern separator) writing = omega (arith, dissect_counts own input pattern.text separator writing)
  kind_counts text policies own (Grok input pattern) writing = omega (arith, grok_counts own input pattern.text writing)
  kind_counts text policies own (Enrich policy on fields) writing = omega (arith, policy_counts (policy_named policies policy.name) on fields writing)
  kind_counts text policies own other writing = omega arith

  commands_count : (text : List ℕ) (policies : List PolicyShape) (commands : List Command) (writing : Writing)
      → in_writing (fold (write_command text policies) writing commands) ≤ in_writing writing + placed node (flat_map nodes_of_command commands)
  commands_count text policies [] writing = omega arith
  commands_count text policies (command ∷ commands) writing =
      omega (
        arith,
        kind_counts text policies command.node command.kind writing,
        commands_count text policies commands (write_command text policies writing command),
        placed-append node (nodes_of_command command) (flat_map nodes_of_command commands),
      )

  source_counts : (text : List ℕ) (catalog : Catalog) (source : SourceCommand) → in_writing (write_source text catalog source) ≤ placed node (nodes_of_source source)
  source_counts text catalog (Tables own span tables) = omega (arith, measure.nothing)
  source_counts text catalog (OneRow own span fields) = omega (arith, measure.nothing, fields_count text fields (writing_of_columns []))

  -- the count of the steps of a plan is that of the query's nodes at most
  pub written_counts : (text : List ℕ) (catalog : Catalog) (query : Query) → count (writing_of text catalog query).steps ≤ placed node (nodes_of query)
  written_counts text catalog query =
      omega (
        arith,
        source_counts text catalog query.source,
        commands_count text catalog.policies query.commands (write_source text catalog query.source),
        measure.pushed (fold (write_command text catalog.policies) (write_source text catalog query.source) query.commands).steps (step.Limit (last_count query)),
        placed-append node (nodes_of_source query.source) (flat_map nodes_of_command query.commands),
      )
