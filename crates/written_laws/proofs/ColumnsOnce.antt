-- Each column number of a written plan is made once, by its source or by one of its steps.
use Rattle.std.proofs.Common.{◌≡◌, ℕ, suc, ◌+◌, ◌<◌, ◌==◌, ◌||◌, false, List, [], ◌∷◌, ◌++◌, map, length, fold, All, Option, Some, None, refl, ap, sym, subst, ◌∙◌, append_assoc, arith}
use Rattle.std.specs.List.{flat_map, list_any, IsDistinct}
use Rattle.std.proofs.lemmas.Cmp.{nat_eq_equiv}
use Rattle.std.proofs.lemmas.Grind.{flat_map-append}
use Rattle.std.proofs.lemmas.Map.Keys.{IsDistinct-push}
use Rattle.std.proofs.lemmas.List.{append-nil, map-append}
use Rattle.std.proofs.lemmas.List.Elements.{All-head, All-tail, All-weaker, All-map, All-push, All-same}
use Rattle.esql_types.specs.declared.names.Column.{Column}
use Rattle.esql_types.specs.declared.names.ColId.{ColId}
use Rattle.esql_types.specs.declared.names.NodeId.{NodeId}
use Rattle.esql_ast.specs.declared.expr.Expr.{Expr}
use Rattle.esql_ast.specs.declared.query.Condition.{Condition}
use Rattle.esql_ast.specs.declared.query.EnrichItem.{EnrichItem}
use Rattle.esql_ast.specs.declared.query.NameAt.{NameAt}
use Rattle.esql_ast.specs.declared.query.Field.{Field}
use Rattle.esql_ast.specs.declared.query.StatsField.{StatsField}
use Rattle.esql_ast.specs.declared.query.Query.{Query}
use Rattle.esql_ast.specs.declared.query.Command.{Command}
use Rattle.esql_ast.specs.declared.query.CommandKind.{CommandKind}
use Rattle.esql_ast.specs.declared.query.CommandKind.TheVariants.{Filter, Eval, Sort, Limit, Expand, Stats, Dissect, Grok, Enrich}
use Rattle.esql_ast.specs.declared.query.SourceCommand.{SourceCommand}
use Rattle.esql_ast.specs.declared.query.SourceCommand.TheVariants.{Tables, OneRow}
use Rattle.esql_plan.specs.declared.catalog.Catalog.{Catalog}
use Rattle.esql_plan.specs.declared.catalog.PolicyShape.{PolicyShape}
use Rattle.esql_plan.specs.declared.plan.OutColumn.{OutColumn}
use Rattle.esql_plan.specs.declared.plan.ScanColumn.{ScanColumn}
use Rattle.esql_plan.specs.declared.step.NewColumn.{NewColumn}
use Rattle.esql_plan.specs.declared.step.Step.{Step}
use Rattle.esql_plan.specs.declared.step.Step.TheVariants as step
use Rattle.esql_plan.specs.declared.typed.TypedExpr.{TypedExpr}
use Rattle.dissect_grok.specs.declared.cutter.Cutter.{Cutter}
use Rattle.dissect_grok.specs.Patterns.{reading_of}
use Rattle.dissect_grok.specs.Groks.{grok_of}
use Rattle.plan_semantics.specs.Taken.{dissect_columns, columns_in_grok}
use Rattle.plan_semantics.specs.Stats.{stats_columns}
use Rattle.plan_semantics.specs.WellFormed.{AreOnce, new_ids, source_makes, step_makes, AreMadeOnce}
use Rattle.row_semantics.specs.Sources.{columns_of_tables, columns_or_none}
use Rattle.row_semantics.specs.Typed.{visible_named}
use Rattle.query_semantics.specs.Appended.{FoundPolicy, policy_named, matched_name, FieldTaken, fields_taken, taken_columns, taken_numbers}
use Rattle.query_semantics.specs.Calls.{AggregateCall, calls_of}
use Rattle.query_semantics.specs.Cuts.{last_count}
use Rattle.query_semantics.specs.Writings.{Writing, column_at, typed_in, column_of_typed, write_input_by, write_input, input_of}
use Rattle.query_semantics.specs.WrittenAppended.{new_columns, write_new, dissect_cutters, grok_cutters, write_matched, write_policy}
use Rattle.query_semantics.specs.WrittenStats.{Flag, flag_typed, flagged_typed, write_typed, write_flag, flag_of, write_call, write_calls, write_before, write_all_before, CallInput, all_inputs, GroupInput, write_groups, group_inputs, write_grouping, field_typed, write_field_by, write_stats_field, write_stats_fields, write_stats}
use Rattle.query_semantics.specs.Written.{write_field, write_fields, write_keys, keys_in_plan, write_expand_of, write_kind, write_command, numbered_from, scan_column, source_in_plan, write_source, writing_of_columns, writing_of}
use Rattle.query_semantics.proofs.Squares.{map_map}
use Rattle.written_laws.proofs.Inputs.{write_inputs}
use Rattle.written_laws.proofs.Commands.{expr_of_key}
use Rattle.written_laws.proofs.Consecutive.{AreFrom}
use Rattle.written_laws.proofs.GroupingFormed.{new_aggregates, new_groups, columns_from, length_columns}
use Rattle.written_laws.proofs.NewMade.{ids_from, length-new_ids}
use Rattle.written_laws.proofs.Sources.{eq_above, all_below}
use Rattle.written_laws.proofs.SourceFormed.{once}

abbrev IsIdBelow : ℕ → ColId → Type 0
IsIdBelow next id = id.0 < next

abbrev number_of : ColId → ℕ
number_of id = id.0

none_next : (ids : List ColId) (next : ℕ) → All (IsIdBelow next) ids → list_any (λ other. next == other) (map number_of ids) ≡ false
none_next [] next below = refl
none_next (id ∷ ids) next below =
    (λ i. eq_above id.0 next (All-head (IsIdBelow next) id ids below) i || list_any (λ other. next == other) (map number_of ids)) ∙ none_next ids next (All-tail (IsIdBelow next) id ids below)

-- the next number behind others that are below it
next_once : (ids : List ColId) (next : ℕ) → All (IsIdBelow next) ids → AreOnce ids → AreOnce (ids ++ column_at next ∷ [])
next_once ids next below once =
    subst (IsDistinct (λ this that. this == that)) (sym (map-append number_of ids (column_at next ∷ [])))
    (IsDistinct-push nat_eq_equiv (map number_of ids) next once (none_next ids next below))

-- columns that are given, and those that steps make: each is made once, below the next number
record AreNumbered (given : List ColId) (steps : List Step) (next : ℕ) : Type 0 where
  below : All (IsIdBelow next) (given ++ flat_map step_makes steps)
  once : AreOnce (given ++ flat_map step_makes steps)

module _ (given : List ColId) where
  made_with : (steps : List Step) (last : Step) → given ++ flat_map step_makes (steps ++ last ∷ []) ≡ (given ++ flat_map step_makes steps) ++ flat_map step_makes (last ∷ [])
  made_with steps last =
      ap (λ (ids : List ColId). given ++ ids) (flat_map-append step_makes steps (last ∷ [])) ∙ sym (append_assoc given (flat_map step_makes steps) (flat_map step_makes (last ∷ [])))

  -- a step that makes the column of the next number
  next_numbered : (steps : List Step) (last : Step) (next : ℕ) → step_makes last ≡ column_at next ∷ [] → AreNumbered given steps next → AreNumbered given (steps ++ last ∷ []) (next + 1)
  next_numbered steps last next makes numbered =
      let ids : List ColId = given ++ flat_map step_makes steps in
      let are = made_with steps last ∙ ap (λ (own : List ColId). ids ++ own) (append-nil (step_makes last) ∙ makes) in
      record {
        below = All-same (IsIdBelow (next + 1)) _ (ids ++ column_at next ∷ []) are
            (All-push (IsIdBelow (next + 1)) ids (column_at next) (All-weaker (IsIdBelow next) (IsIdBelow (next + 1)) (λ id less. omega (arith, less)) ids numbered.below) (omega arith));
        once = subst AreOnce (sym are) (next_once ids next numbered.below numbered.once);
      }

  -- a step that makes columns of the next numbers
  all_numbered : (ids new : List ColId) (next : ℕ) → All (IsIdBelow next) ids → AreOnce ids → AreFrom number_of next new → All (IsIdBelow (next + length new)) (ids ++ new) × AreOnce (ids ++ new)
  all_numbered ids [] next below once from =
      (All-same (IsIdBelow (next + 0)) _ ids (append-nil ids) (All-weaker (IsIdBelow next) (IsIdBelow (next + 0)) (λ id less. omega (arith, less)) ids below), subst AreOnce (sym (append-nil ids)) once)
  all_numbered ids (id ∷ new) next below once from =
      let own : id ≡ column_at next = ap (λ (n : ℕ). column_at n) from.0 in
      let more : List ColId = ids ++ id ∷ [] in
      let all : All (IsIdBelow (next + 1)) more =
      All-push (IsIdBelow (next + 1)) ids id (All-weaker (IsIdBelow next) (IsIdBelow (next + 1)) (λ other less. omega (arith, less)) ids below) (omega (arith, from.0)) in
      let rest = all_numbered more new (next + 1) all (subst (λ (this : ColId). AreOnce (ids ++ this ∷ [])) (sym own) (next_once ids next below once)) from.1 in
      let are : more ++ new ≡ ids ++ id ∷ new = append_assoc ids (id ∷ []) new in (
        All-same (IsIdBelow (next + suc (length new))) _ _ (sym are)
            (All-weaker (IsIdBelow (next + 1 + length new)) (IsIdBelow (next + suc (length new))) (λ other less. omega (arith, less)) (more ++ new) rest.0),
        subst AreOnce are rest.1,
      )

  grouping_numbered : (steps : List Step) (last : Step) (new : List ColId) (next : ℕ) → step_makes last ≡ new → AreFrom number_of next new → AreNumbered given steps next
      → AreNumbered given (steps ++ last ∷ []) (next + length new)
  grouping_numbered steps last new next makes from numbered =
      let ids : List ColId = given ++ flat_map step_makes steps in
      let are = made_with steps last ∙ ap (λ (own : List ColId). ids ++ own) (append-nil (step_makes last) ∙ makes) in
      let all = all_numbered ids new next numbered.below numbered.once from in
      record { below = All-same (IsIdBelow (next + length new)) _ (ids ++ new) are all.0; once = subst AreOnce (sym are) all.1 }

  -- a step that makes none
  same_numbered : (steps : List Step) (last : Step) (next : ℕ) → step_makes last ≡ [] → AreNumbered given steps next → AreNumbered given (steps ++ last ∷ []) next
  same_numbered steps last next makes numbered =
      let ids : List ColId = given ++ flat_map step_makes steps in
      let are = made_with steps last ∙ ap (λ (own : List ColId). ids ++ own) (append-nil (step_makes last) ∙ makes) ∙ append-nil ids in
      record { below = All-same (IsIdBelow next) _ ids are numbered.below; once = subst AreOnce (sym are) numbered.once }

  abbrev IsNumberedFrom : Writing → Type 0
  IsNumberedFrom writing = AreNumbered given writing.steps writing.next

  fields_numbered : (text : List ℕ) (fields : List Field) (writing : Writing) → IsNumberedFrom writing → IsNumberedFrom (write_fields text fields writing)
  fields_numbered text [] writing numbered = numbered
  fields_numbered text (field ∷ fields) writing numbered =
      fields_numbered text fields (write_field text writing field)
      (next_numbered writing.steps (step.Eval (column_at writing.next) (typed_in writing field.expr)) writing.next refl numbered)

  input_numbered : (writing : Writing) (expr : Expr) → IsNumberedFrom writing → IsNumberedFrom (write_input writing expr)
  input_numbered writing expr numbered = by_found (column_of_typed (typed_in writing expr))
    where
      by_found : (found : Option ColId) → IsNumberedFrom (write_input_by found expr writing)
      by_found (Some id) = numbered
      by_found None = next_numbered writing.steps (step.Eval (column_at writing.next) (typed_in writing expr)) writing.next refl numbered

  inputs_numbered : {Item : Type 0} (expr_of : Item → Expr) (items : List Item) (writing : Writing) → IsNumberedFrom writing → IsNumberedFrom (write_inputs expr_of items writing)
  inputs_numbered expr_of [] writing numbered = numbered
  inputs_numbered expr_of (item ∷ items) writing numbered = inputs_numbered expr_of items (write_input writing (expr_of item)) (input_numbered writing (expr_of item) numbered)

  expand_numbered : (name : List ℕ) (writing : Writing) (found : Option OutColumn) → IsNumberedFrom writing → IsNumberedFrom (write_expand_of found name writing)
  expand_numbered name writing None numbered = numbered
  expand_numbered name writing (Some column) numbered = next_numbered writing.steps (step.Expand column.id (column_at writing.next)) writing.next refl numbered

  -- STATS
  typed_numbered : (writing : Writing) (expr : Expr) (typed : TypedExpr) → IsNumberedFrom writing → IsNumberedFrom (write_typed writing expr typed)
  typed_numbered writing expr typed numbered = next_numbered writing.steps (step.Eval (column_at writing.next) typed) writing.next refl numbered

  flag_numbered : (condition : Option Condition) (writing : Writing) → IsNumberedFrom writing → IsNumberedFrom (write_flag condition writing)
  flag_numbered None writing numbered = numbered
  flag_numbered (Some condition) writing numbered = typed_numbered writing condition.expr (flag_typed condition.node (typed_in writing condition.expr)) numbered

  call_numbered : (flag : Option Flag) (argument : Option Expr) (writing : Writing) → IsNumberedFrom writing → IsNumberedFrom (write_call flag argument writing)
  call_numbered None None writing numbered = numbered
  call_numbered (Some flag) None writing numbered = numbered
  call_numbered None (Some argument) writing numbered = input_numbered writing argument numbered
  call_numbered (Some flag) (Some argument) writing numbered = typed_numbered writing argument (flagged_typed flag (typed_in writing argument)) numbered

  calls_numbered : (flag : Option Flag) (calls : List AggregateCall) (writing : Writing) → IsNumberedFrom writing → IsNumberedFrom (write_calls flag calls writing)
  calls_numbered flag [] writing numbered = numbered
  calls_numbered flag (call ∷ calls) writing numbered = calls_numbered flag calls (write_call flag call.argument writing) (call_numbered flag call.argument writing numbered)

  before_numbered : (fields : List StatsField) (writing : Writing) → IsNumberedFrom writing → IsNumberedFrom (write_all_before fields writing)
  before_numbered [] writing numbered = numbered
  before_numbered (stats ∷ fields) writing numbered =
      before_numbered fields (write_before stats writing)
      (calls_numbered (flag_of stats.condition writing) (calls_of stats.field.expr) (write_flag stats.condition writing) (flag_numbered stats.condition writing numbered))

  groups_numbered : (groups : List Field) (writing : Writing) → IsNumberedFrom writing → IsNumberedFrom (write_groups groups writing)
  groups_numbered [] writing numbered = numbered
  groups_numbered (group ∷ groups) writing numbered = groups_numbered groups (write_input writing group.expr) (input_numbered writing group.expr numbered)

  field_numbered : (text : List ℕ) (before : List OutColumn) (number : ℕ) (stats : StatsField) (writing : Writing) → IsNumberedFrom writing → IsNumberedFrom (write_stats_field text before number stats writing)
  field_numbered text before number stats writing numbered = by_found (column_of_typed typed)
    where
      typed : TypedExpr
      typed = field_typed before number writing stats.field.expr

      by_found : (found : Option ColId) → IsNumberedFrom (write_field_by found writing stats.field.expr typed)
      by_found (Some id) = numbered
      by_found None = typed_numbered writing stats.field.expr typed numbered

  stats_fields_numbered : (text : List ℕ) (before : List OutColumn) (number : ℕ) (fields : List StatsField) (writing : Writing) → IsNumberedFrom writing
      → IsNumberedFrom (write_stats_fields text before number fields writing)
  stats_fields_numbered text before number [] writing numbered = numbered
  stats_fields_numbered text before number (stats ∷ fields) writing numbered =
      stats_fields_numbered text before (number + length (calls_of stats.field.expr)) fields (write_stats_field text before number stats writing) (field_numbered text before number stats writing numbered)

  stats_numbered : (text : List ℕ) (fields : List StatsField) (groups : List Field) (writing : Writing) → IsNumberedFrom writing → IsNumberedFrom (write_stats text fields groups writing)
  stats_numbered text fields groups writing numbered =
      let with_arguments : Writing = write_all_before fields writing in
      let with_inputs : Writing = write_groups groups with_arguments in
      let calls : List CallInput = all_inputs fields writing in
      let inputs : List GroupInput = group_inputs groups with_arguments in
      let new : List ColId = stats_columns (new_aggregates with_inputs.next calls inputs) (new_groups with_inputs.next calls inputs) in
      let grouped : Writing = write_grouping calls inputs with_inputs in
      let own = grouping_numbered with_inputs.steps (step.Stats (new_aggregates with_inputs.next calls inputs) (new_groups with_inputs.next calls inputs)) new with_inputs.next refl
      (columns_from with_inputs.next calls inputs) (groups_numbered groups with_arguments (before_numbered fields writing numbered)) in
      stats_fields_numbered text writing.visible with_inputs.next fields grouped
      (subst (λ (count : ℕ). AreNumbered given grouped.steps (with_inputs.next + count)) (length_columns with_inputs.next calls inputs) own)

  -- DISSECT, GROK and ENRICH
  new_numbered : (columns : List Column) (cutters : List Cutter) (step_to : List NewColumn → Step) → ((to : List NewColumn) → step_makes (step_to to) ≡ new_ids to) → (writing : Writing)
      → IsNumberedFrom writing → IsNumberedFrom (write_new columns cutters step_to writing)
  new_numbered columns cutters step_to makes writing numbered =
      let to : List NewColumn = new_columns writing.next columns in
      let last : Step = step_to to in
      subst (λ (count : ℕ). AreNumbered given (writing.steps ++ last ∷ []) (writing.next + count)) (length-new_ids writing.next columns)
      (grouping_numbered writing.steps last (new_ids to) writing.next (makes to) (ids_from writing.next columns) numbered)

  matched_numbered : (policy : FoundPolicy) (found : Option OutColumn) (taken : List FieldTaken) (writing : Writing) → IsNumberedFrom writing → IsNumberedFrom (write_matched policy found taken writing)
  matched_numbered policy None taken writing numbered = numbered
  matched_numbered policy (Some column) taken writing numbered =
      new_numbered (taken_columns taken) [] (step.Enrich policy.number column.id (taken_numbers taken)) (λ to. refl) writing numbered

  policy_numbered : (found : Option FoundPolicy) (on : Option NameAt) (items : Option (List EnrichItem)) (writing : Writing) → IsNumberedFrom writing → IsNumberedFrom (write_policy found on items writing)
  policy_numbered None on items writing numbered = numbered
  policy_numbered (Some policy) on items writing numbered =
      matched_numbered policy (visible_named writing.visible (matched_name policy.shape on)) (fields_taken policy.shape.fields items) writing numbered

  kind_numbered : (text : List ℕ) (policies : List PolicyShape) (node : NodeId) (kind : CommandKind) (writing : Writing) → IsNumberedFrom writing → IsNumberedFrom (write_kind text policies node kind writing)
  kind_numbered text policies node (Filter condition) writing numbered = same_numbered writing.steps (step.Filter node (typed_in writing condition)) writing.next refl numbered
  kind_numbered text policies node (Eval fields) writing numbered = fields_numbered text fields writing numbered
  kind_numbered text policies node (Sort keys) writing numbered =
      let after : Writing = write_keys keys writing in
      same_numbered after.steps (step.Sort (keys_in_plan keys writing)) after.next refl (inputs_numbered expr_of_key keys writing numbered)
  kind_numbered text policies node (Limit count) writing numbered = same_numbered writing.steps (step.Limit count) writing.next refl numbered
  kind_numbered text policies node (Expand column) writing numbered = expand_numbered column.name writing (visible_named writing.visible column.name) numbered
  kind_numbered text policies node (Stats fields groups) writing numbered = stats_numbered text fields groups writing numbered
  kind_numbered text policies node (Dissect input pattern separator) writing numbered =
      new_numbered (dissect_columns pattern.text separator) (dissect_cutters (reading_of pattern.text separator))
      (step.Dissect node (input_of writing input) (length writing.cutters) pattern.text separator) (λ to. refl) (write_input writing input) (input_numbered writing input numbered)
  kind_numbered text policies node (Grok input pattern) writing numbered =
      new_numbered (columns_in_grok pattern.text) (grok_cutters (grok_of pattern.text))
      (step.Grok node (input_of writing input) (length writing.cutters) pattern.text) (λ to. refl) (write_input writing input) (input_numbered writing input numbered)
  kind_numbered text policies node (Enrich policy on fields) writing numbered = policy_numbered (policy_named policies policy.name) on fields writing numbered
  kind_numbered text policies node other writing numbered = numbered

  commands_numbered : (text : List ℕ) (policies : List PolicyShape) (commands : List Command) (writing : Writing) → IsNumberedFrom writing → IsNumberedFrom (fold (write_command text policies) writing commands)
  commands_numbered text policies [] writing numbered = numbered
  commands_numbered text policies (command ∷ commands) writing numbered =
      commands_numbered text policies commands (write_command text policies writing command) (kind_numbered text policies command.node command.kind writing numbered)

-- the source
abbrev scanned : List Column → List ColId
scanned columns = map (λ (column : ScanColumn). column.to) (map scan_column (numbered_from 0 columns))

columns_numbered : (columns : List Column) → AreNumbered (scanned columns) [] (length columns)
columns_numbered columns = record {
  below = All-same (IsIdBelow (length columns)) _ (scanned columns) (append-nil (scanned columns))
      (All-map (IsIdBelow (length columns)) (λ (column : ScanColumn). column.to) (map scan_column (numbered_from 0 columns))
      (All-map (λ (column : ScanColumn). column.to.0 < length columns) scan_column (numbered_from 0 columns) (all_below 0 (length columns) columns (omega arith))));
  once = subst AreOnce (sym (append-nil (scanned columns)))
      (subst (IsDistinct (λ this that. this == that)) (sym (map_map number_of (λ (column : ScanColumn). column.to) (map scan_column (numbered_from 0 columns)))) (once 0 columns));
}

source_numbered : (text : List ℕ) (catalog : Catalog) (source : SourceCommand)
    → AreNumbered (source_makes (source_in_plan catalog source)) (write_source text catalog source).steps (write_source text catalog source).next
source_numbered text catalog (Tables node span tables) = columns_numbered (columns_or_none (columns_of_tables catalog.tables tables))
source_numbered text catalog (OneRow node span fields) = fields_numbered [] text fields (writing_of_columns []) (columns_numbered [])

-- each column of a written plan is made once
pub written_made_once : (text : List ℕ) (catalog : Catalog) (query : Query) → AreMadeOnce (source_in_plan catalog query.source) (writing_of text catalog query).steps
written_made_once text catalog query =
    let given : List ColId = source_makes (source_in_plan catalog query.source) in
    let before : Writing = fold (write_command text catalog.policies) (write_source text catalog query.source) query.commands in
    (same_numbered given before.steps (step.Limit (last_count query)) before.next refl
    (commands_numbered given text catalog.policies query.commands (write_source text catalog query.source) (source_numbered text catalog query.source))).once
