-- The plan that a query is written as: names vanish, and steps stand for fields, conditions, SORT, MV_EXPAND, STATS, DISSECT, GROK,
-- ENRICH and LIMIT.
use Rattle.std.specs.Prelude.{ℕ, ◌+◌, List, [], ◌∷◌, ◌++◌, map, fold, length, Option, Some, None, if◌then◌else◌}
use Rattle.std.specs.Str.{bytes_eq}
use Rattle.esql_types.specs.declared.names.NodeId.{NodeId}
use Rattle.esql_types.specs.declared.names.Column.{Column}
use Rattle.esql_ast.specs.declared.expr.Expr.{Expr}
use Rattle.esql_ast.specs.declared.query.Field.{Field}
use Rattle.esql_ast.specs.declared.query.SortKey.{SortKey}
use Rattle.esql_ast.specs.declared.query.NamePattern.{NamePattern}
use Rattle.esql_ast.specs.declared.query.RenamePair.{RenamePair}
use Rattle.esql_ast.specs.declared.query.Query.{Query}
use Rattle.esql_ast.specs.declared.query.Command.{Command}
use Rattle.esql_ast.specs.declared.query.CommandKind.{CommandKind}
use Rattle.esql_ast.specs.declared.query.CommandKind.TheVariants.{Filter, Eval, Keep, Drop, Rename, Sort, Limit, Expand, Stats, Dissect, Grok, Enrich, Join}
use Rattle.esql_ast.specs.declared.query.SourceCommand.{SourceCommand}
use Rattle.esql_ast.specs.declared.query.SourceCommand.TheVariants.{Tables, OneRow}
use Rattle.name_rules.specs.NameRules.{keep_places, drop_places, at_places, renamings, renamed_by}
use Rattle.esql_plan.specs.declared.catalog.Catalog.{Catalog}
use Rattle.esql_plan.specs.declared.catalog.PolicyShape.{PolicyShape}
use Rattle.esql_plan.specs.declared.plan.Plan.{Plan}
use Rattle.esql_plan.specs.declared.plan.PlanSource.{PlanSource}
use Rattle.esql_plan.specs.declared.plan.PlanSource.TheVariants as source
use Rattle.esql_plan.specs.declared.plan.ScanColumn.{ScanColumn}
use Rattle.esql_plan.specs.declared.plan.OutColumn.{OutColumn}
use Rattle.esql_plan.specs.declared.step.PlanKey.{PlanKey}
use Rattle.esql_plan.specs.declared.step.Step.TheVariants as step
use Rattle.dissect_grok.specs.declared.cutter.Cutter.{Cutter}
use Rattle.row_semantics.specs.Fields.{name_of_field}
use Rattle.row_semantics.specs.Sources.{tables_named, columns_of_tables, columns_or_none}
use Rattle.row_semantics.specs.Typed.{visible_named}
use Rattle.query_semantics.specs.Cuts.{last_count}
use Rattle.query_semantics.specs.Writings.{Writing, column_at, visible_names, put_visible, visible_as, typed_in, with_step, write_input, input_of}
use Rattle.query_semantics.specs.WrittenAppended.{write_dissect, write_grok, write_enrich}
use Rattle.query_semantics.specs.WrittenStats.{write_stats}

-- a field makes a column
abbrev pub write_field : List ℕ → Writing → Field → Writing
write_field text writing field = record (with_step writing field.expr (step.Eval (column_at writing.next) (typed_in writing field.expr))) {
  visible = put_visible writing.visible (name_of_field text field) (typed_in writing field.expr).kind writing.next;
  next = writing.next + 1;
}

abbrev pub write_fields : List ℕ → List Field → Writing → Writing
write_fields text fields writing = fold (write_field text) writing fields

abbrev pub write_condition : NodeId → Expr → Writing → Writing
write_condition node condition writing = with_step writing condition (step.Filter node (typed_in writing condition))

-- KEEP, DROP and RENAME change only what can be seen
abbrev pub write_keep : List NamePattern → Writing → Writing
write_keep patterns writing = record writing { visible = at_places (keep_places (visible_names writing.visible) patterns) writing.visible }

abbrev pub write_drop : List NamePattern → Writing → Writing
write_drop patterns writing = record writing { visible = at_places (drop_places (visible_names writing.visible) patterns) writing.visible }

abbrev pub write_rename : List RenamePair → Writing → Writing
write_rename pairs writing = record writing { visible = renamed_by visible_as (renamings (visible_names writing.visible) pairs) writing.visible }

abbrev pub write_limit : ℕ → Writing → Writing
write_limit count writing = record writing { steps = writing.steps ++ step.Limit count ∷ [] }

-- SORT and MV_EXPAND ---------------------------------------------------------------------------------------------------------

-- the inputs of the keys in turn
abbrev pub write_keys : List SortKey → Writing → Writing
write_keys keys writing = fold (λ (so_far : Writing) (key : SortKey). write_input so_far key.expr) writing keys

abbrev pub keys_in_plan : List SortKey → Writing → List PlanKey
keys_in_plan [] writing = []
keys_in_plan (key ∷ keys) writing =
    record { id = input_of writing key.expr; descending = key.descending; nulls_first = key.nulls_first } ∷ keys_in_plan keys (write_input writing key.expr)

-- SORT: the inputs of its keys, then one step
abbrev pub write_sort : List SortKey → Writing → Writing
write_sort keys writing = record (write_keys keys writing) { steps = (write_keys keys writing).steps ++ step.Sort (keys_in_plan keys writing) ∷ [] }

-- another number in the place of the column of a name
abbrev pub renumbered : List ℕ → ℕ → OutColumn → OutColumn
renumbered name number column = if bytes_eq column.name name then record { name = column.name; kind = column.kind; id = column_at number } else column

-- MV_EXPAND: a column of a new number takes the place of that of the name
abbrev pub write_expand_of : Option OutColumn → List ℕ → Writing → Writing
write_expand_of None name writing = writing
write_expand_of (Some column) name writing = record writing {
  visible = map (renumbered name writing.next) writing.visible;
  next = writing.next + 1;
  steps = writing.steps ++ step.Expand column.id (column_at writing.next) ∷ [];
}

abbrev pub write_expand : List ℕ → Writing → Writing
write_expand name writing = write_expand_of (visible_named writing.visible name) name writing

-- The steps of a command. No plan is written of a query with LOOKUP JOIN so far: it writes nothing.
abbrev pub write_kind : List ℕ → List PolicyShape → NodeId → CommandKind → Writing → Writing
write_kind text policies node (Filter condition) writing = write_condition node condition writing
write_kind text policies node (Eval fields) writing = write_fields text fields writing
write_kind text policies node (Keep patterns) writing = write_keep patterns writing
write_kind text policies node (Drop patterns) writing = write_drop patterns writing
write_kind text policies node (Rename pairs) writing = write_rename pairs writing
write_kind text policies node (Sort keys) writing = write_sort keys writing
write_kind text policies node (Limit count) writing = write_limit count writing
write_kind text policies node (Expand column) writing = write_expand column.name writing
write_kind text policies node (Stats fields groups) writing = write_stats text fields groups writing
write_kind text policies node (Dissect input pattern separator) writing = write_dissect node input pattern.text separator writing
write_kind text policies node (Grok input pattern) writing = write_grok node input pattern.text writing
write_kind text policies node (Enrich policy on fields) writing = write_enrich policies policy on fields writing
write_kind text policies node (Join table on) writing = writing

abbrev pub write_command : List ℕ → List PolicyShape → Writing → Command → Writing
write_command text policies writing command = write_kind text policies command.node command.kind writing

-- columns with numbers in turn
abbrev pub numbered_from : ℕ → List Column → List OutColumn
numbered_from number [] = []
numbered_from number (column ∷ columns) = record { name = column.name; kind = column.kind; id = column_at number } ∷ numbered_from (number + 1) columns

abbrev pub scan_column : OutColumn → ScanColumn
scan_column column = record { name = column.name; kind = column.kind; to = column.id }

-- a plan before its first step, over columns that are read
abbrev pub writing_of_columns : List Column → Writing
writing_of_columns columns = record { visible = numbered_from 0 columns; next = length columns; whole = []; free = []; cutters = []; steps = [] }

-- FROM reads each table once, and numbers its columns in their order
abbrev pub source_in_plan : Catalog → SourceCommand → PlanSource
source_in_plan catalog (Tables node span tables) =
    source.Scan (tables_named catalog.tables tables) (map scan_column (numbered_from 0 (columns_or_none (columns_of_tables catalog.tables tables))))
source_in_plan catalog (OneRow node span fields) = source.OneRow

abbrev pub write_source : List ℕ → Catalog → SourceCommand → Writing
write_source text catalog (Tables node span tables) = writing_of_columns (columns_or_none (columns_of_tables catalog.tables tables))
write_source text catalog (OneRow node span fields) = write_fields text fields (writing_of_columns [])

-- the whole query, with the last cut at the end
abbrev pub writing_of : List ℕ → Catalog → Query → Writing
writing_of text catalog query = write_limit (last_count query) (fold (write_command text catalog.policies) (write_source text catalog query.source) query.commands)

-- a plan, with the texts of the patterns that it reads, those that are matched against whole texts and those that are searched for,
-- and its cutters
pub record Written : Type 0 where
  pub plan : Plan
  pub whole : List (List ℕ)
  pub free : List (List ℕ)
  pub cutters : List Cutter

abbrev pub written_by : PlanSource → ℕ → Writing → Written
written_by start nodes writing = record {
  plan = record { source = start; steps = writing.steps; output = writing.visible; columns = writing.next; nodes = nodes };
  whole = writing.whole;
  free = writing.free;
  cutters = writing.cutters;
}

-- the plan that a query is written as
abbrev pub written_of : List ℕ → Catalog → Query → Written
written_of text catalog query = written_by (source_in_plan catalog query.source) query.nodes (writing_of text catalog query)
