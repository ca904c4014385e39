-- Commands write steps that are well formed over the columns that are made before them.
use Rattle.std.proofs.Common.{◌≡◌, ◌≤◌, List, [], ◌∷◌, fold, Ok, refl, arith}
use Rattle.std.specs.List.{flat_map}
use Rattle.esql_types.specs.declared.names.Column.{Column}
use Rattle.esql_types.specs.declared.names.NodeId.{NodeId}
use Rattle.esql_ast.specs.declared.query.Command.{Command}
use Rattle.esql_ast.specs.declared.query.CommandKind.{CommandKind}
use Rattle.esql_ast.specs.declared.query.CommandKind.TheVariants.{Filter, Eval, Keep, Drop, Rename, Sort, Limit, Expand, Stats, Dissect, Grok, Enrich}
use Rattle.esql_ast.specs.Nodes.{nodes_of_kind, nodes_of_command}
use Rattle.plan_semantics.specs.WellFormed.{MadeColumn, steps_made}
use Rattle.row_semantics.specs.Columns.{HaveDistinctNames}
use Rattle.row_semantics.specs.Typed.{visible_named}
use Rattle.query_semantics.specs.Catalogs.{IsCatalog}
use Rattle.query_semantics.specs.Shapes.{Context, shape_of_kind, shape_of_command, shape_of_commands, unless_empty}
use Rattle.query_semantics.specs.Writings.{Writing}
use Rattle.query_semantics.specs.Written.{write_kind, write_command}
use Rattle.query_semantics.proofs.Squares.{All-at_places, All-renamed_by}
use Rattle.query_semantics.proofs.Kinded.{found_of}
use Rattle.written_laws.proofs.Shown.{Shows, empty_is, command_shows}
use Rattle.written_laws.proofs.AppendedFormed.{dissect_formed, grok_formed, enrich_formed}
use Rattle.written_laws.proofs.Apart.{same_distinct, kind_distinct}
use Rattle.written_laws.proofs.ColumnsTyped.{OutIsMade}
use Rattle.written_laws.proofs.NodesCounted.{placed, placed-append}
use Rattle.written_laws.proofs.StatsFormed.{stats_formed}
use Rattle.written_laws.proofs.StepsFormed.{Start, IsFormed, condition_formed, seen_formed, limit_formed, expand_formed, sort_formed, fields_formed, distinct_seen}

kind_formed : (made : List MadeColumn) (start : Start) (context : Context) → start.catalog ≡ context.catalog → IsCatalog context.catalog → (node : NodeId) (kind : CommandKind) (columns after : List Column) (writing : Writing) → IsFormed made start writing → Shows writing columns
    → HaveDistinctNames columns → ((node : NodeId) → placed node (nodes_of_kind kind) ≤ 1) → shape_of_kind context kind columns ≡ Ok after
    → IsFormed made start (write_kind context.text context.catalog.policies node kind writing)
kind_formed made start context of is_catalog node (Filter condition) columns after writing formed shows distinct differ is = condition_formed made start writing formed context columns after node condition shows is
kind_formed made start context of is_catalog node (Eval fields) columns after writing formed shows distinct differ is = fields_formed made start context fields columns after writing formed shows is
kind_formed made start context of is_catalog node (Keep patterns) columns after writing formed shows distinct differ is =
    seen_formed made start writing formed _ (All-at_places (OutIsMade (steps_made made writing.steps)) _ writing.visible formed.columns.seen)
kind_formed made start context of is_catalog node (Drop patterns) columns after writing formed shows distinct differ is =
    seen_formed made start writing formed _ (All-at_places (OutIsMade (steps_made made writing.steps)) _ writing.visible formed.columns.seen)
kind_formed made start context of is_catalog node (Rename pairs) columns after writing formed shows distinct differ is =
    seen_formed made start writing formed _ (All-renamed_by (OutIsMade (steps_made made writing.steps)) _ (λ name column there. there) _ writing.visible formed.columns.seen)
kind_formed made start context of is_catalog node (Limit count) columns after writing formed shows distinct differ is = limit_formed made start writing formed count
kind_formed made start context of is_catalog node (Sort keys) columns after writing formed shows distinct differ is = sort_formed made start context keys columns after writing formed shows is
kind_formed made start context of is_catalog node (Expand column) columns after writing formed shows distinct differ is =
    expand_formed made start writing formed column.name (visible_named writing.visible column.name) refl (distinct_seen columns writing shows distinct)
kind_formed made start context of is_catalog node (Stats fields groups) columns after writing formed shows distinct differ is =
    stats_formed made start context fields groups columns after writing formed shows differ is
kind_formed made start context of is_catalog node (Dissect input pattern separator) columns after writing formed shows distinct differ is =
    dissect_formed made start context columns after writing formed shows node input pattern separator is
kind_formed made start context of is_catalog node (Grok input pattern) columns after writing formed shows distinct differ is =
    grok_formed made start context columns after writing formed shows node input pattern is
kind_formed made start context of is_catalog node (Enrich policy on fields) columns after writing formed shows distinct differ is =
    enrich_formed made start context columns after writing formed shows of is_catalog policy on fields is
kind_formed made start context of is_catalog node other columns after writing formed shows distinct differ is = formed

-- commands in turn
pub commands_formed : (made : List MadeColumn) (start : Start) (context : Context) → start.catalog ≡ context.catalog → IsCatalog context.catalog → (commands : List Command) (columns after : List Column) (writing : Writing) → IsFormed made start writing → Shows writing columns
    → HaveDistinctNames columns → ((node : NodeId) → placed node (flat_map nodes_of_command commands) ≤ 1) → shape_of_commands context commands columns ≡ Ok after
    → IsFormed made start (fold (write_command context.text context.catalog.policies) writing commands)
commands_formed made start context of is_catalog [] columns after writing formed shows distinct differ is = formed
commands_formed made start context of is_catalog (command ∷ commands) columns after writing formed shows distinct differ is =
    let found = found_of (shape_of_command context command columns) (shape_of_commands context commands) after is in
    let own = found_of (shape_of_kind context command.kind columns) (unless_empty command.span) found.value found.is in
    commands_formed made start context of is_catalog commands found.value after (write_command context.text context.catalog.policies writing command)
    (kind_formed made start context of is_catalog command.node command.kind columns own.value writing formed shows distinct
    (λ node. omega (arith, differ node, placed-append node (nodes_of_command command) (flat_map nodes_of_command commands))) own.is)
    (command_shows context command columns found.value writing shows found.is)
    (same_distinct own.value found.value (empty_is command.span own.value found.value own.next_is) (kind_distinct context command.kind columns own.value distinct own.is))
    (λ node. omega (arith, differ node, placed-append node (nodes_of_command command) (flat_map nodes_of_command commands)))
    found.next_is
