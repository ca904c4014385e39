-- What the commands of a query do to rows of names, and what fails on the way.
use Rattle.std.specs.Prelude.{ℕ, List, [], ◌∷◌, ◌++◌, filter, map, take, if◌then◌else◌}
use Rattle.std.specs.declared.cmp.Ordering.{Ordering}
use Rattle.std.specs.declared.cmp.Ordering.TheVariants.{Equal}
use Rattle.std.specs.List.{flat_map}
use Rattle.std.specs.Ordering.{ordering_then}
use Rattle.std.specs.Str.{bytes_eq}
use Rattle.esql_types.specs.declared.value.Value.{Value}
use Rattle.esql_types.specs.declared.cause.Failure.{Failure}
use Rattle.esql_types.specs.declared.names.NodeId.{NodeId}
use Rattle.esql_ast.specs.declared.expr.Expr.{Expr}
use Rattle.esql_ast.specs.declared.query.Field.{Field}
use Rattle.esql_ast.specs.declared.query.SortKey.{SortKey}
use Rattle.esql_ast.specs.declared.query.NamePattern.{NamePattern}
use Rattle.esql_ast.specs.declared.query.RenamePair.{RenamePair}
use Rattle.esql_ast.specs.declared.query.Command.{Command}
use Rattle.esql_ast.specs.declared.query.CommandKind.{CommandKind}
use Rattle.esql_ast.specs.declared.query.CommandKind.TheVariants.{Filter, Eval, Keep, Drop, Rename, Sort, Limit, Expand, Stats, Dissect, Grok, Enrich, Join}
use Rattle.name_rules.specs.NameRules.{keep_places, drop_places, at_places, renamings, renamed_by}
use Rattle.function_rules.specs.Lists.{sorted_by}
use Rattle.plan_semantics.specs.Orders.{order_of_cells}
use Rattle.plan_semantics.specs.Tables.{CatalogHeld}
use Rattle.plan_semantics.specs.Steps.{is_true}
use Rattle.row_semantics.specs.declared.row.NamedCell.{NamedCell}
use Rattle.row_semantics.specs.Rows.{Row, cell_at, put}
use Rattle.row_semantics.specs.Fields.{name_of_field}
use Rattle.query_semantics.specs.RowValues.{value_in_row, failures_of_expr, failures_of_rows}
use Rattle.query_semantics.specs.Appended.{rows_of_dissect, rows_of_grok, failures_of_grok, rows_of_enrich}
use Rattle.query_semantics.specs.Stats.{rows_of_stats, failures_of_stats}

-- the names of a row's cells
abbrev pub names_in : Row → List (List ℕ)
names_in row = map (λ (named : NamedCell). named.name) row

abbrev pub cells_of : Row → List (List Value)
cells_of row = map (λ (named : NamedCell). named.cell) row

-- EVAL and ROW ---------------------------------------------------------------------------------------------------------

-- a field's value takes the place of the cell of its name, and stands at the end
abbrev pub row_with_field : List ℕ → Field → Row → Row
row_with_field text field row = put row (name_of_field text field) (value_in_row field.expr row).cell

-- each field in turn; later fields see earlier ones
abbrev pub rows_of_fields : List ℕ → List Field → List Row → List Row
rows_of_fields text [] rows = rows
rows_of_fields text (field ∷ fields) rows = rows_of_fields text fields (map (row_with_field text field) rows)

-- the failures of each field in turn, row after row
abbrev pub failures_of_fields : List ℕ → List Field → List Row → List Failure
failures_of_fields text [] rows = []
failures_of_fields text (field ∷ fields) rows = failures_of_expr field.expr rows ++ failures_of_fields text fields (map (row_with_field text field) rows)

-- WHERE ----------------------------------------------------------------------------------------------------------------

-- the rows on which the condition is true
abbrev pub rows_of_condition : Expr → List Row → List Row
rows_of_condition condition rows = filter (λ row. is_true (value_in_row condition row).cell) rows

-- KEEP, DROP, RENAME ------------------------------------------------------------------------------------------------------

abbrev pub kept_of_row : List NamePattern → Row → Row
kept_of_row patterns row = at_places (keep_places (names_in row) patterns) row

abbrev pub left_of_row : List NamePattern → Row → Row
left_of_row patterns row = at_places (drop_places (names_in row) patterns) row

abbrev pub cell_as : List ℕ → NamedCell → NamedCell
cell_as name named = record { name = name; cell = named.cell }

abbrev pub renamed_row : List RenamePair → Row → Row
renamed_row pairs row = renamed_by cell_as (renamings (names_in row) pairs) row

-- SORT -----------------------------------------------------------------------------------------------------------------

-- rows by the first of the keys at which they differ
abbrev pub order_by_keys : List SortKey → Row → Row → Ordering
order_by_keys [] this that = Equal
order_by_keys (key ∷ keys) this that =
    ordering_then (order_of_cells key.descending key.nulls_first (value_in_row key.expr this).cell (value_in_row key.expr that).cell) (order_by_keys keys this that)

-- the rows in the order of the keys, in their earlier order where the keys tie
abbrev pub rows_of_keys : List SortKey → List Row → List Row
rows_of_keys keys rows = sorted_by (order_by_keys keys) rows

-- the failures of each key in turn, row after row
abbrev pub failures_of_keys : List SortKey → List Row → List Failure
failures_of_keys keys rows = flat_map (λ (key : SortKey). failures_of_expr key.expr rows) keys

-- MV_EXPAND --------------------------------------------------------------------------------------------------------------

-- the row with another cell of a name, in its place
abbrev pub with_named : List ℕ → List Value → Row → Row
with_named name cell row = map (λ (named : NamedCell). if bytes_eq named.name name then record { name = named.name; cell = cell } else named) row

-- a row for each value of a cell, with that value alone under the name; one row, with null there, where there is none
abbrev pub expanded_at : List ℕ → Row → List Value → List Row
expanded_at name row [] = with_named name [] row ∷ []
expanded_at name row (value ∷ values) = map (λ one. with_named name (one ∷ []) row) (value ∷ values)

-- the rows of the values of a column, the other cells copied
abbrev pub expanded_row : List ℕ → Row → List Row
expanded_row name row = expanded_at name row (cell_at row name)

-- commands ---------------------------------------------------------------------------------------------------------------

-- The rows after a command. No query with LOOKUP JOIN is answered so far: it leaves the rows as they are.
abbrev pub rows_of_kind : List ℕ → CatalogHeld → NodeId → CommandKind → List Row → List Row
rows_of_kind text held node (Filter condition) rows = rows_of_condition condition rows
rows_of_kind text held node (Eval fields) rows = rows_of_fields text fields rows
rows_of_kind text held node (Keep patterns) rows = map (kept_of_row patterns) rows
rows_of_kind text held node (Drop patterns) rows = map (left_of_row patterns) rows
rows_of_kind text held node (Rename pairs) rows = map (renamed_row pairs) rows
rows_of_kind text held node (Sort keys) rows = rows_of_keys keys rows
rows_of_kind text held node (Limit count) rows = take count rows
rows_of_kind text held node (Expand column) rows = flat_map (expanded_row column.name) rows
rows_of_kind text held node (Stats fields groups) rows = rows_of_stats text fields groups rows
rows_of_kind text held node (Dissect input pattern separator) rows = rows_of_dissect input pattern.text separator rows
rows_of_kind text held node (Grok input pattern) rows = rows_of_grok node input pattern.text rows
rows_of_kind text held node (Enrich policy on fields) rows = rows_of_enrich held policy on fields rows
rows_of_kind text held node (Join table on) rows = rows

-- What fails in a command: KEEP, DROP, RENAME, LIMIT, MV_EXPAND and ENRICH never do. No query with LOOKUP JOIN is answered so far.
abbrev pub failures_of_kind : List ℕ → NodeId → CommandKind → List Row → List Failure
failures_of_kind text node (Filter condition) rows = failures_of_rows node condition rows
failures_of_kind text node (Eval fields) rows = failures_of_fields text fields rows
failures_of_kind text node (Keep patterns) rows = []
failures_of_kind text node (Drop patterns) rows = []
failures_of_kind text node (Rename pairs) rows = []
failures_of_kind text node (Sort keys) rows = failures_of_keys keys rows
failures_of_kind text node (Limit count) rows = []
failures_of_kind text node (Expand column) rows = []
failures_of_kind text node (Stats fields groups) rows = failures_of_stats fields groups rows
failures_of_kind text node (Dissect input pattern separator) rows = failures_of_expr input rows
failures_of_kind text node (Grok input pattern) rows = failures_of_grok node input pattern.text rows
failures_of_kind text node (Enrich policy on fields) rows = []
failures_of_kind text node (Join table on) rows = []

-- the rows after commands in turn
abbrev pub rows_of_commands : List ℕ → CatalogHeld → List Command → List Row → List Row
rows_of_commands text held [] rows = rows
rows_of_commands text held (command ∷ commands) rows = rows_of_commands text held commands (rows_of_kind text held command.node command.kind rows)

-- the failures of commands in turn, each on the rows that come to it
abbrev pub failures_of_commands : List ℕ → CatalogHeld → List Command → List Row → List Failure
failures_of_commands text held [] rows = []
failures_of_commands text held (command ∷ commands) rows =
    failures_of_kind text command.node command.kind rows ++ failures_of_commands text held commands (rows_of_kind text held command.node command.kind rows)
