-- STATS on rows of names: groups, what the aggregates give of the rows of a group, and the row of a group.
use Rattle.std.specs.Prelude.{ℕ, List, [], ◌∷◌, ◌++◌, filter, map, length, Option, Some, None}
use Rattle.std.specs.List.{flat_map, list_any}
use Rattle.esql_types.specs.declared.cause.Failure.{Failure}
use Rattle.esql_types.specs.declared.places.Span.{Span}
use Rattle.esql_types.specs.declared.value.Value.{Value}
use Rattle.esql_types.specs.Spans.{text_at}
use Rattle.esql_ast.specs.declared.expr.Expr.{Expr}
use Rattle.esql_ast.specs.declared.query.Condition.{Condition}
use Rattle.esql_ast.specs.declared.query.Field.{Field}
use Rattle.esql_ast.specs.declared.query.NameAt.{NameAt}
use Rattle.esql_ast.specs.declared.query.StatsField.{StatsField}
use Rattle.function_rules.specs.Lists.{distinct_of}
use Rattle.esql_plan.specs.Rules.{Given}
use Rattle.esql_plan.specs.Values.{Valued, failures_at}
use Rattle.plan_semantics.specs.Groups.{Key, same_key, keys_of_cells, aggregate_of}
use Rattle.plan_semantics.specs.Steps.{is_true}
use Rattle.row_semantics.specs.Fields.{name_by, name_of_field}
use Rattle.row_semantics.specs.Meanings.{CallCell, value_on}
use Rattle.row_semantics.specs.Rows.{Row, put}
use Rattle.query_semantics.specs.Calls.{AggregateCall, calls_of}
use Rattle.query_semantics.specs.RowValues.{value_in_row, failures_of_expr, failures_of_rows}

-- Groups ---------------------------------------------------------------------------------------------------------------

-- the keys of a row: each choice of one value from each cell that rows are grouped by, or of null where a cell has none
abbrev pub keys_of_row : List Field → Row → List Key
keys_of_row groups row = keys_of_cells (map (λ (group : Field). (value_in_row group.expr row).cell) groups)

-- the keys of the groups by first appearance; where nothing is grouped by there is one group, over no rows too
abbrev pub keys_of_rows : List Field → List Row → List Key
keys_of_rows [] rows = [] ∷ []
keys_of_rows (group ∷ groups) rows = distinct_of same_key (flat_map (keys_of_row (group ∷ groups)) rows)

-- the rows of a group are those that have its key among theirs, in order
abbrev pub rows_of_key : List Field → Key → List Row → List Row
rows_of_key groups key rows = filter (λ row. list_any (same_key key) (keys_of_row groups row)) rows

-- Aggregates -----------------------------------------------------------------------------------------------------------

-- the rows on which the condition of a field is true; null is not, nor are several values
abbrev pub counted_rows : Option Condition → List Row → List Row
counted_rows None rows = rows
counted_rows (Some condition) rows = filter (λ row. is_true (value_in_row condition.expr row).cell) rows

-- the values of an aggregate's argument, row after row
abbrev pub values_of_argument : Option Expr → List Row → List Value
values_of_argument None rows = []
values_of_argument (Some argument) rows = flat_map (λ row. (value_in_row argument row).cell) rows

-- what an aggregate call gives of the rows of a group: of those of them on which the field's condition is true
abbrev pub call_gives : Option Condition → AggregateCall → List Row → Given
call_gives condition call rows =
    aggregate_of call.function (length (counted_rows condition rows)) (values_of_argument call.argument (counted_rows condition rows))

abbrev pub cells_of_calls : Option Condition → List AggregateCall → List Row → List CallCell
cells_of_calls condition calls rows = map (λ (call : AggregateCall). record { node = call.node; cell = (call_gives condition call rows).cell }) calls

-- Fields ---------------------------------------------------------------------------------------------------------------

-- the slice of the query from the first token of a field's expression to the last of its condition
abbrev pub slice_of : Field → Condition → Span
slice_of field condition = record { from = field.span.from; to = condition.expr.span.to }

abbrev pub name_in_stats : List ℕ → Field → Option NameAt → Option Condition → List ℕ
name_in_stats text field (Some name) condition = name.name
name_in_stats text field None None = name_by text field None
name_in_stats text field None (Some condition) = text_at text (slice_of field condition)

-- the name of a field's column: one with a condition and without a name is named by the slice over both
abbrev pub name_of_stats : List ℕ → StatsField → List ℕ
name_of_stats text stats = name_in_stats text stats.field stats.field.name stats.condition

-- a field is evaluated once for a group, over the cells of its aggregate calls; it sees no column
abbrev pub value_of_stats : StatsField → List Row → Valued
value_of_stats stats rows =
    value_on stats.field.expr (record { row = []; calls = cells_of_calls stats.condition (calls_of stats.field.expr) rows })

-- the fields in turn, each at the end, of the rows of a group
abbrev pub put_fields : List ℕ → List StatsField → List Row → Row → Row
put_fields text [] rows row = row
put_fields text (stats ∷ fields) rows row = put_fields text fields rows (put row (name_of_stats text stats) (value_of_stats stats rows).cell)

-- the cells of a key in turn, each at the end under the name of its group
abbrev pub put_key : List ℕ → List Field → Key → Row → Row
put_key text [] key row = row
put_key text (group ∷ groups) [] row = row
put_key text (group ∷ groups) (cell ∷ key) row = put_key text groups key (put row (name_of_field text group) cell)

-- the row of a group: its fields, then what rows are grouped by; of two with one name the later stays
abbrev pub row_of_key : List ℕ → List StatsField → List Field → List Row → Key → Row
row_of_key text fields groups rows key = put_key text groups key (put_fields text fields (rows_of_key groups key rows) [])

-- a row for each group
abbrev pub rows_of_stats : List ℕ → List StatsField → List Field → List Row → List Row
rows_of_stats text fields groups rows = map (row_of_key text fields groups rows) (keys_of_rows groups rows)

-- Failures -------------------------------------------------------------------------------------------------------------

abbrev pub failures_of_argument : Option Expr → List Row → List Failure
failures_of_argument None rows = []
failures_of_argument (Some argument) rows = failures_of_expr argument rows

abbrev pub failures_of_arguments : List AggregateCall → List Row → List Failure
failures_of_arguments calls rows = flat_map (λ (call : AggregateCall). failures_of_argument call.argument rows) calls

-- a condition of several values is one failure of its node
abbrev pub failures_of_optional : Option Condition → List Row → List Failure
failures_of_optional None rows = []
failures_of_optional (Some condition) rows = failures_of_rows condition.node condition.expr rows

-- conditions are evaluated on every row, and arguments on the rows on which the condition of their field is true
abbrev pub failures_before : StatsField → List Row → List Failure
failures_before stats rows = failures_of_optional stats.condition rows ++ failures_of_arguments (calls_of stats.field.expr) (counted_rows stats.condition rows)

-- the failures of a field's aggregates in a group
abbrev pub failures_in_group : StatsField → List Row → List Failure
failures_in_group stats rows =
    flat_map (λ (call : AggregateCall). failures_at call.node (call_gives stats.condition call rows).causes) (calls_of stats.field.expr)

-- The failures of the conditions and arguments, field after field, and of what rows are grouped by; then those of the aggregates,
-- group after group; then those of the fields, each in one group after another.
abbrev pub failures_of_stats : List StatsField → List Field → List Row → List Failure
failures_of_stats fields groups rows =
    flat_map (λ stats. failures_before stats rows) fields
    ++ (flat_map (λ (group : Field). failures_of_expr group.expr rows) groups
    ++ (flat_map (λ key. flat_map (λ stats. failures_in_group stats (rows_of_key groups key rows)) fields) (keys_of_rows groups rows)
    ++ flat_map (λ stats. flat_map (λ key. (value_of_stats stats (rows_of_key groups key rows)).failures) (keys_of_rows groups rows)) fields))
