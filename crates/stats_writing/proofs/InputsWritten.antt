-- Conditions, arguments and fields of STATS are written as they are to be.
use Rattle.std.proofs.Common.{◌≡◌, ℕ, ◌+◌, ◌<◌, List, [], ◌∷◌, ◌++◌, length, Option, Some, None, refl, ap, sym, ◌∙◌, arith}
use Rattle.std.proofs.lemmas.List.{append-nil, length-append, length-map}
use Rattle.esql_types.specs.declared.names.ColId.{ColId}
use Rattle.esql_types.specs.declared.value.Kind.{Kind}
use Rattle.esql_types.specs.declared.value.Kind.TheVariants as kind
use Rattle.esql_ast.specs.declared.expr.Expr.{Expr}
use Rattle.esql_ast.specs.declared.query.StatsField.{StatsField}
use Rattle.esql_ast.specs.Nodes.{nodes_of_expr, nodes_of_field, nodes_of_stats, nodes_of_condition}
use Rattle.esql_plan.specs.declared.function.Function.TheVariants as function
use Rattle.esql_plan.specs.declared.plan.OutColumn.{OutColumn}
use Rattle.esql_plan.specs.declared.step.Step.TheVariants as step
use Rattle.esql_plan.specs.declared.typed.TypedExpr.{TypedExpr}
use Rattle.esql_plan.specs.Signatures.{kind_of_call}
use Rattle.row_semantics.specs.Typed.{typing_of}
use Rattle.query_semantics.specs.Calls.{AggregateCall, calls_of}
use Rattle.query_semantics.specs.Stats.{name_of_stats}
use Rattle.query_semantics.specs.Writings.{Writing, column_at, put_visible, column_of_typed, input_by}
use Rattle.query_semantics.specs.WrittenStats.{write_typed, call_columns, field_typed, write_field_by, write_stats_field}
use Rattle.stats_writing.specs.declared.calls.Call.{Call}
use Rattle.plan_writing.specs.declared.writing.Writing.{Writing as Made}
use Rattle.stats_writing.specs.Behind.{with_patterns, with_column}
use Rattle.stats_writing.specs.CallsSeen.{call_of, seen_calls}
use Rattle.plan_writing.specs.Writings.{seen, HasRoom}
use Rattle.plan_writing.proofs.Columned.{columns_bare}
use Rattle.plan_writing.proofs.Expressions.{some_node}
use Rattle.plan_writing.proofs.PlainRooms.{less_room}

-- a case of one condition has the kind of its value
pub case_kind : (condition value : Kind) → kind_of_call function.Case (condition ∷ value ∷ []) ≡ value
case_kind condition kind.Integer = refl
case_kind condition kind.Long = refl
case_kind condition kind.Boolean = refl
case_kind condition kind.Keyword = refl
case_kind condition kind.Null = refl

-- a step that makes a column of a typed expression
pub typed_written : (expr : Expr) (old made new : Made) (typed : TypedExpr) → seen made ≡ with_patterns expr (seen old)
    → new.visible ≡ made.visible → new.next ≡ made.next + 1 → new.patterns ≡ made.patterns → new.cutters ≡ made.cutters → new.steps ≡ made.steps ++ step.Eval (column_at made.next) typed ∷ []
    → seen new ≡ write_typed (seen old) expr typed
typed_written expr old made new typed is visible next read cut steps =
    let after : Writing → Writing = λ writing. record writing { next = writing.next + 1; steps = writing.steps ++ step.Eval (column_at writing.next) typed ∷ [] } in
    let own : seen new ≡ after (seen made) = λ i. record { visible = visible i; next = next i; whole = (read i).whole; free = (read i).free; cutters = cut i; steps = steps i } in
    own ∙ ap after is

-- a field that is a column reads no pattern
column_written : (old : Writing) (expr : Expr) (calls : List OutColumn) (typed : TypedExpr) (visible : List OutColumn) (found : Option ColId)
    → ((id : ColId) → found ≡ Some id → ((typing_of expr).whole ≡ []) × ((typing_of expr).free ≡ []))
    → (let these : Writing = record (with_column found typed (with_patterns expr old)) { visible = visible } in these) ≡ record (write_field_by found old expr typed) { visible = visible }
column_written old expr calls typed visible None bare = refl
column_written old expr calls typed visible (Some id) bare =
    let none = bare id refl in
    let whole = ap (λ (more : List (List ℕ)). old.whole ++ more) none.0 ∙ append-nil old.whole in
    let free = ap (λ (more : List (List ℕ)). old.free ++ more) none.1 ∙ append-nil old.free in
    λ i. record { visible = visible; next = old.next; whole = whole i; free = free i; cutters = old.cutters; steps = old.steps }

pub field_written : (text : List ℕ) (before : List OutColumn) (number : ℕ) (stats : StatsField) (old made new : Writing) (typed : TypedExpr)
    → typed ≡ field_typed before number old stats.field.expr → made ≡ with_patterns stats.field.expr old
    → new ≡ record (with_column (column_of_typed typed) typed made) { visible = put_visible made.visible (name_of_stats text stats) typed.kind (input_by (column_of_typed typed) made.next).0 }
    → new ≡ write_stats_field text before number stats old
field_written text before number stats old made new typed is read written =
    let expr : Expr = stats.field.expr in
    let own : TypedExpr = field_typed before number old expr in
    let shown : List OutColumn = put_visible old.visible (name_of_stats text stats) own.kind (input_by (column_of_typed own) old.next).0 in
    written
    ∙ (λ i. record (with_column (column_of_typed (is i)) (is i) (read i)) { visible = put_visible (read i).visible (name_of_stats text stats) (is i).kind (input_by (column_of_typed (is i)) (read i).next).0 })
    ∙ column_written old expr [] own shown (column_of_typed own) (λ id found. columns_bare expr (record { columns = before; calls = call_columns number (calls_of expr) }) (length old.whole) (length old.free) id found)

-- counts ----------------------------------------------------------------------------------------------------------------------

pub columns_counted : (number : ℕ) (calls : List AggregateCall) → length (call_columns number calls) ≡ length calls
columns_counted number [] = refl
columns_counted number (call ∷ calls) = let rest = columns_counted (number + 1) calls in omega (arith, rest)

pub calls_counted : (items : List Call) (calls : List AggregateCall) → seen_calls items ≡ calls → length items ≡ length calls
calls_counted items calls is = sym (length-map items call_of) ∙ ap (λ (these : List AggregateCall). length these) is

-- room for a field behind the groups
pub expr_has_room : (stats : StatsField) (writing : Writing) → HasRoom writing (length (nodes_of_stats stats)) → HasRoom writing (length (nodes_of_expr stats.field.expr))
expr_has_room stats writing room =
    let both = length-append (nodes_of_field stats.field) (nodes_of_condition stats.condition) in
    less_room writing (length (nodes_of_stats stats)) (length (nodes_of_expr stats.field.expr)) (omega (arith, both)) room

pub next_has_room : (stats : StatsField) (old made : Writing) → HasRoom old (length (nodes_of_stats stats)) → made ≡ with_patterns stats.field.expr old → made.next < 4294967295
next_has_room stats old made room is =
    let both = length-append (nodes_of_field stats.field) (nodes_of_condition stats.condition) in
    let some = some_node stats.field.expr in
    let next : made.next ≡ old.next = ap (λ (writing : Writing). writing.next) is in
    omega (arith, both, some, next, room.columns)
