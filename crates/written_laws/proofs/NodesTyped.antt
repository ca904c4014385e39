-- The nodes of the typed form of an expression are those of the functions in the expression.
use Rattle.std.proofs.Common.{◌≡◌, ℕ, ◌+◌, List, [], ◌∷◌, ◌++◌, length, Option, Some, None, refl, ap, sym, ◌∙◌}
use Rattle.std.specs.List.{flat_map}
use Rattle.esql_types.specs.declared.places.Span.{Span}
use Rattle.esql_types.specs.declared.names.NodeId.{NodeId}
use Rattle.esql_types.specs.declared.value.Kind.{Kind}
use Rattle.esql_ast.specs.declared.expr.Expr.{Expr}
use Rattle.esql_plan.specs.declared.function.Function.{Function}
use Rattle.esql_plan.specs.declared.plan.OutColumn.{OutColumn}
use Rattle.esql_plan.specs.declared.typed.TypedExpr.{TypedExpr}
use Rattle.plan_semantics.specs.WellFormed.{nodes_of}
use Rattle.plan_semantics.proofs.PartedFolds.{nodes_of_constant, nodes_of_column, nodes_of_call}
use Rattle.row_semantics.specs.Forms.{Part, Seen, constant, named, same, applied, aggregate, refused, Reader, read_by, function_in_plan, arguments_in_plan}
use Rattle.row_semantics.specs.declared.call.CallColumn.{CallColumn}
use Rattle.row_semantics.specs.Typed.{Visible, Typing, visible_named, call_at, typed_null, typed_column, typed_call, kind_of_called, typed_parts, typing, typed_of}
use Rattle.query_semantics.proofs.Readings.{part_with, parts_with, seen_with, read_made}
use Rattle.query_semantics.proofs.Valued.{arguments_with}

-- the nodes of parts, one part after another
abbrev pub nodes_in_parts : List (Part (List NodeId)) → List NodeId
nodes_in_parts parts = flat_map (λ (part : Part (List NodeId)). part.reading) parts

-- the nodes of the functions in an expression, those of the arguments first
abbrev pub spent : Reader (List NodeId)
spent node span (constant values kind) = []
spent node span (named name) = []
spent node span (same part) = part.reading
spent node span (applied function parts) = nodes_in_parts (arguments_in_plan function parts) ++ node ∷ []
spent node span (aggregate function star parts) = []
spent node span (refused parts rule at) = []

record Both : Type 0 where
  typing : Typing
  nodes : List NodeId
  is : (visible : Visible) (whole free : ℕ) → nodes_of (typing.at visible whole free) ≡ nodes

abbrev typing_in : Both → Typing
typing_in both = both.typing

abbrev nodes_in : Both → List NodeId
nodes_in both = both.nodes

column_nodes : (node : NodeId) (found : Option OutColumn) → nodes_of (typed_column node found) ≡ []
column_nodes node None = nodes_of_constant (typed_null node) [] refl
column_nodes node (Some column) = nodes_of_column (typed_column node (Some column)) column.id refl

call_nodes : (node : NodeId) (kind : Kind) (found : Option CallColumn) → nodes_of (typed_call node kind found) ≡ []
call_nodes node kind None = nodes_of_constant (typed_call node kind None) [] refl
call_nodes node kind (Some call) = nodes_of_column (typed_call node kind (Some call)) call.id refl

parts_nodes : (parts : List (Part Both)) (visible : Visible) (whole free : ℕ)
    → flat_map nodes_of (typed_parts (parts_with typing_in parts) visible whole free) ≡ nodes_in_parts (parts_with nodes_in parts)
parts_nodes [] visible whole free = refl
parts_nodes (part ∷ parts) visible whole free =
    λ i. part.reading.is visible whole free i ++ parts_nodes parts visible (whole + length part.reading.typing.whole) (free + length part.reading.typing.free) i

applied_nodes : (node : NodeId) (span : Span) (function : Function) (parts : List (Part Both)) (visible : Visible) (whole free : ℕ)
    → nodes_of ((typing node span (applied function (parts_with typing_in parts))).at visible whole free) ≡ spent node span (applied function (parts_with nodes_in parts))
applied_nodes node span function parts visible whole free =
    let expr : TypedExpr = (typing node span (applied function (parts_with typing_in parts))).at visible whole free in
    let args : List (Part Typing) = arguments_in_plan function (parts_with typing_in parts) in
    nodes_of_call expr (function_in_plan function (parts_with typing_in parts)) (typed_parts args visible whole free) _ refl
    ∙ (λ i. flat_map nodes_of (typed_parts (arguments_with (part_with typing_in) function parts i) visible whole free) ++ node ∷ [])
    ∙ ap (λ (nodes : List NodeId). nodes ++ node ∷ []) (parts_nodes (arguments_in_plan function parts) visible whole free)
    ∙ (λ i. nodes_in_parts (sym (arguments_with (part_with nodes_in) function parts) i) ++ node ∷ [])

both_is : (node : NodeId) (span : Span) (seen : Seen Both) (visible : Visible) (whole free : ℕ)
    → nodes_of ((typing node span (seen_with typing_in seen)).at visible whole free) ≡ spent node span (seen_with nodes_in seen)
both_is node span (constant values kind) visible whole free = nodes_of_constant _ values refl
both_is node span (named name) visible whole free = column_nodes node (visible_named visible.columns name)
both_is node span (same part) visible whole free = part.reading.is visible whole free
both_is node span (applied function parts) visible whole free = applied_nodes node span function parts visible whole free
both_is node span (aggregate function star parts) visible whole free = call_nodes node (kind_of_called function star (parts_with typing_in parts) visible) (call_at visible.calls node)
both_is node span (refused parts rule at) visible whole free = nodes_of_constant (typed_null node) [] refl

abbrev both : Reader Both
both node span seen = record {
  typing = typing node span (seen_with typing_in seen);
  nodes = spent node span (seen_with nodes_in seen);
  is = both_is node span seen;
}

pub typed_nodes : (expr : Expr) (visible : Visible) (whole free : ℕ) → nodes_of (typed_of expr visible whole free) ≡ read_by spent expr
typed_nodes expr visible whole free =
    ap (λ (these : Typing). nodes_of (these.at visible whole free)) (read_made Both Typing both typing typing_in (record { is = λ node span seen. refl }) expr)
    ∙ (read_by both expr).is visible whole free
    ∙ sym (read_made Both (List NodeId) both spent nodes_in (record { is = λ node span seen. refl }) expr)
