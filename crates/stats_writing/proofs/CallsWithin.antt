-- The arguments of the aggregate calls in an expression are parts of it: their nodes are among its own, and so are their regular
-- expressions where it breaks no rule.
use Rattle.std.proofs.Common.{◌≡◌, ◌+◌, ◌≤◌, Bool, true, false, List, [], ◌∷◌, ◌++◌, map, length, All, Option, Some, None, ap, arith}
use Rattle.std.specs.List.{flat_map}
use Rattle.std.proofs.lemmas.List.{length-append}
use Rattle.std.proofs.lemmas.List.Elements.{All-head, All-tail}
use Rattle.esql_types.specs.declared.names.NodeId.{NodeId}
use Rattle.esql_ast.specs.declared.nodes.NodeAt.{NodeAt}
use Rattle.esql_ast.specs.declared.expr.Expr.{Expr}
use Rattle.esql_ast.specs.declared.expr.Form.TheOpen.{Form-F, Constant, List as Listed, Column, Group, Call, Minus, Not, Binary, Within, Like, IsNull, Cast}
use Rattle.esql_ast.specs.declared.expr.Form.{Form}
use Rattle.esql_ast.specs.Nodes.{nodes_in, own_and_inner, nodes_of_expr}
use Rattle.esql_ast.proofs.Folds.{joined_map}
use Rattle.esql_plan.specs.declared.function.AggFunction.{AggFunction}
use Rattle.esql_plan.specs.declared.names.FunctionRow.{FunctionRow}
use Rattle.esql_plan.specs.Names.{function_named, aggregate_named}
use Rattle.query_semantics.specs.Calls.{AggregateCall, Opened, calls_in, calls_in_call, calls_in_form, aggregate_call, opened, calls_of}
use Rattle.query_semantics.proofs.ExprInduction.{AllIn, expr_ind, layer_folded, fold_at}
use Rattle.query_semantics.proofs.CallsOpened.{layer_opened, opened_at, own_is}
use Rattle.stats_writing.specs.CallsSeen.{size_of_call, size_of_calls}

-- sizes ---------------------------------------------------------------------------------------------------------------------

sizes_append : (these those : List AggregateCall) → size_of_calls (these ++ those) ≡ size_of_calls these + size_of_calls those
sizes_append [] those = omega arith
sizes_append (call ∷ these) those = let rest = sizes_append these those in omega (arith, rest)

abbrev IsCovered : Expr → Type 0
IsCovered expr = size_of_calls (calls_of expr) ≤ length (nodes_of_expr expr)

all_covered : (exprs : List Expr) → All IsCovered exprs → size_of_calls (calls_in (map opened exprs)) ≤ length (flat_map nodes_of_expr exprs)
all_covered [] all = omega arith
all_covered (expr ∷ exprs) all =
    let first = All-head IsCovered expr exprs all in
    let rest = all_covered exprs (All-tail IsCovered expr exprs all) in
    omega (arith, first, rest, sizes_append (calls_of expr) (calls_in (map opened exprs)), length-append (nodes_of_expr expr) (flat_map nodes_of_expr exprs))

argument_size : (function : AggFunction) (star : Bool) (exprs : List Expr) (node : NodeId) → size_of_call (aggregate_call function star (map opened exprs) node) ≤ 1 + length (flat_map nodes_of_expr exprs)
argument_size function true exprs node = omega arith
argument_size function false [] node = omega arith
argument_size function false (expr ∷ exprs) node =
    let own = ap (λ (these : Expr). length (nodes_of_expr these)) (own_is expr) in
    omega (arith, own, length-append (nodes_of_expr expr) (flat_map nodes_of_expr exprs))

call_covered : (row : Option FunctionRow) (found : Option AggFunction) (star : Bool) (exprs : List Expr) (node : NodeId) → All IsCovered exprs
    → size_of_calls (calls_in_call row found star (map opened exprs) node) ≤ 1 + length (flat_map nodes_of_expr exprs)
call_covered (Some row) found star exprs node all = let all_are = all_covered exprs all in omega (arith, all_are)
call_covered None (Some function) star exprs node all = let own = argument_size function star exprs node in omega (arith, own)
call_covered None None star exprs node all = let all_are = all_covered exprs all in omega (arith, all_are)

abbrev nodes_layer : Form-F Form Expr → List NodeAt
nodes_layer layer = nodes_in (layer_folded (List NodeAt) (List NodeAt) nodes_in own_and_inner layer)

layer_covered : (node : NodeId) (layer : Form-F Form Expr) → AllIn IsCovered layer → size_of_calls (calls_in_form (layer_opened layer) node) ≤ 1 + length (nodes_layer layer)
layer_covered node (Constant cell kind) all = omega arith
layer_covered node (Listed values) all = omega arith
layer_covered node (Column name) all = omega arith
layer_covered node (Group inner) all = let own : IsCovered inner = all in omega (arith, own)
layer_covered node (Call function args star) all =
    let own = call_covered (function_named function.name) (aggregate_named function.name) star args node all in
    omega (arith, own, ap (λ (nodes : List NodeAt). length nodes) (joined_map nodes_of_expr args))
layer_covered node (Minus arg) all = let own : IsCovered arg = all in omega (arith, own)
layer_covered node (Not arg) all = let own : IsCovered arg = all in omega (arith, own)
layer_covered node (Binary op left right) all =
    let first : IsCovered left = all.0 in
    let second : IsCovered right = all.1 in
    omega (arith, first, second, sizes_append (calls_of left) (calls_of right), length-append (nodes_of_expr left) (nodes_of_expr right))
layer_covered node (Within negated left items) all =
    let first : IsCovered left = all.0 in
    let rest = all_covered items all.1 in
    omega (
      arith,
      first,
      rest,
      sizes_append (calls_of left) (calls_in (map opened items)),
      length-append (nodes_of_expr left) (flat_map (λ (nodes : List NodeAt). nodes) (map nodes_of_expr items)),
      ap (λ (nodes : List NodeAt). length nodes) (joined_map nodes_of_expr items),
    )
layer_covered node (Like negated regex left pattern) all = let own : IsCovered left = all in omega (arith, own)
layer_covered node (IsNull negated arg) all = let own : IsCovered arg = all in omega (arith, own)
layer_covered node (Cast arg kind) all = let own : IsCovered arg = all in omega (arith, own)

-- the calls in an expression, with the nodes of their arguments, are no more than its nodes
pub calls_covered : (expr : Expr) → size_of_calls (calls_of expr) ≤ length (nodes_of_expr expr)
calls_covered = expr_ind IsCovered (λ node span layer all.
    let calls = ap (λ (these : Opened). size_of_calls these.calls) (opened_at node span layer) in
    let nodes = ap (λ (these : List NodeAt). length these) (fold_at (List NodeAt) (List NodeAt) nodes_in own_and_inner node span layer) in
    let own = layer_covered node layer all in
    omega (arith, calls, nodes, own))
