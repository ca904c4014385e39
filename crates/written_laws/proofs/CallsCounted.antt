-- Each node is as often among the functions of a field outside its aggregate calls, and among these with their arguments, together at
-- most as among the nodes of the field's expression.
use Rattle.std.proofs.Common.{◌≡◌, ℕ, ◌+◌, ◌≤◌, Bool, true, false, cond, List, [], ◌∷◌, ◌++◌, map, All, Option, Some, None, ap, if◌then◌else◌, arith}
use Rattle.std.specs.List.{flat_map}
use Rattle.std.proofs.lemmas.List.Elements.{All-cons, All-head, All-tail}
use Rattle.esql_types.specs.declared.places.Span.{Span}
use Rattle.esql_types.specs.declared.names.NodeId.{NodeId}
use Rattle.esql_ast.specs.declared.nodes.NodeAt.{NodeAt}
use Rattle.esql_ast.specs.declared.expr.Expr.{Expr}
use Rattle.esql_ast.specs.declared.expr.Form.{Form}
use Rattle.esql_ast.specs.declared.expr.Form.TheOpen.{Form-F, Constant, List as Listed, Column, Group, Call, Minus, Not, Binary, Within, Like, IsNull, Cast}
use Rattle.esql_ast.specs.Nodes.{nodes_in, own_and_inner, nodes_of_expr}
use Rattle.esql_ast.proofs.Folds.{joined_map}
use Rattle.esql_plan.specs.declared.function.Function.{Function}
use Rattle.esql_plan.specs.declared.function.Function.TheVariants as function
use Rattle.esql_plan.specs.declared.function.AggFunction.{AggFunction}
use Rattle.esql_plan.specs.declared.names.FunctionRow.{FunctionRow}
use Rattle.esql_plan.specs.Names.{function_named, aggregate_named, cast_named}
use Rattle.plan_semantics.proofs.OwnNodes.{places}
use Rattle.row_semantics.specs.declared.rule.NameRule.TheVariants as rule
use Rattle.row_semantics.specs.Forms.{Part, applied, refused, function_of, like_function, seen, call_by, cast_by, kind_of_list, pattern_part, part_of_form, part_of, read_by}
use Rattle.query_semantics.specs.Calls.{AggregateCall, Opened, calls_in, aggregate_call, calls_in_call, calls_in_form, opened, calls_of}
use Rattle.query_semantics.proofs.ExprInduction.{AllIn, expr_ind, layer_folded, fold_at}
use Rattle.query_semantics.proofs.CallsOpened.{layer_opened, opened_at, own_is}
use Rattle.written_laws.proofs.NodesTyped.{spent, nodes_in_parts}
use Rattle.written_laws.proofs.NodesCounted.{placed, placed-append, places-append, one_at, applied_counts, list_counts, constant_counts}

module _ (node : NodeId) where
  -- how often the node is among aggregate calls with their arguments
  abbrev pub in_argument : Option Expr → ℕ
  in_argument None = 0
  in_argument (Some argument) = placed node (nodes_of_expr argument)

  abbrev pub in_call : AggregateCall → ℕ
  in_call call = one_at node call.node + in_argument call.argument

  abbrev pub in_calls : List AggregateCall → ℕ
  in_calls [] = 0
  in_calls (call ∷ calls) = in_call call + in_calls calls

  pub calls-append : (these those : List AggregateCall) → in_calls (these ++ those) ≡ in_calls these + in_calls those
  calls-append [] those = omega arith
  calls-append (call ∷ these) those = omega (arith, calls-append these those)

  abbrev nodes_layer : Form-F Form Expr → Form-F (List NodeAt) (List NodeAt)
  nodes_layer = layer_folded (List NodeAt) (List NodeAt) nodes_in own_and_inner

  abbrev parts_layer : Form-F Form Expr → Form-F (NodeId → Span → Part (List NodeId)) (Part (List NodeId))
  parts_layer = layer_folded (NodeId → Span → Part (List NodeId)) (Part (List NodeId)) (part_of_form spent) (λ e. e.form e.node e.span)

  -- parts ---------------------------------------------------------------------------------------------------------------------

  abbrev ExprCounts : Expr → Type 0
  ExprCounts expr = places node (read_by spent expr) + in_calls (calls_of expr) ≤ placed node (nodes_of_expr expr)

  exprs_count : (exprs : List Expr) → All ExprCounts exprs
      → places node (nodes_in_parts (map (part_of spent) exprs)) + in_calls (calls_in (map opened exprs)) ≤ placed node (flat_map nodes_of_expr exprs)
  exprs_count [] all = omega arith
  exprs_count (expr ∷ exprs) all =
      omega (
        arith,
        All-head ExprCounts expr exprs all,
        exprs_count exprs (All-tail ExprCounts expr exprs all),
        places-append node (read_by spent expr) (nodes_in_parts (map (part_of spent) exprs)),
        calls-append (calls_of expr) (calls_in (map opened exprs)),
        placed-append node (nodes_of_expr expr) (flat_map nodes_of_expr exprs),
      )

  -- a function of parts, with the calls in these
  function_counts : (own : NodeId) (span : Span) (function : Function) (parts : List (Part (List NodeId))) (calls inner : ℕ) → places node (nodes_in_parts parts) + calls ≤ inner
      → places node (spent own span (applied function parts)) + calls ≤ one_at node own + inner
  function_counts own span function parts calls inner fewer =
      omega (arith, fewer, applied_counts node own span function parts (places node (nodes_in_parts parts)) (omega arith))

  one_counts : (own : NodeId) (span : Span) (function : Function) (arg : Expr) → ExprCounts arg
      → places node (spent own span (applied function (part_of spent arg ∷ []))) + in_calls (calls_of arg) ≤ one_at node own + placed node (nodes_of_expr arg)
  one_counts own span function arg counts =
      function_counts own span function (part_of spent arg ∷ []) (in_calls (calls_of arg)) (placed node (nodes_of_expr arg)) (omega (arith, counts, places-append node (read_by spent arg) []))

  -- calls ---------------------------------------------------------------------------------------------------------------------

  aggregate_counts : (own : NodeId) (function : AggFunction) (star : Bool) (args : List Expr)
      → in_call (aggregate_call function star (map opened args) own) ≤ one_at node own + placed node (flat_map nodes_of_expr args)
  aggregate_counts own function true args = omega arith
  aggregate_counts own function false [] = omega arith
  aggregate_counts own function false (arg ∷ args) =
      omega (arith, ap (λ (these : Expr). placed node (nodes_of_expr these)) (own_is arg), placed-append node (nodes_of_expr arg) (flat_map nodes_of_expr args))

  taken_counts : (own : NodeId) (span : Span) (row : FunctionRow) (parts : List (Part (List NodeId))) (calls inner : ℕ) (taken : Bool) → places node (nodes_in_parts parts) + calls ≤ inner
      → places node (spent own span (cond taken (applied row.function parts) (refused [] rule.BadArguments span))) + calls ≤ one_at node own + inner
  taken_counts own span row parts calls inner true fewer = function_counts own span row.function parts calls inner fewer
  taken_counts own span row parts calls inner false fewer = omega (arith, fewer)

  call_counts : (row : Option FunctionRow) (found : Option AggFunction) (name : Span) (star : Bool) (own : NodeId) (span : Span) (args : List Expr) → All ExprCounts args
      → places node (spent own span (call_by row found name star (map (part_of spent) args) span)) + in_calls (calls_in_call row found star (map opened args) own)
      ≤ one_at node own + placed node (flat_map nodes_of_expr args)
  call_counts (Some row) found name true own span args all = omega (arith, exprs_count args all)
  call_counts (Some row) found name false own span args all = taken_counts own span row (map (part_of spent) args) _ _ _ (exprs_count args all)
  call_counts None (Some function) name star own span args all = omega (arith, aggregate_counts own function star args)
  call_counts None None name star own span args all = omega (arith, exprs_count args all)

  cast_counts : (own : NodeId) (span : Span) (found : Option Function) (arg : Expr) (name : Span) → ExprCounts arg
      → places node (spent own span (cast_by found (part_of spent arg) name)) + in_calls (calls_of arg) ≤ one_at node own + placed node (nodes_of_expr arg)
  cast_counts own span (Some function) arg name counts = one_counts own span function arg counts
  cast_counts own span None arg name counts = omega (arith, counts)

  -- expressions ---------------------------------------------------------------------------------------------------------------

  layer_counts : (own : NodeId) (span : Span) (layer : Form-F Form Expr) → AllIn ExprCounts layer
      → places node (spent own span (seen spent own span (parts_layer layer))) + in_calls (calls_in_form (layer_opened layer) own) ≤ one_at node own + placed node (nodes_in (nodes_layer layer))
  layer_counts own span (Constant cell kind) all = omega (arith, constant_counts node own span 0 cell)
  layer_counts own span (Listed values) all = omega (arith, list_counts node own span 0 values (kind_of_list values))
  layer_counts own span (Column name) all = omega arith
  layer_counts own span (Group inner) all = omega (arith, all)
  layer_counts own span (Call called args star) all =
      omega (
        arith,
        call_counts (function_named called.name) (aggregate_named called.name) called.span star own span args all,
        ap (placed node) (joined_map nodes_of_expr args),
      )
  layer_counts own span (Minus arg) all = one_counts own span function.Neg arg all
  layer_counts own span (Not arg) all = one_counts own span function.Not arg all
  layer_counts own span (Binary op left right) all =
      function_counts own span (function_of op) (part_of spent left ∷ part_of spent right ∷ []) (in_calls (calls_of left ++ calls_of right)) (placed node (nodes_of_expr left ++ nodes_of_expr right))
      (omega (
        arith,
        all.0,
        all.1,
        places-append node (read_by spent left) (nodes_in_parts (part_of spent right ∷ [])),
        places-append node (read_by spent right) [],
        calls-append (calls_of left) (calls_of right),
        placed-append node (nodes_of_expr left) (nodes_of_expr right),
      ))
  layer_counts own span (Within negated left items) all =
      let these : List Expr = left ∷ items in
      omega (
        arith,
        function_counts own span (if negated then function.NotIn else function.In) (map (part_of spent) these) (in_calls (calls_in (map opened these))) (placed node (flat_map nodes_of_expr these))
            (exprs_count these (All-cons ExprCounts left items all.0 all.1)),
        ap (λ (nodes : List NodeAt). placed node (nodes_of_expr left ++ nodes)) (joined_map nodes_of_expr items),
      )
  layer_counts own span (Like negated regex left pattern) all =
      function_counts own span (like_function negated regex) (part_of spent left ∷ pattern_part spent own pattern ∷ []) (in_calls (calls_of left)) (placed node (nodes_of_expr left))
      (omega (arith, all, places-append node (read_by spent left) []))
  layer_counts own span (IsNull negated arg) all = one_counts own span (if negated then function.IsNotNull else function.IsNull) arg all
  layer_counts own span (Cast arg kind) all = cast_counts own span (cast_named kind.name) arg kind.span all

  -- the nodes of the functions outside the calls, and those of the calls with their arguments, are nodes of the field
  pub field_counts : (expr : Expr) → places node (read_by spent expr) + in_calls (calls_of expr) ≤ placed node (nodes_of_expr expr)
  field_counts = expr_ind ExprCounts (λ own span layer all.
      omega (
        arith,
        layer_counts own span layer all,
        ap (λ (part : Part (List NodeId)). places node part.reading) (fold_at (NodeId → Span → Part (List NodeId)) (Part (List NodeId)) (part_of_form spent) (λ e. e.form e.node e.span) own span layer),
        ap (λ (these : Opened). in_calls these.calls) (opened_at own span layer),
        ap (placed node) (fold_at (List NodeAt) (List NodeAt) nodes_in own_and_inner own span layer),
      ))
