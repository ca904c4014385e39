-- Each node is as often among the functions in an expression at most as among the expression's nodes.
use Rattle.std.proofs.Common.{◌≡◌, ℕ, ◌+◌, ◌≤◌, ◌==◌, Bool, true, false, cond, List, [], ◌∷◌, ◌++◌, map, Option, Some, None, refl, ap, subst, ◌∙◌, arith}
use Rattle.std.specs.Prelude.{if◌then◌else◌}
use Rattle.std.specs.List.{flat_map}
use denote.Hole.Holds.{Such}
use Rattle.esql_types.specs.declared.places.Span.{Span}
use Rattle.esql_types.specs.declared.value.Kind.{Kind}
use Rattle.esql_types.specs.declared.value.Kind.TheVariants as kind
use Rattle.esql_types.specs.declared.value.Value.{Value}
use Rattle.esql_types.specs.declared.names.NodeId.{NodeId}
use Rattle.esql_ast.specs.declared.nodes.NodeAt.{NodeAt}
use Rattle.esql_ast.specs.declared.expr.Expr.{Expr}
use Rattle.esql_ast.specs.declared.expr.Form.{Form}
use Rattle.esql_ast.specs.declared.expr.Form.TheBlock.{the_family, member-Form, member-Expr}
use Rattle.esql_ast.specs.declared.expr.Form.TheOpen.{Expr-F, Form-F, Constant, List as Listed, Column, Group, Call, Minus, Not, Binary, Within, Like, IsNull, Cast}
use Rattle.esql_ast.specs.declared.expr.Form.TheViews.{roll-Form, roll-Expr}
use Rattle.esql_ast.specs.declared.expr.Form.TheFolds.{claims, map-Form, map-Expr, fold-Form, fold-roll-Form, fold-roll-Expr, ind-Expr}
use Rattle.esql_ast.specs.Nodes.{nodes_in, own_and_inner, nodes_of_expr, nodes_of_form}
use Rattle.esql_ast.proofs.Folds.{joined_map}
use Rattle.esql_plan.specs.declared.function.Function.{Function}
use Rattle.esql_plan.specs.declared.function.Function.TheVariants as function
use Rattle.esql_plan.specs.declared.function.AggFunction.{AggFunction}
use Rattle.esql_plan.specs.declared.names.FunctionRow.{FunctionRow}
use Rattle.esql_plan.specs.Names.{function_named, aggregate_named, cast_named}
use Rattle.plan_semantics.specs.Parts.{count_of}
use Rattle.plan_semantics.proofs.Transposed.{count_of-append}
use Rattle.plan_semantics.proofs.OwnNodes.{places}
use Rattle.row_semantics.specs.declared.rule.NameRule.TheVariants as rule
use Rattle.row_semantics.specs.Forms.{Part, Seen, applied, refused, seen, call_by, cast_by, list_in_kind, kind_of_list, constant_in, function_of, like_function, part_of_form, part_of, pattern_part, read_by, arguments_in_plan}
use Rattle.written_laws.proofs.NodesTyped.{spent, nodes_in_parts}

-- how often a node is among places
abbrev pub placed : NodeId → List NodeAt → ℕ
placed node nodes = count_of (λ (one : NodeAt). one.node.0 == node.0) nodes

module _ (node : NodeId) where
  pub placed-append : (xs ys : List NodeAt) → placed node (xs ++ ys) ≡ placed node xs + placed node ys
  placed-append xs ys = count_of-append (λ (one : NodeAt). one.node.0 == node.0) xs ys

  pub places-append : (xs ys : List NodeId) → places node (xs ++ ys) ≡ places node xs + places node ys
  places-append xs ys = count_of-append (λ (one : NodeId). one.0 == node.0) xs ys

  -- one where the node is this, else none
  abbrev pub one_at : NodeId → ℕ
  one_at own = cond {A = ℕ} (own.0 == node.0) 1 0

  in_plan_fewer : (function : Function) (parts : List (Part (List NodeId))) → places node (nodes_in_parts (arguments_in_plan function parts)) ≤ places node (nodes_in_parts parts)
  in_plan_fewer function.MvSort [] = omega arith
  in_plan_fewer function.MvSort (values ∷ rest) =
      omega (arith, places-append values.reading [], places-append values.reading (nodes_in_parts rest))
  in_plan_fewer other parts = omega arith

  -- the node is as often among the nodes of what an expression is seen as
  abbrev SeenCounts : NodeId → Span → ℕ → Seen (List NodeId) → Type 0
  SeenCounts own span inner form = places node (spent own span form) ≤ one_at own + inner

  pub applied_counts : (own : NodeId) (span : Span) (function : Function) (parts : List (Part (List NodeId))) (inner : ℕ) → places node (nodes_in_parts parts) ≤ inner
      → SeenCounts own span inner (applied function parts)
  applied_counts own span function parts inner fewer =
      omega (
        arith,
        fewer,
        in_plan_fewer function parts,
        places-append (nodes_in_parts (arguments_in_plan function parts)) (own ∷ []),
      )

  pub list_counts : (own : NodeId) (span : Span) (inner : ℕ) (values : List Value) (found : Option Kind) → SeenCounts own span inner (list_in_kind values found span)
  list_counts own span inner values (Some kind.Long) = omega arith
  list_counts own span inner values (Some other) = omega arith
  list_counts own span inner values None = omega arith

  pub constant_counts : (own : NodeId) (span : Span) (inner : ℕ) (cell : List Value) → SeenCounts own span inner (constant_in cell span)
  constant_counts own span inner [] = omega arith
  constant_counts own span inner (value ∷ values) = list_counts own span inner (value ∷ values) (kind_of_list (value ∷ values))

  taken_counts : (own : NodeId) (span : Span) (row : FunctionRow) (parts : List (Part (List NodeId))) (inner : ℕ) (taken : Bool) → places node (nodes_in_parts parts) ≤ inner
      → SeenCounts own span inner (cond taken (applied row.function parts) (refused [] rule.BadArguments span))
  taken_counts own span row parts inner true fewer = applied_counts own span row.function parts inner fewer
  taken_counts own span row parts inner false fewer = omega arith

  call_counts : (own : NodeId) (span : Span) (found : Option FunctionRow) (other : Option AggFunction) (name : Span) (star : Bool) (parts : List (Part (List NodeId))) (inner : ℕ)
      → places node (nodes_in_parts parts) ≤ inner → SeenCounts own span inner (call_by found other name star parts span)
  call_counts own span (Some row) other name true parts inner fewer = omega arith
  call_counts own span (Some row) other name false parts inner fewer = taken_counts own span row parts inner _ fewer
  call_counts own span None (Some called) name star parts inner fewer = omega arith
  call_counts own span None None name star parts inner fewer = omega arith

  cast_counts : (own : NodeId) (span : Span) (found : Option Function) (part : Part (List NodeId)) (name : Span) (inner : ℕ) → places node (nodes_in_parts (part ∷ [])) ≤ inner
      → SeenCounts own span inner (cast_by found part name)
  cast_counts own span (Some function) part name inner fewer = applied_counts own span function (part ∷ []) inner fewer
  cast_counts own span None part name inner fewer = omega arith

  -- expressions -------------------------------------------------------------------------------------------------------------

  abbrev in_form : Form → NodeId → Span → Part (List NodeId)
  in_form = fold-Form (NodeId → Span → Part (List NodeId)) (Part (List NodeId)) (part_of_form spent) (λ e. e.form e.node e.span)

  abbrev ExprCounts : Expr → Type 0
  ExprCounts expr = places node (part_of spent expr).reading ≤ placed node (nodes_of_expr expr)

  abbrev FormCounts : Form → Type 0
  FormCounts form = (own : NodeId) (span : Span) → places node (in_form form own span).reading ≤ one_at own + placed node (nodes_of_form form)

  abbrev GoodForm : Type 0
  GoodForm = Such the_family (claims FormCounts ExprCounts) member-Form

  abbrev GoodExpr : Type 0
  GoodExpr = Such the_family (claims FormCounts ExprCounts) member-Expr

  abbrev the_expr : GoodExpr → Expr
  the_expr good = good.0

  abbrev the_form : GoodForm → Form
  the_form good = good.0

  abbrev layer_of : Form-F GoodForm GoodExpr → Form-F Form Expr
  layer_of = map-Form GoodForm GoodExpr Form Expr the_form the_expr

  abbrev layer_in : Form-F Form Expr → Form-F (NodeId → Span → Part (List NodeId)) (Part (List NodeId))
  layer_in = map-Form Form Expr (NodeId → Span → Part (List NodeId)) (Part (List NodeId)) in_form (part_of spent)

  all_count : (goods : List GoodExpr) → places node (nodes_in_parts (map (part_of spent) (map the_expr goods))) ≤ placed node (flat_map nodes_of_expr (map the_expr goods))
  all_count [] = omega arith
  all_count (good ∷ goods) =
      let rest : List Expr = map the_expr goods in
      omega (
        arith,
        good.1,
        all_count goods,
        places-append (part_of spent good.0).reading (nodes_in_parts (map (part_of spent) rest)),
        placed-append (nodes_of_expr good.0) (flat_map nodes_of_expr rest),
      )

  one_counts : (good : GoodExpr) → places node (nodes_in_parts (part_of spent good.0 ∷ [])) ≤ placed node (nodes_of_expr good.0)
  one_counts good = omega (arith, good.1, places-append (part_of spent good.0).reading [])

  -- a layer of a form, with the nodes that it comes to, and what it is seen as
  carried : (layer : Form-F Form Expr) (nodes : List NodeAt)
      → nodes_in (map-Form Form Expr (List NodeAt) (List NodeAt) nodes_of_form nodes_of_expr layer) ≡ nodes
      → ((own : NodeId) (span : Span) → SeenCounts own span (placed node nodes) (seen spent own span (layer_in layer)))
      → FormCounts (roll-Form layer)
  carried layer nodes are counts own span =
      let right : placed node (nodes_of_form (roll-Form layer)) ≡ placed node nodes = ap (placed node) (fold-roll-Form (List NodeAt) (List NodeAt) nodes_in own_and_inner layer ∙ are) in
      let left : places node (in_form (roll-Form layer) own span).reading ≡ places node (spent own span (seen spent own span (layer_in layer))) =
      ap (λ f. places node (f own span).reading) (fold-roll-Form (NodeId → Span → Part (List NodeId)) (Part (List NodeId)) (part_of_form spent) (λ e. e.form e.node e.span) layer) in
      omega (arith, left, right, counts own span)

  form_counts : (layer : Form-F GoodForm GoodExpr) → FormCounts (roll-Form (layer_of layer))
  form_counts (Constant cell kind) = carried (layer_of (Constant cell kind)) [] refl (λ own span. constant_counts own span 0 cell)
  form_counts (Listed values) = carried (layer_of (Listed values)) [] refl (λ own span. list_counts own span 0 values (kind_of_list values))
  form_counts (Column name) = carried (layer_of (Column name)) [] refl (λ own span. omega arith)
  form_counts (Group inner) = carried (layer_of (Group inner)) (nodes_of_expr inner.0) refl (λ own span. omega (arith, inner.1))
  form_counts (Call called args star) =
      let exprs : List Expr = map the_expr args in
      carried (layer_of (Call called args star)) (flat_map nodes_of_expr exprs) (joined_map nodes_of_expr exprs)
      (λ own span. call_counts own span (function_named called.name) (aggregate_named called.name) called.span star (map (part_of spent) exprs) (placed node (flat_map nodes_of_expr exprs)) (all_count args))
  form_counts (Minus arg) =
      carried (layer_of (Minus arg)) (nodes_of_expr arg.0) refl (λ own span. applied_counts own span function.Neg (part_of spent arg.0 ∷ []) (placed node (nodes_of_expr arg.0)) (one_counts arg))
  form_counts (Not arg) =
      carried (layer_of (Not arg)) (nodes_of_expr arg.0) refl (λ own span. applied_counts own span function.Not (part_of spent arg.0 ∷ []) (placed node (nodes_of_expr arg.0)) (one_counts arg))
  form_counts (Binary op left right) =
      carried (layer_of (Binary op left right)) (nodes_of_expr left.0 ++ nodes_of_expr right.0) refl
      (λ own span. applied_counts own span (function_of op) (part_of spent left.0 ∷ part_of spent right.0 ∷ []) (placed node (nodes_of_expr left.0 ++ nodes_of_expr right.0))
      (omega (
        arith,
        left.1,
        one_counts right,
        places-append (part_of spent left.0).reading (nodes_in_parts (part_of spent right.0 ∷ [])),
        placed-append (nodes_of_expr left.0) (nodes_of_expr right.0),
      )))
  form_counts (Within negated left items) =
      let exprs : List Expr = map the_expr items in
      carried (layer_of (Within negated left items)) (nodes_of_expr left.0 ++ flat_map nodes_of_expr exprs)
      (ap (λ (nodes : List NodeAt). nodes_of_expr left.0 ++ nodes) (joined_map nodes_of_expr exprs))
      (λ own span. applied_counts own span (if negated then function.NotIn else function.In) (part_of spent left.0 ∷ map (part_of spent) exprs)
      (placed node (nodes_of_expr left.0 ++ flat_map nodes_of_expr exprs))
      (omega (
        arith,
        left.1,
        all_count items,
        places-append (part_of spent left.0).reading (nodes_in_parts (map (part_of spent) exprs)),
        placed-append (nodes_of_expr left.0) (flat_map nodes_of_expr exprs),
      )))
  form_counts (Like negated regex left pattern) =
      carried (layer_of (Like negated regex left pattern)) (nodes_of_expr left.0) refl
      (λ own span. applied_counts own span (like_function negated regex) (part_of spent left.0 ∷ pattern_part spent own pattern ∷ []) (placed node (nodes_of_expr left.0))
      (omega (arith, left.1, places-append (part_of spent left.0).reading [])))
  form_counts (IsNull negated arg) =
      carried (layer_of (IsNull negated arg)) (nodes_of_expr arg.0) refl
      (λ own span. applied_counts own span (if negated then function.IsNotNull else function.IsNull) (part_of spent arg.0 ∷ []) (placed node (nodes_of_expr arg.0)) (one_counts arg))
  form_counts (Cast arg kind) =
      carried (layer_of (Cast arg kind)) (nodes_of_expr arg.0) refl
      (λ own span. cast_counts own span (cast_named kind.name) (part_of spent arg.0) kind.span (placed node (nodes_of_expr arg.0)) (one_counts arg))

  own_counts : (own : Expr-F Form Expr) → FormCounts own.form → ExprCounts (roll-Expr own)
  own_counts own form =
      let right : placed node (nodes_of_expr (roll-Expr own)) ≡ one_at own.node + placed node (nodes_of_form own.form) = ap (placed node) (fold-roll-Expr (List NodeAt) (List NodeAt) nodes_in own_and_inner own) in
      let left : places node (part_of spent (roll-Expr own)).reading ≡ places node (in_form own.form own.node own.span).reading =
      ap (λ (part : Part (List NodeId)). places node part.reading) (fold-roll-Expr (NodeId → Span → Part (List NodeId)) (Part (List NodeId)) (part_of_form spent) (λ e. e.form e.node e.span) own) in
      omega (arith, left, right, form own.node own.span)

  pub expr_counts : (expr : Expr) → places node (read_by spent expr) ≤ placed node (nodes_of_expr expr)
  expr_counts =
      ind-Expr FormCounts ExprCounts (λ layer goods is. let P : Form-F Form Expr → Type 0 = λ these. FormCounts (roll-Form these) in subst P is (form_counts goods))
      (λ own good is. let P : Expr-F Form Expr → Type 0 = λ this. ExprCounts (roll-Expr this) in subst P is (own_counts (map-Expr GoodForm GoodExpr Form Expr the_form the_expr good) good.form.1))
