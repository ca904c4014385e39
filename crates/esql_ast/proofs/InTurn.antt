-- An expression's numbering numbers its nodes in turn.
use Rattle.std.proofs.Common.{◌≡◌, ℕ, ◌+◌, List, [], ◌∷◌, ◌++◌, map, length, All, refl, sym, ap, subst, ◌∙◌, arith}
use Rattle.std.specs.List.{flat_map}
use Rattle.std.proofs.lemmas.List.Elements.{All-nil, All-cons}
use Rattle.std.proofs.lemmas.List.{length-append}
use denote.Hole.Holds.{Such}
use Rattle.esql_ast.specs.declared.nodes.NodeAt.{NodeAt}
use Rattle.esql_ast.specs.declared.expr.Expr.{Expr}
use Rattle.esql_ast.specs.declared.expr.Form.{Form}
use Rattle.esql_ast.specs.declared.expr.Form.TheBlock.{the_family, member-Form, member-Expr}
use Rattle.esql_ast.specs.declared.expr.Form.TheOpen.{Expr-F, Form-F, Constant, List as Listed, Column, Group, Call, Minus, Not, Binary, Within, Like, IsNull, Cast}
use Rattle.esql_ast.specs.declared.expr.Form.TheViews.{roll-Form, roll-Expr}
use Rattle.esql_ast.specs.declared.expr.Form.TheFolds.{claims, map-Form, map-Expr, fold-roll-Form, fold-roll-Expr, ind-Expr}
use Rattle.esql_ast.specs.Nodes.{nodes_in, own_and_inner, nodes_of_expr, nodes_of_form}
use Rattle.esql_ast.specs.Numbering.{Numbering, node_id, numbered_all, numbering_in, own_before_inner, numbering_of, numbering_of_form, numbered, numbered_form, size_of}
use Rattle.esql_ast.proofs.Folds.{joined_map, constant_nodes, list_nodes, column_nodes, group_nodes, call_nodes, minus_nodes, not_nodes, binary_nodes, within_nodes, like_nodes, is_null_nodes, cast_nodes}
use Rattle.esql_ast.proofs.Renumbered.{IsInTurn, renumbered, joined_in_turn, all_size, all_at}

abbrev pub ExprInTurn : Expr → Type 0
ExprInTurn expr = IsInTurn nodes_of_expr expr (numbering_of expr)

abbrev pub FormInTurn : Form → Type 0
FormInTurn form = IsInTurn nodes_of_form form (numbering_of_form form)

-- a form and an expression that are numbered in turn
abbrev GoodForm : Type 0
GoodForm = Such the_family (claims FormInTurn ExprInTurn) member-Form

abbrev GoodExpr : Type 0
GoodExpr = Such the_family (claims FormInTurn ExprInTurn) member-Expr

abbrev the_expr : GoodExpr → Expr
the_expr good = good.0

abbrev the_form : GoodForm → Form
the_form good = good.0

abbrev layer_of : Form-F GoodForm GoodExpr → Form-F Form Expr
layer_of = map-Form GoodForm GoodExpr Form Expr the_form the_expr

all_good : (goods : List GoodExpr) → All ExprInTurn (map the_expr goods)
all_good [] = All-nil ExprInTurn
all_good (good ∷ goods) = All-cons ExprInTurn (the_expr good) (map the_expr goods) good.1 (all_good goods)

-- a layer of a form, with the nodes and the numbering that it comes to
carried : (layer : Form-F Form Expr) (places : List NodeAt)
    → nodes_in (map-Form Form Expr (List NodeAt) (List NodeAt) nodes_of_form nodes_of_expr layer) ≡ places
    → (numbering_in (map-Form Form Expr (Numbering Form) (Numbering Expr) numbering_of_form numbering_of layer)).size ≡ length places
    → ((node : ℕ) → nodes_of_form ((numbering_in (map-Form Form Expr (Numbering Form) (Numbering Expr) numbering_of_form numbering_of layer)).at node) ≡ renumbered node places)
    → FormInTurn (roll-Form layer)
carried layer places are size at =
    let numbering = fold-roll-Form (Numbering Form) (Numbering Expr) numbering_in own_before_inner layer in
    let nodes = fold-roll-Form (List NodeAt) (List NodeAt) nodes_in own_and_inner layer ∙ are in
    record {
      size = ap (λ (n : Numbering Form). n.size) numbering ∙ size ∙ ap (λ (these : List NodeAt). length these) (sym nodes);
      at = λ node. ap (λ (n : Numbering Form). nodes_of_form (n.at node)) numbering ∙ at node ∙ ap (λ (these : List NodeAt). renumbered node these) (sym nodes);
    }

form_in_turn : (layer : Form-F GoodForm GoodExpr) → FormInTurn (roll-Form (layer_of layer))
form_in_turn (Constant cell kind) = carried (Constant cell kind) [] refl refl (λ node. constant_nodes cell kind)
form_in_turn (Listed values) = carried (Listed values) [] refl refl (λ node. list_nodes values)
form_in_turn (Column name) = carried (Column name) [] refl refl (λ node. column_nodes name)
form_in_turn (Group inner) = carried (layer_of (Group inner)) (nodes_of_expr inner.0) refl inner.1.size (λ node. group_nodes (numbered inner.0 node) ∙ inner.1.at node)
form_in_turn (Call function args star) =
    let exprs : List Expr = map the_expr args in
    carried (layer_of (Call function args star)) (flat_map nodes_of_expr exprs) (joined_map nodes_of_expr exprs) (all_size nodes_of_expr numbering_of exprs (all_good args))
    (λ node. call_nodes function (numbered_all (map numbering_of exprs) node) star ∙ all_at nodes_of_expr numbering_of exprs (all_good args) node)
form_in_turn (Minus arg) = carried (layer_of (Minus arg)) (nodes_of_expr arg.0) refl arg.1.size (λ node. minus_nodes (numbered arg.0 node) ∙ arg.1.at node)
form_in_turn (Not arg) = carried (layer_of (Not arg)) (nodes_of_expr arg.0) refl arg.1.size (λ node. not_nodes (numbered arg.0 node) ∙ arg.1.at node)
form_in_turn (Binary op left right) =
    carried (layer_of (Binary op left right)) (nodes_of_expr left.0 ++ nodes_of_expr right.0) refl
    (omega (arith, left.1.size, right.1.size, length-append (nodes_of_expr left.0) (nodes_of_expr right.0)))
    (λ node. binary_nodes op (numbered left.0 node) (numbered right.0 (node + size_of left.0))
    ∙ joined_in_turn node (node + size_of left.0) (nodes_of_expr left.0) (nodes_of_expr right.0) _ _ (ap (λ (n : ℕ). node + n) left.1.size) (left.1.at node) (right.1.at (node + size_of left.0)))
form_in_turn (Within negated left items) =
    let exprs : List Expr = map the_expr items in
    carried (layer_of (Within negated left items)) (nodes_of_expr left.0 ++ flat_map nodes_of_expr exprs)
    (ap (λ (places : List NodeAt). nodes_of_expr left.0 ++ places) (joined_map nodes_of_expr exprs))
    (omega (arith, left.1.size, all_size nodes_of_expr numbering_of exprs (all_good items), length-append (nodes_of_expr left.0) (flat_map nodes_of_expr exprs)))
    (λ node. within_nodes negated (numbered left.0 node) (numbered_all (map numbering_of exprs) (node + size_of left.0))
    ∙ joined_in_turn node (node + size_of left.0) (nodes_of_expr left.0) (flat_map nodes_of_expr exprs) _ _ (ap (λ (n : ℕ). node + n) left.1.size) (left.1.at node)
    (all_at nodes_of_expr numbering_of exprs (all_good items) (node + size_of left.0)))
form_in_turn (Like negated regex left pattern) =
    carried (layer_of (Like negated regex left pattern)) (nodes_of_expr left.0) refl left.1.size (λ node. like_nodes negated regex (numbered left.0 node) pattern ∙ left.1.at node)
form_in_turn (IsNull negated arg) =
    carried (layer_of (IsNull negated arg)) (nodes_of_expr arg.0) refl arg.1.size (λ node. is_null_nodes negated (numbered arg.0 node) ∙ arg.1.at node)
form_in_turn (Cast arg kind) = carried (layer_of (Cast arg kind)) (nodes_of_expr arg.0) refl arg.1.size (λ node. cast_nodes (numbered arg.0 node) kind ∙ arg.1.at node)

-- an expression's own node, then its form's
expr_in_turn : (own : Expr-F Form Expr) → FormInTurn own.form → ExprInTurn (roll-Expr own)
expr_in_turn own form =
    let numbering = fold-roll-Expr (Numbering Form) (Numbering Expr) numbering_in own_before_inner own in
    let nodes = fold-roll-Expr (List NodeAt) (List NodeAt) nodes_in own_and_inner own in
    let count : 1 + length (nodes_of_form own.form) ≡ length (record { node = own.node; span = own.span } ∷ nodes_of_form own.form) = omega arith in
    record {
      size = ap (λ (n : Numbering Expr). n.size) numbering ∙ ap (λ (n : ℕ). 1 + n) form.size ∙ count ∙ ap (λ (these : List NodeAt). length these) (sym nodes);
      at = λ node.
          ap (λ (n : Numbering Expr). nodes_of_expr (n.at node)) numbering
          ∙ fold-roll-Expr (List NodeAt) (List NodeAt) nodes_in own_and_inner (record { node = node_id node; span = own.span; form = numbered_form own.form (node + 1) })
          ∙ ap (λ (these : List NodeAt). record { node = node_id node; span = own.span } ∷ these) (form.at (node + 1))
          ∙ ap (λ (these : List NodeAt). renumbered node these) (sym nodes);
    }

pub in_turn : (expr : Expr) → ExprInTurn expr
in_turn =
    ind-Expr FormInTurn ExprInTurn (λ layer goods is. let P : Form-F Form Expr → Type 0 = λ these. FormInTurn (roll-Form these) in subst P is (form_in_turn goods))
    (λ own good is. let P : Expr-F Form Expr → Type 0 = λ this. ExprInTurn (roll-Expr this) in subst P is (expr_in_turn (map-Expr GoodForm GoodExpr Form Expr the_form the_expr good) good.form.1))
