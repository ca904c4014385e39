-- Induction on written expressions, and folds over them, by one layer of the form.
use Rattle.std.proofs.Common.{◌≡◌, List, [], ◌∷◌, map, All, ap, subst, ◌∙◌}
use Rattle.std.proofs.lemmas.List.Elements.{All-nil, All-cons}
use denote.Hole.Holds.{Such}
use Rattle.esql_types.specs.declared.places.Span.{Span}
use Rattle.esql_types.specs.declared.names.NodeId.{NodeId}
use Rattle.esql_ast.specs.declared.expr.Expr.{Expr}
use Rattle.esql_ast.specs.declared.expr.Form.{Form}
use Rattle.esql_ast.specs.declared.expr.Form.TheBlock.{the_family, member-Form, member-Expr}
use Rattle.esql_ast.specs.declared.expr.Form.TheOpen.{Expr-F, Form-F, Constant, List as Listed, Column, Group, Call, Minus, Not, Binary, Within, Like, IsNull, Cast}
use Rattle.esql_ast.specs.declared.expr.Form.TheViews.{roll-Form, roll-Expr}
use Rattle.esql_ast.specs.declared.expr.Form.TheFolds.{claims, map-Form, fold-Form, fold-Expr, fold-roll-Form, fold-roll-Expr, ind-Expr}

-- the expression of a node at a span, with a form of one layer
abbrev pub expr_at : NodeId → Span → Form-F Form Expr → Expr
expr_at node span layer = roll-Expr (record { node = node; span = span; form = roll-Form layer })

-- it holds of each expression in the layer
abbrev pub AllIn : (Expr → Type 0) → Form-F Form Expr → Type 0
AllIn P (Constant cell kind) = Unit {0}
AllIn P (Listed values) = Unit {0}
AllIn P (Column name) = Unit {0}
AllIn P (Group inner) = P inner
AllIn P (Call function args star) = All P args
AllIn P (Minus arg) = P arg
AllIn P (Not arg) = P arg
AllIn P (Binary op left right) = P left × P right
AllIn P (Within negated left items) = P left × All P items
AllIn P (Like negated regex left pattern) = P left
AllIn P (IsNull negated arg) = P arg
AllIn P (Cast arg kind) = P arg

module _ (P : Expr → Type 0) (step : (node : NodeId) (span : Span) (layer : Form-F Form Expr) → AllIn P layer → P (expr_at node span layer)) where
  abbrev FormClaim : Form → Type 0
  FormClaim form = (node : NodeId) (span : Span) → P (roll-Expr (record { node = node; span = span; form = form }))

  abbrev GoodForm : Type 0
  GoodForm = Such the_family (claims FormClaim P) member-Form

  abbrev GoodExpr : Type 0
  GoodExpr = Such the_family (claims FormClaim P) member-Expr

  abbrev the_expr : GoodExpr → Expr
  the_expr good = good.0

  abbrev the_form : GoodForm → Form
  the_form good = good.0

  abbrev layer_of : Form-F GoodForm GoodExpr → Form-F Form Expr
  layer_of = map-Form GoodForm GoodExpr Form Expr the_form the_expr

  all_good : (goods : List GoodExpr) → All P (map the_expr goods)
  all_good [] = All-nil P
  all_good (good ∷ goods) = All-cons P good.0 (map the_expr goods) good.1 (all_good goods)

  good_layer : (goods : Form-F GoodForm GoodExpr) → AllIn P (layer_of goods)
  good_layer (Constant cell kind) = tt
  good_layer (Listed values) = tt
  good_layer (Column name) = tt
  good_layer (Group inner) = inner.1
  good_layer (Call function args star) = all_good args
  good_layer (Minus arg) = arg.1
  good_layer (Not arg) = arg.1
  good_layer (Binary op left right) = (left.1, right.1)
  good_layer (Within negated left items) = (left.1, all_good items)
  good_layer (Like negated regex left pattern) = left.1
  good_layer (IsNull negated arg) = arg.1
  good_layer (Cast arg kind) = arg.1

  -- what holds of an expression where it holds of those in its layer holds of each
  pub expr_ind : (expr : Expr) → P expr
  expr_ind =
      ind-Expr FormClaim P
      (λ layer goods is. let Q : Form-F Form Expr → Type 0 = λ these. FormClaim (roll-Form these) in subst Q is (λ node span. step node span (layer_of goods) (good_layer goods)))
      (λ own good is. let Q : Expr-F Form Expr → Type 0 = λ this. P (roll-Expr this) in subst Q is (good.form.1 good.node good.span))

module _ (A B : Type 0) (of_form : Form-F A B → A) (of_expr : Expr-F A B → B) where
  -- the fold over one layer
  abbrev pub layer_folded : Form-F Form Expr → Form-F A B
  layer_folded = map-Form Form Expr A B (fold-Form A B of_form of_expr) (fold-Expr A B of_form of_expr)

  pub fold_at : (node : NodeId) (span : Span) (layer : Form-F Form Expr)
      → fold-Expr A B of_form of_expr (expr_at node span layer) ≡ of_expr (record { node = node; span = span; form = of_form (layer_folded layer) })
  fold_at node span layer =
      fold-roll-Expr A B of_form of_expr (record { node = node; span = span; form = roll-Form layer })
      ∙ ap (λ (form : A). of_expr (record { node = node; span = span; form = form })) (fold-roll-Form A B of_form of_expr layer)
