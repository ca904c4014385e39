-- An expression that is numbered has the spans that it had.
use Rattle.std.proofs.Common.{◌≡◌, ℕ, ◌+◌, List, [], ◌∷◌, ◌++◌, map, refl, sym, ap, subst, ◌∙◌}
use Rattle.std.specs.List.{flat_map}
use denote.Hole.Holds.{Such}
use Rattle.esql_types.specs.declared.places.Span.{Span}
use Rattle.esql_ast.specs.declared.expr.Expr.{Expr}
use Rattle.esql_ast.specs.declared.expr.Form.{Form}
use Rattle.esql_ast.specs.declared.expr.Form.TheBlock.{the_family, member-Form, member-Expr}
use Rattle.esql_ast.specs.declared.expr.Form.TheOpen.{Expr-F, Form-F, Constant, List as Listed, Column, Group, Call, Minus, Not, Binary, Within, Like, IsNull, Cast}
use Rattle.esql_ast.specs.declared.expr.Form.TheViews.{roll-Form, roll-Expr}
use Rattle.esql_ast.specs.declared.expr.Form.TheFolds.{claims, map-Form, map-Expr, fold-roll-Form, fold-roll-Expr, ind-Expr}
use Rattle.esql_ast.specs.Numbering.{Numbering, node_id, numbered_all, numbering_in, own_before_inner, numbering_of, numbering_of_form, numbered, numbered_form, size_of}
use Rattle.esql_ast.specs.Spans.{spans_in, own_and_within, spans_of_expr, spans_of_form}
use Rattle.esql_ast.proofs.Folds.{joined_map}
use Rattle.esql_ast.proofs.SpanParts.{constant_spans, list_spans, column_spans, group_spans, call_spans, minus_spans, not_spans, binary_spans, within_spans, like_spans, is_null_spans, cast_spans}

-- numbered from any number on, a part has the spans that it had
abbrev pub KeepsSpans : {Part : Type 0} → (Part → List Span) → Part → Numbering Part → Type 0
KeepsSpans spans part numbering = (node : ℕ) → spans (numbering.at node) ≡ spans part

abbrev pub ExprKeepsSpans : Expr → Type 0
ExprKeepsSpans expr = KeepsSpans spans_of_expr expr (numbering_of expr)

abbrev pub FormKeepsSpans : Form → Type 0
FormKeepsSpans form = KeepsSpans spans_of_form form (numbering_of_form form)

abbrev GoodForm : Type 0
GoodForm = Such the_family (claims FormKeepsSpans ExprKeepsSpans) member-Form

abbrev GoodExpr : Type 0
GoodExpr = Such the_family (claims FormKeepsSpans ExprKeepsSpans) member-Expr

abbrev the_expr : GoodExpr → Expr
the_expr good = good.0

abbrev the_form : GoodForm → Form
the_form good = good.0

abbrev layer_of : Form-F GoodForm GoodExpr → Form-F Form Expr
layer_of = map-Form GoodForm GoodExpr Form Expr the_form the_expr

-- spans in a row, of which each half is as it was
both : (a b c d : List Span) → a ≡ c → b ≡ d → a ++ b ≡ c ++ d
both a b c d left right = ap (λ (spans : List Span). spans ++ b) left ∙ ap (λ (spans : List Span). c ++ spans) right

-- expressions in a row
all_keep : (goods : List GoodExpr) (node : ℕ) → flat_map spans_of_expr (numbered_all (map numbering_of (map the_expr goods)) node) ≡ flat_map spans_of_expr (map the_expr goods)
all_keep [] node = refl
all_keep (good ∷ goods) node = both _ _ _ _ (good.1 node) (all_keep goods (node + size_of good.0))

-- a layer of a form, with the spans that it comes to
carried : (layer : Form-F Form Expr) (spans : List Span)
    → spans_in (map-Form Form Expr (List Span) (List Span) spans_of_form spans_of_expr layer) ≡ spans
    → ((node : ℕ) → spans_of_form ((numbering_in (map-Form Form Expr (Numbering Form) (Numbering Expr) numbering_of_form numbering_of layer)).at node) ≡ spans)
    → FormKeepsSpans (roll-Form layer)
carried layer spans are at node =
    ap (λ (n : Numbering Form). spans_of_form (n.at node)) (fold-roll-Form (Numbering Form) (Numbering Expr) numbering_in own_before_inner layer)
    ∙ at node
    ∙ sym (fold-roll-Form (List Span) (List Span) spans_in own_and_within layer ∙ are)

-- a span before those of a part
after : (span : Span) {spans same : List Span} → spans ≡ same → span ∷ spans ≡ span ∷ same
after span is = ap (λ (these : List Span). span ∷ these) is

form_keeps : (layer : Form-F GoodForm GoodExpr) → FormKeepsSpans (roll-Form (layer_of layer))
form_keeps (Constant cell kind) = carried (Constant cell kind) [] refl (λ node. constant_spans cell kind)
form_keeps (Listed values) = carried (Listed values) [] refl (λ node. list_spans values)
form_keeps (Column name) = carried (Column name) [] refl (λ node. column_spans name)
form_keeps (Group inner) = carried (layer_of (Group inner)) (spans_of_expr inner.0) refl (λ node. group_spans (numbered inner.0 node) ∙ inner.1 node)
form_keeps (Call function args star) =
    let exprs : List Expr = map the_expr args in
    carried (layer_of (Call function args star)) (function.span ∷ flat_map spans_of_expr exprs) (after function.span (joined_map spans_of_expr exprs))
    (λ node. call_spans function (numbered_all (map numbering_of exprs) node) star ∙ after function.span (all_keep args node))
form_keeps (Minus arg) = carried (layer_of (Minus arg)) (spans_of_expr arg.0) refl (λ node. minus_spans (numbered arg.0 node) ∙ arg.1 node)
form_keeps (Not arg) = carried (layer_of (Not arg)) (spans_of_expr arg.0) refl (λ node. not_spans (numbered arg.0 node) ∙ arg.1 node)
form_keeps (Binary op left right) =
    carried (layer_of (Binary op left right)) (spans_of_expr left.0 ++ spans_of_expr right.0) refl
    (λ node. binary_spans op (numbered left.0 node) (numbered right.0 (node + size_of left.0)) ∙ both _ _ _ _ (left.1 node) (right.1 (node + size_of left.0)))
form_keeps (Within negated left items) =
    let exprs : List Expr = map the_expr items in
    carried (layer_of (Within negated left items)) (spans_of_expr left.0 ++ flat_map spans_of_expr exprs)
    (ap (λ (spans : List Span). spans_of_expr left.0 ++ spans) (joined_map spans_of_expr exprs))
    (λ node. within_spans negated (numbered left.0 node) (numbered_all (map numbering_of exprs) (node + size_of left.0))
    ∙ both _ _ _ _ (left.1 node) (all_keep items (node + size_of left.0)))
form_keeps (Like negated regex left pattern) =
    carried (layer_of (Like negated regex left pattern)) (pattern.span ∷ spans_of_expr left.0) refl
    (λ node. like_spans negated regex (numbered left.0 node) pattern ∙ after pattern.span (left.1 node))
form_keeps (IsNull negated arg) = carried (layer_of (IsNull negated arg)) (spans_of_expr arg.0) refl (λ node. is_null_spans negated (numbered arg.0 node) ∙ arg.1 node)
form_keeps (Cast arg kind) =
    carried (layer_of (Cast arg kind)) (kind.span ∷ spans_of_expr arg.0) refl (λ node. cast_spans (numbered arg.0 node) kind ∙ after kind.span (arg.1 node))

-- an expression keeps its own span
own_keeps : (own : Expr-F Form Expr) → FormKeepsSpans own.form → ExprKeepsSpans (roll-Expr own)
own_keeps own form node =
    ap (λ (n : Numbering Expr). spans_of_expr (n.at node)) (fold-roll-Expr (Numbering Form) (Numbering Expr) numbering_in own_before_inner own)
    ∙ fold-roll-Expr (List Span) (List Span) spans_in own_and_within (record { node = node_id node; span = own.span; form = numbered_form own.form (node + 1) })
    ∙ after own.span (form (node + 1))
    ∙ sym (fold-roll-Expr (List Span) (List Span) spans_in own_and_within own)

pub expr_keeps : (expr : Expr) → ExprKeepsSpans expr
expr_keeps =
    ind-Expr FormKeepsSpans ExprKeepsSpans (λ layer goods is. let P : Form-F Form Expr → Type 0 = λ these. FormKeepsSpans (roll-Form these) in subst P is (form_keeps goods))
    (λ own good is. let P : Expr-F Form Expr → Type 0 = λ this. ExprKeepsSpans (roll-Expr this) in subst P is (own_keeps (map-Expr GoodForm GoodExpr Form Expr the_form the_expr good) good.form.1))
