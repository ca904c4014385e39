-- Where an expression, a field or a command fits its text, the spans of its nodes are parts of it.
use Rattle.std.proofs.Common.{◌≡◌, ℕ, List, [], ◌∷◌, ◌++◌, map, get_or, All, Option, Some, None, IfSome, refl, sym, ap, subst, ◌∙◌}
use Rattle.std.specs.List.{flat_map}
use Rattle.std.proofs.lemmas.List.Elements.{All-nil, All-cons, All-head, All-tail, All-same, All-append}
use denote.Hole.Holds.{Such}
use Rattle.esql_types.specs.declared.places.Span.{Span}
use Rattle.esql_types.specs.Spans.{SpanFits}
use Rattle.esql_types.proofs.Lists.{All-front, All-back}
use Rattle.esql_ast.specs.declared.nodes.NodeAt.{NodeAt}
use Rattle.esql_ast.specs.declared.expr.Expr.{Expr}
use Rattle.esql_ast.specs.declared.expr.Form.{Form}
use Rattle.esql_ast.specs.declared.expr.Form.TheBlock.{the_family, member-Form, member-Expr}
use Rattle.esql_ast.specs.declared.expr.Form.TheOpen.{Expr-F, Form-F, Constant, List as Listed, Column, Group, Call, Minus, Not, Binary, Within, Like, IsNull, Cast}
use Rattle.esql_ast.specs.declared.expr.Form.TheViews.{roll-Form, roll-Expr}
use Rattle.esql_ast.specs.declared.expr.Form.TheFolds.{claims, map-Form, map-Expr, fold-roll-Form, fold-roll-Expr, ind-Expr}
use Rattle.esql_ast.specs.declared.query.Condition.{Condition}
use Rattle.esql_ast.specs.declared.query.Field.{Field}
use Rattle.esql_ast.specs.declared.query.StatsField.{StatsField}
use Rattle.esql_ast.specs.declared.query.CommandKind.{CommandKind}
use Rattle.esql_ast.specs.declared.query.CommandKind.TheVariants.{Filter, Eval, Keep, Drop, Rename, Sort, Limit, Expand, Stats, Dissect, Grok, Enrich, Join}
use Rattle.esql_ast.specs.Fits.{ExprFits, FormFits, FieldsFit, ConditionFits, StatsFits, KindFits}
use Rattle.esql_ast.specs.Nodes.{nodes_in, own_and_inner, nodes_of_expr, nodes_of_form, nodes_of_field, nodes_of_condition, nodes_of_stats, nodes_of_key, nodes_of_kind}
use Rattle.esql_ast.specs.Spans.{spans_in, own_and_within, spans_of_expr, spans_of_form}
use Rattle.esql_ast.proofs.Folds.{joined_map}
use Rattle.esql_ast.proofs.PartsFit.{own_span_fits}

abbrev pub NodesFit : List ℕ → List NodeAt → Type 0
NodesFit text nodes = All (λ (place : NodeAt). SpanFits text place.span) nodes

pub no_nodes : (text : List ℕ) → NodesFit text []
no_nodes text = All-nil (λ (place : NodeAt). SpanFits text place.span)

pub node_then : {text : List ℕ} (node : NodeAt) (nodes : List NodeAt) → SpanFits text node.span → NodesFit text nodes → NodesFit text (node ∷ nodes)
node_then {text} node nodes own rest = All-cons (λ (place : NodeAt). SpanFits text place.span) node nodes own rest

pub nodes_then : {text : List ℕ} (nodes more : List NodeAt) → NodesFit text nodes → NodesFit text more → NodesFit text (nodes ++ more)
nodes_then {text} nodes more fits rest = All-append (λ (place : NodeAt). SpanFits text place.span) nodes more fits rest

-- where the nodes of each of a list fit, those of all do
pub flat_fits : {A : Type 0} {text : List ℕ} (nodes : A → List NodeAt) (items : List A) → All (λ (a : A). NodesFit text (nodes a)) items → NodesFit text (flat_map nodes items)
flat_fits {text = text} nodes [] all = no_nodes text
flat_fits {A} {text} nodes (a ∷ items) all =
    let P : A → Type 0 = λ a. NodesFit text (nodes a) in
    nodes_then (nodes a) (flat_map nodes items) (All-head P a items all) (flat_fits nodes items (All-tail P a items all))

abbrev ExprNodesFit : Expr → Type 0
ExprNodesFit expr = (text : List ℕ) → ExprFits text expr → NodesFit text (nodes_of_expr expr)

abbrev FormNodesFit : Form → Type 0
FormNodesFit form = (text : List ℕ) → FormFits text form → NodesFit text (nodes_of_form form)

abbrev GoodForm : Type 0
GoodForm = Such the_family (claims FormNodesFit ExprNodesFit) member-Form

abbrev GoodExpr : Type 0
GoodExpr = Such the_family (claims FormNodesFit ExprNodesFit) member-Expr

abbrev the_expr : GoodExpr → Expr
the_expr good = good.0

abbrev the_form : GoodForm → Form
the_form good = good.0

abbrev layer_of : Form-F GoodForm GoodExpr → Form-F Form Expr
layer_of = map-Form GoodForm GoodExpr Form Expr the_form the_expr

-- expressions in a row
row_fits : (text : List ℕ) (goods : List GoodExpr) → All (SpanFits text) (flat_map spans_of_expr (map the_expr goods)) → NodesFit text (flat_map nodes_of_expr (map the_expr goods))
row_fits text [] fits = no_nodes text
row_fits text (good ∷ goods) fits =
    let rest = map the_expr goods in
    nodes_then (nodes_of_expr good.0) (flat_map nodes_of_expr rest) (good.1 text (All-front (SpanFits text) (spans_of_expr good.0) (flat_map spans_of_expr rest) fits))
    (row_fits text goods (All-back (SpanFits text) (spans_of_expr good.0) (flat_map spans_of_expr rest) fits))

-- a layer of a form, with the spans and the nodes that it comes to
carried : (layer : Form-F Form Expr) (spans : List Span) (nodes : List NodeAt)
    → spans_in (map-Form Form Expr (List Span) (List Span) spans_of_form spans_of_expr layer) ≡ spans
    → nodes_in (map-Form Form Expr (List NodeAt) (List NodeAt) nodes_of_form nodes_of_expr layer) ≡ nodes
    → ((text : List ℕ) → All (SpanFits text) spans → NodesFit text nodes)
    → FormNodesFit (roll-Form layer)
carried layer spans nodes are also fit text fits =
    All-same (λ (place : NodeAt). SpanFits text place.span) _ _ (fold-roll-Form (List NodeAt) (List NodeAt) nodes_in own_and_inner layer ∙ also)
    (fit text (All-same (SpanFits text) _ _ (sym (fold-roll-Form (List Span) (List Span) spans_in own_and_within layer ∙ are)) fits))

-- a form with the nodes of one expression
only : (layer : Form-F Form Expr) (part : GoodExpr)
    → spans_in (map-Form Form Expr (List Span) (List Span) spans_of_form spans_of_expr layer) ≡ spans_of_expr part.0
    → nodes_in (map-Form Form Expr (List NodeAt) (List NodeAt) nodes_of_form nodes_of_expr layer) ≡ nodes_of_expr part.0
    → FormNodesFit (roll-Form layer)
only layer part are also = carried layer (spans_of_expr part.0) (nodes_of_expr part.0) are also (λ text fits. part.1 text fits)

-- a form with the nodes of one expression, and with the span of a name or of a pattern
beside : (layer : Form-F Form Expr) (part : GoodExpr) (span : Span)
    → spans_in (map-Form Form Expr (List Span) (List Span) spans_of_form spans_of_expr layer) ≡ span ∷ spans_of_expr part.0
    → nodes_in (map-Form Form Expr (List NodeAt) (List NodeAt) nodes_of_form nodes_of_expr layer) ≡ nodes_of_expr part.0
    → FormNodesFit (roll-Form layer)
beside layer part span are also =
    carried layer (span ∷ spans_of_expr part.0) (nodes_of_expr part.0) are also (λ text fits. part.1 text (All-tail (SpanFits text) span (spans_of_expr part.0) fits))

form_fit : (layer : Form-F GoodForm GoodExpr) → FormNodesFit (roll-Form (layer_of layer))
form_fit (Constant cell kind) = carried (Constant cell kind) [] [] refl refl (λ text fits. no_nodes text)
form_fit (Listed values) = carried (Listed values) [] [] refl refl (λ text fits. no_nodes text)
form_fit (Column name) = carried (Column name) [] [] refl refl (λ text fits. no_nodes text)
form_fit (Group inner) = only (layer_of (Group inner)) inner refl refl
form_fit (Call function args star) =
    let exprs : List Expr = map the_expr args in
    carried (layer_of (Call function args star)) (function.span ∷ flat_map spans_of_expr exprs) (flat_map nodes_of_expr exprs)
    (ap (λ (spans : List Span). function.span ∷ spans) (joined_map spans_of_expr exprs)) (joined_map nodes_of_expr exprs)
    (λ text fits. row_fits text args (All-tail (SpanFits text) function.span (flat_map spans_of_expr exprs) fits))
form_fit (Minus arg) = only (layer_of (Minus arg)) arg refl refl
form_fit (Not arg) = only (layer_of (Not arg)) arg refl refl
form_fit (Binary op left right) =
    carried (layer_of (Binary op left right)) (spans_of_expr left.0 ++ spans_of_expr right.0) (nodes_of_expr left.0 ++ nodes_of_expr right.0) refl refl
    (λ text fits. nodes_then (nodes_of_expr left.0) (nodes_of_expr right.0) (left.1 text (All-front (SpanFits text) (spans_of_expr left.0) (spans_of_expr right.0) fits))
    (right.1 text (All-back (SpanFits text) (spans_of_expr left.0) (spans_of_expr right.0) fits)))
form_fit (Within negated left items) =
    let exprs : List Expr = map the_expr items in
    carried (layer_of (Within negated left items)) (spans_of_expr left.0 ++ flat_map spans_of_expr exprs) (nodes_of_expr left.0 ++ flat_map nodes_of_expr exprs)
    (ap (λ (spans : List Span). spans_of_expr left.0 ++ spans) (joined_map spans_of_expr exprs))
    (ap (λ (nodes : List NodeAt). nodes_of_expr left.0 ++ nodes) (joined_map nodes_of_expr exprs))
    (λ text fits. nodes_then (nodes_of_expr left.0) (flat_map nodes_of_expr exprs) (left.1 text (All-front (SpanFits text) (spans_of_expr left.0) (flat_map spans_of_expr exprs) fits))
    (row_fits text items (All-back (SpanFits text) (spans_of_expr left.0) (flat_map spans_of_expr exprs) fits)))
form_fit (Like negated regex left pattern) = beside (layer_of (Like negated regex left pattern)) left pattern.span refl refl
form_fit (IsNull negated arg) = only (layer_of (IsNull negated arg)) arg refl refl
form_fit (Cast arg kind) = beside (layer_of (Cast arg kind)) arg kind.span refl refl

-- an expression's own node has its span
own_fit : (own : Expr-F Form Expr) → FormNodesFit own.form → ExprNodesFit (roll-Expr own)
own_fit own form text fits =
    let spans = All-same (SpanFits text) _ _ (sym (fold-roll-Expr (List Span) (List Span) spans_in own_and_within own)) fits in
    All-same (λ (place : NodeAt). SpanFits text place.span) _ _ (fold-roll-Expr (List NodeAt) (List NodeAt) nodes_in own_and_inner own)
    (node_then (record { node = own.node; span = own.span }) (nodes_of_form own.form) (All-head (SpanFits text) own.span (spans_of_form own.form) spans)
    (form text (All-tail (SpanFits text) own.span (spans_of_form own.form) spans)))

every_expr : (expr : Expr) → ExprNodesFit expr
every_expr =
    ind-Expr FormNodesFit ExprNodesFit (λ layer goods is. let P : Form-F Form Expr → Type 0 = λ these. FormNodesFit (roll-Form these) in subst P is (form_fit goods))
    (λ own good is. let P : Expr-F Form Expr → Type 0 = λ this. ExprNodesFit (roll-Expr this) in subst P is (own_fit (map-Expr GoodForm GoodExpr Form Expr the_form the_expr good) good.form.1))

-- the spans of an expression's nodes are among its spans
pub expr_nodes_fit : (text : List ℕ) (expr : Expr) → ExprFits text expr → NodesFit text (nodes_of_expr expr)
expr_nodes_fit text expr fits = every_expr expr text fits

-- ---- fields and commands

pub fields_nodes_fit : (text : List ℕ) (fields : List Field) → FieldsFit text fields → NodesFit text (flat_map nodes_of_field fields)
fields_nodes_fit text fields fits = flat_fits nodes_of_field fields (λ k d within. expr_nodes_fit text (get_or fields k d).expr (fits k d within).expr)

-- a condition's node has the span of its expression
condition_nodes_fit : (text : List ℕ) (field : Field) (condition : Option Condition) → IfSome condition (ConditionFits text field) → NodesFit text (nodes_of_condition condition)
condition_nodes_fit text field None fits = no_nodes text
condition_nodes_fit text field (Some condition) fits =
    node_then (record { node = condition.node; span = condition.expr.span }) (nodes_of_expr condition.expr) (own_span_fits text condition.expr fits.expr)
    (expr_nodes_fit text condition.expr fits.expr)

stats_nodes_fit : (text : List ℕ) (stats : StatsField) → StatsFits text stats → NodesFit text (nodes_of_stats stats)
stats_nodes_fit text stats fits =
    nodes_then (nodes_of_field stats.field) (nodes_of_condition stats.condition) (expr_nodes_fit text stats.field.expr fits.field.expr)
    (condition_nodes_fit text stats.field stats.condition fits.condition)

-- where what a command says fits the text, the spans of its nodes are parts of it
pub kind_nodes_fit : (text : List ℕ) (kind : CommandKind) → KindFits text kind → NodesFit text (nodes_of_kind kind)
kind_nodes_fit text (Filter condition) fits = expr_nodes_fit text condition fits
kind_nodes_fit text (Eval fields) fits = fields_nodes_fit text fields fits
kind_nodes_fit text (Keep patterns) fits = no_nodes text
kind_nodes_fit text (Drop patterns) fits = no_nodes text
kind_nodes_fit text (Rename pairs) fits = no_nodes text
kind_nodes_fit text (Sort keys) fits = flat_fits nodes_of_key keys (λ k d within. expr_nodes_fit text (get_or keys k d).expr (fits k d within))
kind_nodes_fit text (Limit count) fits = no_nodes text
kind_nodes_fit text (Expand column) fits = no_nodes text
kind_nodes_fit text (Stats fields groups) fits =
    nodes_then (flat_map nodes_of_stats fields) (flat_map nodes_of_field groups)
    (flat_fits nodes_of_stats fields (λ k d within. stats_nodes_fit text (get_or fields k d) (fits.0 k d within))) (fields_nodes_fit text groups fits.1)
kind_nodes_fit text (Dissect input pattern separator) fits = expr_nodes_fit text input fits.0
kind_nodes_fit text (Grok input pattern) fits = expr_nodes_fit text input fits.0
kind_nodes_fit text (Enrich policy on fields) fits = no_nodes text
kind_nodes_fit text (Join table on) fits = no_nodes text
