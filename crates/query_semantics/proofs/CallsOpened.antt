-- The aggregate calls in an expression and the columns outside them, by its form.
use Rattle.std.proofs.Common.{◌≡◌, ℕ, List, [], ◌∷◌, map, All, Option, Some, None, refl, ap, sym, ◌∙◌}
use Rattle.std.specs.List.{flat_map}
use Rattle.std.proofs.lemmas.List.Elements.{All-nil, All-cons, All-head, All-tail, All-append, All-same}
use Rattle.esql_types.specs.declared.places.Span.{Span}
use Rattle.esql_types.specs.declared.names.NodeId.{NodeId}
use Rattle.esql_types.specs.Spans.{SpanFits}
use Rattle.esql_types.proofs.Lists.{All-front, All-back}
use Rattle.esql_ast.specs.declared.expr.Expr.{Expr}
use Rattle.esql_ast.specs.declared.expr.Form.{Form}
use Rattle.esql_ast.specs.declared.expr.Form.TheOpen.{Form-F, Constant, List as Listed, Column, Group, Call, Minus, Not, Binary, Within, Like, IsNull, Cast}
use Rattle.esql_ast.specs.declared.expr.Form.TheViews.{out-Form}
use Rattle.esql_ast.specs.declared.expr.Form.TheFolds.{map-Form, fold-Form, fold_out-Form, fold_out-Expr}
use Rattle.esql_ast.specs.Fits.{ExprFits}
use Rattle.esql_ast.specs.Spans.{spans_in, own_and_within, spans_of_expr}
use Rattle.esql_ast.proofs.Folds.{joined_map}
use Rattle.esql_plan.specs.declared.function.AggFunction.{AggFunction}
use Rattle.esql_plan.specs.declared.names.FunctionRow.{FunctionRow}
use Rattle.esql_plan.specs.Names.{function_named, aggregate_named}
use Rattle.query_semantics.specs.Calls.{Opened, OpenedForm, columns_in, columns_in_call, calls_in_form, columns_in_form, own_form, own_expr, opened_form, opened_expr, opened, calls_of, outside_columns}
use Rattle.query_semantics.proofs.ExprInduction.{expr_at, AllIn, expr_ind, layer_folded, fold_at}

abbrev form_opened : Form → OpenedForm
form_opened = fold-Form OpenedForm Opened opened_form opened_expr

-- the layer of a form, each expression in it opened
abbrev pub layer_opened : Form-F Form Expr → Form-F OpenedForm Opened
layer_opened = layer_folded OpenedForm Opened opened_form opened_expr

pub opened_at : (node : NodeId) (span : Span) (layer : Form-F Form Expr)
    → opened (expr_at node span layer) ≡ opened_expr (record { node = node; span = span; form = opened_form (layer_opened layer) })
opened_at node span layer = fold_at OpenedForm Opened opened_form opened_expr node span layer

-- the calls and the columns of an expression by one layer of its form
pub opened_by : (expr : Expr) (form : Form) (layer : Form-F Form Expr) → expr.form ≡ form → out-Form form ≡ layer
    → opened expr ≡ opened_expr (record { node = expr.node; span = expr.span; form = opened_form (layer_opened layer) })
opened_by expr form layer is opens =
    fold_out-Expr OpenedForm Opened opened_form opened_expr expr
    ∙ ap (λ (these : OpenedForm). opened_expr (record { node = expr.node; span = expr.span; form = these }))
    (ap form_opened is ∙ fold_out-Form OpenedForm Opened opened_form opened_expr form ∙ ap (λ (these : Form-F Form Expr). opened_form (layer_opened these)) opens)

pub calls_by : (expr : Expr) (form : Form) (layer : Form-F Form Expr) → expr.form ≡ form → out-Form form ≡ layer → calls_of expr ≡ calls_in_form (layer_opened layer) expr.node
calls_by expr form layer is opens = ap (λ (these : Opened). these.calls) (opened_by expr form layer is opens)

pub columns_by : (expr : Expr) (form : Form) (layer : Form-F Form Expr) → expr.form ≡ form → out-Form form ≡ layer → outside_columns expr ≡ columns_in_form (layer_opened layer) expr.span
columns_by expr form layer is opens = ap (λ (these : Opened). these.columns) (opened_by expr form layer is opens)

-- what is opened is the expression itself -----------------------------------------------------------------------------------

abbrev IsOwn : Expr → Type 0
IsOwn expr = (opened expr).own ≡ expr

pub all_own : (exprs : List Expr) → All IsOwn exprs → map own_expr (map opened exprs) ≡ exprs
all_own [] all = refl
all_own (expr ∷ exprs) all = λ i. All-head IsOwn expr exprs all i ∷ all_own exprs (All-tail IsOwn expr exprs all) i

own_layer : (layer : Form-F Form Expr) → AllIn IsOwn layer → map-Form OpenedForm Opened Form Expr own_form own_expr (layer_opened layer) ≡ layer
own_layer (Constant cell kind) all = refl
own_layer (Listed values) all = refl
own_layer (Column name) all = refl
own_layer (Group inner) all = λ i. Group (all i)
own_layer (Call function args star) all = λ i. Call function (all_own args all i) star
own_layer (Minus arg) all = λ i. Minus (all i)
own_layer (Not arg) all = λ i. Not (all i)
own_layer (Binary op left right) all = λ i. Binary op (all.0 i) (all.1 i)
own_layer (Within negated left items) all = λ i. Within negated (all.0 i) (all_own items all.1 i)
own_layer (Like negated regex left pattern) all = λ i. Like negated regex (all i) pattern
own_layer (IsNull negated arg) all = λ i. IsNull negated (all i)
own_layer (Cast arg kind) all = λ i. Cast (all i) kind

pub own_is : (expr : Expr) → (opened expr).own ≡ expr
own_is = expr_ind IsOwn
    (λ node span layer all. ap (λ (these : Opened). these.own) (opened_at node span layer) ∙ ap (expr_at node span) (own_layer layer all))

-- the argument of a call is the expression itself
pub argument_is : (expr : Expr) → Some (opened expr).own ≡ Some expr
argument_is expr = ap (λ (these : Expr). Some these) (own_is expr)

-- columns outside aggregates stand in the text --------------------------------------------------------------------------------

abbrev ColumnsFit : Expr → Type 0
ColumnsFit expr = (text : List ℕ) → ExprFits text expr → All (SpanFits text) (outside_columns expr)

all_fit : (text : List ℕ) (exprs : List Expr) → All ColumnsFit exprs → All (SpanFits text) (flat_map spans_of_expr exprs) → All (SpanFits text) (columns_in (map opened exprs))
all_fit text [] all fits = All-nil (SpanFits text)
all_fit text (expr ∷ exprs) all fits =
    All-append (SpanFits text) (outside_columns expr) (columns_in (map opened exprs))
    (All-head ColumnsFit expr exprs all text (All-front (SpanFits text) (spans_of_expr expr) (flat_map spans_of_expr exprs) fits))
    (all_fit text exprs (All-tail ColumnsFit expr exprs all) (All-back (SpanFits text) (spans_of_expr expr) (flat_map spans_of_expr exprs) fits))

call_fit : (text : List ℕ) (row : Option FunctionRow) (found : Option AggFunction) (exprs : List Expr) → All ColumnsFit exprs → All (SpanFits text) (flat_map spans_of_expr exprs)
    → All (SpanFits text) (columns_in_call row found (map opened exprs))
call_fit text (Some row) found exprs all fits = all_fit text exprs all fits
call_fit text None (Some found) exprs all fits = All-nil (SpanFits text)
call_fit text None None exprs all fits = all_fit text exprs all fits

layer_fit : (text : List ℕ) (span : Span) (layer : Form-F Form Expr) → AllIn ColumnsFit layer → SpanFits text span
    → All (SpanFits text) (spans_in (layer_folded (List Span) (List Span) spans_in own_and_within layer)) → All (SpanFits text) (columns_in_form (layer_opened layer) span)
layer_fit text span (Constant cell kind) all own fits = All-nil (SpanFits text)
layer_fit text span (Listed values) all own fits = All-nil (SpanFits text)
layer_fit text span (Column name) all own fits = All-cons (SpanFits text) span [] own (All-nil (SpanFits text))
layer_fit text span (Group inner) all own fits = all text fits
layer_fit text span (Call function args star) all own fits =
    call_fit text (function_named function.name) (aggregate_named function.name) args all
    (All-same (SpanFits text) _ _ (sym (joined_map spans_of_expr args)) (All-tail (SpanFits text) function.span _ fits))
layer_fit text span (Minus arg) all own fits = all text fits
layer_fit text span (Not arg) all own fits = all text fits
layer_fit text span (Binary op left right) all own fits =
    All-append (SpanFits text) (outside_columns left) (outside_columns right)
    (all.0 text (All-front (SpanFits text) (spans_of_expr left) (spans_of_expr right) fits)) (all.1 text (All-back (SpanFits text) (spans_of_expr left) (spans_of_expr right) fits))
layer_fit text span (Within negated left items) all own fits =
    All-append (SpanFits text) (outside_columns left) (columns_in (map opened items))
    (all.0 text (All-front (SpanFits text) (spans_of_expr left) _ fits))
    (all_fit text items all.1 (All-same (SpanFits text) _ _ (sym (joined_map spans_of_expr items)) (All-back (SpanFits text) (spans_of_expr left) _ fits)))
layer_fit text span (Like negated regex left pattern) all own fits = all text (All-tail (SpanFits text) pattern.span (spans_of_expr left) fits)
layer_fit text span (IsNull negated arg) all own fits = all text fits
layer_fit text span (Cast arg kind) all own fits = all text (All-tail (SpanFits text) kind.span (spans_of_expr arg) fits)

pub columns_fit : (expr : Expr) → ColumnsFit expr
columns_fit = expr_ind ColumnsFit (λ node span layer all text fits.
    let within : List Span = spans_in (layer_folded (List Span) (List Span) spans_in own_and_within layer) in
    let spans = All-same (SpanFits text) (span ∷ within) (spans_of_expr (expr_at node span layer)) (sym (fold_at (List Span) (List Span) spans_in own_and_within node span layer)) fits in
    All-same (SpanFits text) (outside_columns (expr_at node span layer)) _ (ap (λ (these : Opened). these.columns) (opened_at node span layer))
    (layer_fit text span layer all (All-head (SpanFits text) span within spans) (All-tail (SpanFits text) span within spans)))
