-- An expression fits its text where its own span, the names and patterns of its form, and the expressions in it do.
use Rattle.std.proofs.Common.{◌≡◌, ℕ, Bool, List, [], ◌∷◌, All, sym, subst}
use Rattle.std.specs.List.{flat_map}
use Rattle.std.proofs.lemmas.List.Elements.{All-nil, All-cons, All-head, All-tail, All-same, All-append}
use Rattle.esql_types.specs.declared.cell.Cell.{Cell}
use Rattle.esql_types.specs.declared.places.Span.{Span}
use Rattle.esql_types.specs.declared.text.Text.{Text}
use Rattle.esql_types.specs.declared.value.Kind.{Kind}
use Rattle.esql_types.specs.declared.value.Value.{Value}
use Rattle.esql_types.specs.Spans.{SpanFits}
use Rattle.esql_types.proofs.Lists.{All-front, All-back}
use Rattle.esql_ast.specs.declared.expr.Expr.{Expr}
use Rattle.esql_ast.specs.declared.expr.BinaryOp.{BinaryOp}
use Rattle.esql_ast.specs.declared.expr.Form.{Form}
use Rattle.esql_ast.specs.declared.expr.Form.TheVariants.{Constant, List as Listed, Column, Group, Call, Minus, Not, Binary, Within, Like, IsNull, Cast}
use Rattle.esql_ast.specs.declared.query.NameAt.{NameAt}
use Rattle.esql_ast.specs.declared.query.TextAt.{TextAt}
use Rattle.esql_ast.specs.Fits.{ExprFits, FormFits, NameFits, TextFits}
use Rattle.esql_ast.specs.Spans.{spans_of_expr, spans_of_form}
use Rattle.esql_ast.proofs.SpanParts.{expr_spans, constant_spans, list_spans, column_spans, group_spans, call_spans, minus_spans, not_spans, binary_spans, within_spans, like_spans, is_null_spans, cast_spans}

-- spans that are those of another list fit where those do
same_fit : (text : List ℕ) (spans same : List Span) → spans ≡ same → All (SpanFits text) same → All (SpanFits text) spans
same_fit text spans same is fits = All-same (SpanFits text) spans same is fits

-- expressions in a row
row_fits : (text : List ℕ) (exprs : List Expr) → All (SpanFits text) (flat_map spans_of_expr exprs) → All (ExprFits text) exprs
row_fits text [] fits = All-nil (ExprFits text)
row_fits text (expr ∷ exprs) fits =
    All-cons (ExprFits text) expr exprs (All-front (SpanFits text) (spans_of_expr expr) (flat_map spans_of_expr exprs) fits)
    (row_fits text exprs (All-back (SpanFits text) (spans_of_expr expr) (flat_map spans_of_expr exprs) fits))

fits_row : (text : List ℕ) (exprs : List Expr) → All (ExprFits text) exprs → All (SpanFits text) (flat_map spans_of_expr exprs)
fits_row text [] fits = All-nil (SpanFits text)
fits_row text (expr ∷ exprs) fits =
    All-append (SpanFits text) (spans_of_expr expr) (flat_map spans_of_expr exprs) (All-head (ExprFits text) expr exprs fits)
    (fits_row text exprs (All-tail (ExprFits text) expr exprs fits))

-- ---- what fits where the whole does

pub own_span_fits : (text : List ℕ) (expr : Expr) → ExprFits text expr → SpanFits text expr.span
own_span_fits text expr fits = All-head (SpanFits text) expr.span (spans_of_form expr.form) (same_fit text _ _ (sym (expr_spans expr)) fits)

pub form_fits : (text : List ℕ) (expr : Expr) → ExprFits text expr → FormFits text expr.form
form_fits text expr fits = All-tail (SpanFits text) expr.span (spans_of_form expr.form) (same_fit text _ _ (sym (expr_spans expr)) fits)

-- the form of an expression, once it is known
pub known_form_fits : (text : List ℕ) (expr : Expr) (form : Form) → expr.form ≡ form → ExprFits text expr → FormFits text form
known_form_fits text expr form is fits = subst (FormFits text) is (form_fits text expr fits)

pub group_fits : (text : List ℕ) (inner : Expr) → FormFits text (Group inner) → ExprFits text inner
group_fits text inner = same_fit text _ _ (sym (group_spans inner))

pub call_fits : (text : List ℕ) (function : NameAt) (args : List Expr) (star : Bool) → FormFits text (Call function args star) → NameFits text function × All (ExprFits text) args
call_fits text function args star fits =
    let all = same_fit text _ _ (sym (call_spans function args star)) fits in (
      All-head (SpanFits text) function.span (flat_map spans_of_expr args) all,
      row_fits text args (All-tail (SpanFits text) function.span (flat_map spans_of_expr args) all),
    )

pub minus_fits : (text : List ℕ) (arg : Expr) → FormFits text (Minus arg) → ExprFits text arg
minus_fits text arg = same_fit text _ _ (sym (minus_spans arg))

pub not_fits : (text : List ℕ) (arg : Expr) → FormFits text (Not arg) → ExprFits text arg
not_fits text arg = same_fit text _ _ (sym (not_spans arg))

pub binary_fits : (text : List ℕ) (op : BinaryOp) (left right : Expr) → FormFits text (Binary op left right) → ExprFits text left × ExprFits text right
binary_fits text op left right fits =
    let both = same_fit text _ _ (sym (binary_spans op left right)) fits in
    (All-front (SpanFits text) (spans_of_expr left) (spans_of_expr right) both, All-back (SpanFits text) (spans_of_expr left) (spans_of_expr right) both)

pub within_fits : (text : List ℕ) (negated : Bool) (left : Expr) (items : List Expr)
    → FormFits text (Within negated left items) → ExprFits text left × All (ExprFits text) items
within_fits text negated left items fits =
    let both = same_fit text _ _ (sym (within_spans negated left items)) fits in (
      All-front (SpanFits text) (spans_of_expr left) (flat_map spans_of_expr items) both,
      row_fits text items (All-back (SpanFits text) (spans_of_expr left) (flat_map spans_of_expr items) both),
    )

pub like_fits : (text : List ℕ) (negated regex : Bool) (left : Expr) (pattern : TextAt)
    → FormFits text (Like negated regex left pattern) → ExprFits text left × TextFits text pattern
like_fits text negated regex left pattern fits =
    let all = same_fit text _ _ (sym (like_spans negated regex left pattern)) fits in
    (All-tail (SpanFits text) pattern.span (spans_of_expr left) all, All-head (SpanFits text) pattern.span (spans_of_expr left) all)

pub is_null_fits : (text : List ℕ) (negated : Bool) (arg : Expr) → FormFits text (IsNull negated arg) → ExprFits text arg
is_null_fits text negated arg = same_fit text _ _ (sym (is_null_spans negated arg))

pub cast_fits : (text : List ℕ) (arg : Expr) (kind : NameAt) → FormFits text (Cast arg kind) → ExprFits text arg × NameFits text kind
cast_fits text arg kind fits =
    let all = same_fit text _ _ (sym (cast_spans arg kind)) fits in
    (All-tail (SpanFits text) kind.span (spans_of_expr arg) all, All-head (SpanFits text) kind.span (spans_of_expr arg) all)

-- ---- the whole fits where these do

pub expr_fits : (text : List ℕ) (expr : Expr) → SpanFits text expr.span → FormFits text expr.form → ExprFits text expr
expr_fits text expr own form = same_fit text _ _ (expr_spans expr) (All-cons (SpanFits text) expr.span (spans_of_form expr.form) own form)

pub fits_constant : (text : List ℕ) (cell : Cell) (kind : Kind) → FormFits text (Constant cell kind)
fits_constant text cell kind = same_fit text _ _ (constant_spans cell kind) (All-nil (SpanFits text))

pub fits_list : (text : List ℕ) (values : List Value) → FormFits text (Listed values)
fits_list text values = same_fit text _ _ (list_spans values) (All-nil (SpanFits text))

pub fits_column : (text : List ℕ) (name : Text) → FormFits text (Column name)
fits_column text name = same_fit text _ _ (column_spans name) (All-nil (SpanFits text))

pub fits_group : (text : List ℕ) (inner : Expr) → ExprFits text inner → FormFits text (Group inner)
fits_group text inner = same_fit text _ _ (group_spans inner)

pub fits_call : (text : List ℕ) (function : NameAt) (args : List Expr) (star : Bool) → NameFits text function → All (ExprFits text) args → FormFits text (Call function args star)
fits_call text function args star name fits =
    same_fit text _ _ (call_spans function args star) (All-cons (SpanFits text) function.span (flat_map spans_of_expr args) name (fits_row text args fits))

pub fits_minus : (text : List ℕ) (arg : Expr) → ExprFits text arg → FormFits text (Minus arg)
fits_minus text arg = same_fit text _ _ (minus_spans arg)

pub fits_not : (text : List ℕ) (arg : Expr) → ExprFits text arg → FormFits text (Not arg)
fits_not text arg = same_fit text _ _ (not_spans arg)

pub fits_binary : (text : List ℕ) (op : BinaryOp) (left right : Expr) → ExprFits text left → ExprFits text right → FormFits text (Binary op left right)
fits_binary text op left right first second =
    same_fit text _ _ (binary_spans op left right) (All-append (SpanFits text) (spans_of_expr left) (spans_of_expr right) first second)

pub fits_within : (text : List ℕ) (negated : Bool) (left : Expr) (items : List Expr)
    → ExprFits text left → All (ExprFits text) items → FormFits text (Within negated left items)
fits_within text negated left items first fits =
    same_fit text _ _ (within_spans negated left items) (All-append (SpanFits text) (spans_of_expr left) (flat_map spans_of_expr items) first (fits_row text items fits))

pub fits_like : (text : List ℕ) (negated regex : Bool) (left : Expr) (pattern : TextAt)
    → ExprFits text left → TextFits text pattern → FormFits text (Like negated regex left pattern)
fits_like text negated regex left pattern first content =
    same_fit text _ _ (like_spans negated regex left pattern) (All-cons (SpanFits text) pattern.span (spans_of_expr left) content first)

pub fits_is_null : (text : List ℕ) (negated : Bool) (arg : Expr) → ExprFits text arg → FormFits text (IsNull negated arg)
fits_is_null text negated arg = same_fit text _ _ (is_null_spans negated arg)

pub fits_cast : (text : List ℕ) (arg : Expr) (kind : NameAt) → ExprFits text arg → NameFits text kind → FormFits text (Cast arg kind)
fits_cast text arg kind first name =
    same_fit text _ _ (cast_spans arg kind) (All-cons (SpanFits text) kind.span (spans_of_expr arg) name first)
