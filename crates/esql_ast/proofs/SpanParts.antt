-- The spans of an expression and of each form, by its parts.
use Rattle.std.proofs.Common.{◌≡◌, Bool, List, [], ◌∷◌, ◌++◌, ap, ◌∙◌}
use Rattle.std.specs.List.{flat_map}
use Rattle.esql_types.specs.declared.cell.Cell.{Cell}
use Rattle.esql_types.specs.declared.places.Span.{Span}
use Rattle.esql_types.specs.declared.value.Kind.{Kind}
use Rattle.esql_types.specs.declared.value.Value.{Value}
use Rattle.esql_types.specs.declared.text.Text.{Text}
use Rattle.esql_ast.specs.declared.expr.BinaryOp.{BinaryOp}
use Rattle.esql_ast.specs.declared.expr.Expr.{Expr}
use Rattle.esql_ast.specs.declared.expr.Form.{Form}
use Rattle.esql_ast.specs.declared.expr.Form.TheOpen.{Form-F}
use Rattle.esql_ast.specs.declared.expr.Form.TheVariants.{Constant, List as Listed, Column, Group, Call, Minus, Not, Binary, Within, Like, IsNull, Cast}
use Rattle.esql_ast.specs.declared.expr.Form.TheViews.{out-Form, outs-Constant, outs-List, outs-Column, outs-Group, outs-Call, outs-Minus, outs-Not, outs-Binary, outs-Within, outs-Like, outs-IsNull, outs-Cast}
use Rattle.esql_ast.specs.declared.expr.Form.TheFolds.{map-Form, fold_out-Expr, fold_out-Form}
use Rattle.esql_ast.specs.declared.query.NameAt.{NameAt}
use Rattle.esql_ast.specs.declared.query.TextAt.{TextAt}
use Rattle.esql_ast.specs.Spans.{spans_in, own_and_within, spans_of_expr, spans_of_form}
use Rattle.esql_ast.proofs.Folds.{joined_map}

-- the spans of an expression: its own, then those of its form
pub expr_spans : (expr : Expr) → spans_of_expr expr ≡ expr.span ∷ spans_of_form expr.form
expr_spans expr = fold_out-Expr (List Span) (List Span) spans_in own_and_within expr

-- the spans of a form, by one layer of it
pub form_spans : (form : Form) (layer : Form-F Form Expr) → out-Form form ≡ layer
    → spans_of_form form ≡ spans_in (map-Form Form Expr (List Span) (List Span) spans_of_form spans_of_expr layer)
form_spans form layer is =
    fold_out-Form (List Span) (List Span) spans_in own_and_within form
    ∙ ap (λ (layer : Form-F Form Expr). spans_in (map-Form Form Expr (List Span) (List Span) spans_of_form spans_of_expr layer)) is

pub constant_spans : (cell : Cell) (kind : Kind) → spans_of_form (Constant cell kind) ≡ []
constant_spans cell kind = form_spans _ _ (outs-Constant cell kind)

pub list_spans : (values : List Value) → spans_of_form (Listed values) ≡ []
list_spans values = form_spans _ _ (outs-List values)

pub column_spans : (name : Text) → spans_of_form (Column name) ≡ []
column_spans name = form_spans _ _ (outs-Column name)

pub group_spans : (inner : Expr) → spans_of_form (Group inner) ≡ spans_of_expr inner
group_spans inner = form_spans _ _ (outs-Group inner)

pub call_spans : (function : NameAt) (args : List Expr) (star : Bool) → spans_of_form (Call function args star) ≡ function.span ∷ flat_map spans_of_expr args
call_spans function args star =
    form_spans _ _ (outs-Call function args star) ∙ ap (λ (spans : List Span). function.span ∷ spans) (joined_map spans_of_expr args)

pub minus_spans : (arg : Expr) → spans_of_form (Minus arg) ≡ spans_of_expr arg
minus_spans arg = form_spans _ _ (outs-Minus arg)

pub not_spans : (arg : Expr) → spans_of_form (Not arg) ≡ spans_of_expr arg
not_spans arg = form_spans _ _ (outs-Not arg)

pub binary_spans : (op : BinaryOp) (left right : Expr) → spans_of_form (Binary op left right) ≡ spans_of_expr left ++ spans_of_expr right
binary_spans op left right = form_spans _ _ (outs-Binary op left right)

pub within_spans : (negated : Bool) (left : Expr) (items : List Expr) → spans_of_form (Within negated left items) ≡ spans_of_expr left ++ flat_map spans_of_expr items
within_spans negated left items =
    form_spans _ _ (outs-Within negated left items) ∙ ap (λ (spans : List Span). spans_of_expr left ++ spans) (joined_map spans_of_expr items)

pub like_spans : (negated regex : Bool) (left : Expr) (pattern : TextAt) → spans_of_form (Like negated regex left pattern) ≡ pattern.span ∷ spans_of_expr left
like_spans negated regex left pattern = form_spans _ _ (outs-Like negated regex left pattern)

pub is_null_spans : (negated : Bool) (arg : Expr) → spans_of_form (IsNull negated arg) ≡ spans_of_expr arg
is_null_spans negated arg = form_spans _ _ (outs-IsNull negated arg)

pub cast_spans : (arg : Expr) (kind : NameAt) → spans_of_form (Cast arg kind) ≡ kind.span ∷ spans_of_expr arg
cast_spans arg kind = form_spans _ _ (outs-Cast arg kind)
