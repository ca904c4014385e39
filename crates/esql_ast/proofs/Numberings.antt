-- How the parts of an expression are numbered.
use Rattle.std.proofs.Common.{◌≡◌, ℕ, ◌+◌, Bool, List, map, ap, ◌∙◌}
use Rattle.esql_types.specs.declared.cell.Cell.{Cell}
use Rattle.esql_types.specs.declared.value.Kind.{Kind}
use Rattle.esql_types.specs.declared.value.Value.{Value}
use Rattle.esql_types.specs.declared.text.Text.{Text}
use Rattle.esql_ast.specs.declared.expr.BinaryOp.{BinaryOp}
use Rattle.esql_ast.specs.declared.expr.Form.TheVariants.{Constant, List as Listed, Column, Group, Call, Minus, Not, Binary, Within, Like, IsNull, Cast}
use Rattle.esql_ast.specs.declared.query.NameAt.{NameAt}
use Rattle.esql_ast.specs.declared.query.TextAt.{TextAt}
use Rattle.esql_ast.specs.declared.expr.Expr.{Expr, roll-Expr}
use Rattle.esql_ast.specs.declared.expr.Form.{Form}
use Rattle.esql_ast.specs.declared.expr.Form.TheOpen.{Form-F}
use Rattle.esql_ast.specs.declared.expr.Form.TheViews.{out-Form, outs-Constant, outs-List, outs-Column, outs-Group, outs-Call, outs-Minus, outs-Not, outs-Binary, outs-Within, outs-Like, outs-IsNull, outs-Cast}
use Rattle.esql_ast.specs.declared.expr.Form.TheFolds.{map-Form, fold_out-Expr, fold_out-Form}
use Rattle.esql_ast.specs.Numbering.{Numbering, node_id, size_all, numbering_in, own_before_inner, numbering_of, numbering_of_form, size_of, numbered, size_of_form, numbered_form}

-- an expression's own node has the first number, and its form the next
pub expr_numbering : (expr : Expr) → numbering_of expr ≡ record {
  size = 1 + size_of_form expr.form;
  at = λ node. roll-Expr (record { node = node_id node; span = expr.span; form = numbered_form expr.form (node + 1) });
}
expr_numbering expr = fold_out-Expr (Numbering Form) (Numbering Expr) numbering_in own_before_inner expr

pub expr_size : (expr : Expr) → size_of expr ≡ 1 + size_of_form expr.form
expr_size expr = ap (λ (numbering : Numbering Expr). numbering.size) (expr_numbering expr)

pub expr_numbered : (expr : Expr) (node : ℕ) → numbered expr node ≡ roll-Expr (record { node = node_id node; span = expr.span; form = numbered_form expr.form (node + 1) })
expr_numbered expr node = ap (λ (numbering : Numbering Expr). numbering.at node) (expr_numbering expr)

-- the numbering of a form, by one layer of it
pub form_numbering : (form : Form) (layer : Form-F Form Expr) → out-Form form ≡ layer
    → numbering_of_form form ≡ numbering_in (map-Form Form Expr (Numbering Form) (Numbering Expr) numbering_of_form numbering_of layer)
form_numbering form layer is =
    fold_out-Form (Numbering Form) (Numbering Expr) numbering_in own_before_inner form
    ∙ ap (λ (layer : Form-F Form Expr). numbering_in (map-Form Form Expr (Numbering Form) (Numbering Expr) numbering_of_form numbering_of layer)) is

-- how many nodes a form has within it, by one layer of it
pub form_size : (form : Form) (layer : Form-F Form Expr) → out-Form form ≡ layer
    → size_of_form form ≡ (numbering_in (map-Form Form Expr (Numbering Form) (Numbering Expr) numbering_of_form numbering_of layer)).size
form_size form layer is = ap (λ (numbering : Numbering Form). numbering.size) (form_numbering form layer is)

pub constant_size : (cell : Cell) (kind : Kind) → size_of_form (Constant cell kind) ≡ 0
constant_size cell kind = form_size _ _ (outs-Constant cell kind)

pub list_size : (values : List Value) → size_of_form (Listed values) ≡ 0
list_size values = form_size _ _ (outs-List values)

pub column_size : (name : Text) → size_of_form (Column name) ≡ 0
column_size name = form_size _ _ (outs-Column name)

pub group_size : (inner : Expr) → size_of_form (Group inner) ≡ size_of inner
group_size inner = form_size _ _ (outs-Group inner)

pub call_size : (function : NameAt) (args : List Expr) (star : Bool) → size_of_form (Call function args star) ≡ size_all (map numbering_of args)
call_size function args star = form_size _ _ (outs-Call function args star)

pub minus_size : (arg : Expr) → size_of_form (Minus arg) ≡ size_of arg
minus_size arg = form_size _ _ (outs-Minus arg)

pub not_size : (arg : Expr) → size_of_form (Not arg) ≡ size_of arg
not_size arg = form_size _ _ (outs-Not arg)

pub binary_size : (op : BinaryOp) (left right : Expr) → size_of_form (Binary op left right) ≡ size_of left + size_of right
binary_size op left right = form_size _ _ (outs-Binary op left right)

pub within_size : (negated : Bool) (left : Expr) (items : List Expr) → size_of_form (Within negated left items) ≡ size_of left + size_all (map numbering_of items)
within_size negated left items = form_size _ _ (outs-Within negated left items)

pub like_size : (negated regex : Bool) (left : Expr) (pattern : TextAt) → size_of_form (Like negated regex left pattern) ≡ size_of left
like_size negated regex left pattern = form_size _ _ (outs-Like negated regex left pattern)

pub is_null_size : (negated : Bool) (arg : Expr) → size_of_form (IsNull negated arg) ≡ size_of arg
is_null_size negated arg = form_size _ _ (outs-IsNull negated arg)

pub cast_size : (arg : Expr) (kind : NameAt) → size_of_form (Cast arg kind) ≡ size_of arg
cast_size arg kind = form_size _ _ (outs-Cast arg kind)
