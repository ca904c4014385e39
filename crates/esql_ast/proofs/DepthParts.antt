-- The depth of an expression and of each form, by its parts.
use Rattle.std.proofs.Common.{◌≡◌, ℕ, ◌+◌, max, Bool, List, [], ◌∷◌, ◌++◌, map, refl, ap, ◌∙◌}
use Rattle.std.proofs.lemmas.List.Recursion.{max_push}
use Rattle.esql_types.specs.declared.cell.Cell.{Cell}
use Rattle.esql_types.specs.declared.value.Kind.{Kind}
use Rattle.esql_types.specs.declared.value.Value.{Value}
use Rattle.esql_types.specs.declared.text.Text.{Text}
use Rattle.esql_ast.specs.declared.expr.BinaryOp.{BinaryOp}
use Rattle.esql_ast.specs.declared.expr.Expr.{Expr}
use Rattle.esql_ast.specs.declared.expr.Form.{Form}
use Rattle.esql_ast.specs.declared.expr.Form.TheOpen.{Form-F}
use Rattle.esql_ast.specs.declared.expr.Form.TheVariants.{Constant, List as Listed, Column, Group, Call, Minus, Not, Binary, Within, Like, IsNull, Cast}
use Rattle.esql_ast.specs.declared.expr.Form.TheViews.{out-Form, outs-Constant, outs-List, outs-Column, outs-Group, outs-Call, outs-Minus, outs-Not, outs-Binary, outs-Within, outs-Like, outs-IsNull, outs-Cast}
use Rattle.esql_ast.specs.declared.expr.Form.TheFolds.{map-Form, fold_out-Expr, fold_out-Form}
use Rattle.esql_ast.specs.declared.query.NameAt.{NameAt}
use Rattle.esql_ast.specs.declared.query.TextAt.{TextAt}
use Rattle.esql_ast.specs.Depths.{greatest, deepest_in, one_deeper, depth_of_expr, deepest_part}

-- the greatest depth of parts, of which one stands last
pub greatest_push : {Part : Type 0} (depth : Part → ℕ) (parts : List Part) (part : Part) → greatest (map depth (parts ++ part ∷ [])) ≡ max (greatest (map depth parts)) (depth part)
greatest_push {Part} depth parts part = max_push (λ (these : List Part). greatest (map depth these)) depth refl (λ one more. refl) parts part

-- an expression is one deeper than the deepest part of its form
pub expr_depth : (expr : Expr) → depth_of_expr expr ≡ 1 + deepest_part expr.form
expr_depth expr = fold_out-Expr ℕ ℕ deepest_in one_deeper expr

-- the deepest part of a form, by one layer of it
pub form_depth : (form : Form) (layer : Form-F Form Expr) → out-Form form ≡ layer → deepest_part form ≡ deepest_in (map-Form Form Expr ℕ ℕ deepest_part depth_of_expr layer)
form_depth form layer is =
    fold_out-Form ℕ ℕ deepest_in one_deeper form ∙ ap (λ (layer : Form-F Form Expr). deepest_in (map-Form Form Expr ℕ ℕ deepest_part depth_of_expr layer)) is

pub constant_depth : (cell : Cell) (kind : Kind) → deepest_part (Constant cell kind) ≡ 0
constant_depth cell kind = form_depth _ _ (outs-Constant cell kind)

pub list_depth : (values : List Value) → deepest_part (Listed values) ≡ 0
list_depth values = form_depth _ _ (outs-List values)

pub column_depth : (name : Text) → deepest_part (Column name) ≡ 0
column_depth name = form_depth _ _ (outs-Column name)

pub group_depth : (inner : Expr) → deepest_part (Group inner) ≡ depth_of_expr inner
group_depth inner = form_depth _ _ (outs-Group inner)

pub call_depth : (function : NameAt) (args : List Expr) (star : Bool) → deepest_part (Call function args star) ≡ greatest (map depth_of_expr args)
call_depth function args star = form_depth _ _ (outs-Call function args star)

pub minus_depth : (arg : Expr) → deepest_part (Minus arg) ≡ depth_of_expr arg
minus_depth arg = form_depth _ _ (outs-Minus arg)

pub not_depth : (arg : Expr) → deepest_part (Not arg) ≡ depth_of_expr arg
not_depth arg = form_depth _ _ (outs-Not arg)

pub binary_depth : (op : BinaryOp) (left right : Expr) → deepest_part (Binary op left right) ≡ max (depth_of_expr left) (depth_of_expr right)
binary_depth op left right = form_depth _ _ (outs-Binary op left right)

pub within_depth : (negated : Bool) (left : Expr) (items : List Expr) → deepest_part (Within negated left items) ≡ max (depth_of_expr left) (greatest (map depth_of_expr items))
within_depth negated left items = form_depth _ _ (outs-Within negated left items)

pub like_depth : (negated regex : Bool) (left : Expr) (pattern : TextAt) → deepest_part (Like negated regex left pattern) ≡ depth_of_expr left
like_depth negated regex left pattern = form_depth _ _ (outs-Like negated regex left pattern)

pub is_null_depth : (negated : Bool) (arg : Expr) → deepest_part (IsNull negated arg) ≡ depth_of_expr arg
is_null_depth negated arg = form_depth _ _ (outs-IsNull negated arg)

pub cast_depth : (arg : Expr) (kind : NameAt) → deepest_part (Cast arg kind) ≡ depth_of_expr arg
cast_depth arg kind = form_depth _ _ (outs-Cast arg kind)
