-- The nodes of an expression and of each form, by its parts.
use Rattle.std.proofs.Common.{◌≡◌, refl, Bool, List, [], map, ◌∷◌, ◌++◌, ap, ◌∙◌}
use Rattle.std.specs.List.{flat_map}
use Rattle.esql_ast.specs.declared.nodes.NodeAt.{NodeAt}
use Rattle.esql_ast.specs.declared.expr.Expr.{Expr}
use Rattle.esql_ast.specs.declared.expr.BinaryOp.{BinaryOp}
use Rattle.esql_ast.specs.declared.expr.Form.{Form}
use Rattle.esql_ast.specs.declared.expr.Form.TheOpen.{Form-F}
use Rattle.esql_ast.specs.declared.expr.Form.TheVariants.{Constant, List as Listed, Column, Group, Call, Minus, Not, Binary, Within, Like, IsNull, Cast}
use Rattle.esql_ast.specs.declared.expr.Form.TheViews.{out-Form, outs-Constant, outs-List, outs-Column, outs-Group, outs-Call, outs-Minus, outs-Not, outs-Binary, outs-Within, outs-Like, outs-IsNull, outs-Cast}
use Rattle.esql_ast.specs.declared.expr.Form.TheFolds.{map-Form, fold_out-Expr, fold_out-Form}
use Rattle.esql_ast.specs.declared.query.NameAt.{NameAt}
use Rattle.esql_ast.specs.declared.query.TextAt.{TextAt}
use Rattle.esql_types.specs.declared.cell.Cell.{Cell}
use Rattle.esql_types.specs.declared.value.Kind.{Kind}
use Rattle.esql_types.specs.declared.value.Value.{Value}
use Rattle.esql_types.specs.declared.text.Text.{Text}
use Rattle.esql_ast.specs.Nodes.{nodes_in, own_and_inner, nodes_of_expr, nodes_of_form}

pub joined_map : {X Y : Type 0} (f : X → List Y) (xs : List X) → flat_map (λ parts. parts) (map f xs) ≡ flat_map f xs
joined_map f [] = refl
joined_map {Y = Y} f (x ∷ xs) = ap (λ (parts : List Y). f x ++ parts) (joined_map f xs)

-- the nodes of an expression: its own, then those of its form
pub expr_nodes : (expr : Expr) → nodes_of_expr expr ≡ record { node = expr.node; span = expr.span } ∷ nodes_of_form expr.form
expr_nodes expr = fold_out-Expr (List NodeAt) (List NodeAt) nodes_in own_and_inner expr

-- the nodes of a form, by one layer of it
pub form_nodes : (form : Form) (layer : Form-F Form Expr) → out-Form form ≡ layer
    → nodes_of_form form ≡ nodes_in (map-Form Form Expr (List NodeAt) (List NodeAt) nodes_of_form nodes_of_expr layer)
form_nodes form layer is =
    fold_out-Form (List NodeAt) (List NodeAt) nodes_in own_and_inner form
    ∙ ap (λ (layer : Form-F Form Expr). nodes_in (map-Form Form Expr (List NodeAt) (List NodeAt) nodes_of_form nodes_of_expr layer)) is

pub constant_nodes : (cell : Cell) (kind : Kind) → nodes_of_form (Constant cell kind) ≡ []
constant_nodes cell kind = form_nodes _ _ (outs-Constant cell kind)

pub list_nodes : (values : List Value) → nodes_of_form (Listed values) ≡ []
list_nodes values = form_nodes _ _ (outs-List values)

pub column_nodes : (name : Text) → nodes_of_form (Column name) ≡ []
column_nodes name = form_nodes _ _ (outs-Column name)

pub group_nodes : (inner : Expr) → nodes_of_form (Group inner) ≡ nodes_of_expr inner
group_nodes inner = form_nodes _ _ (outs-Group inner)

pub call_nodes : (function : NameAt) (args : List Expr) (star : Bool) → nodes_of_form (Call function args star) ≡ flat_map nodes_of_expr args
call_nodes function args star = form_nodes _ _ (outs-Call function args star) ∙ joined_map nodes_of_expr args

pub minus_nodes : (arg : Expr) → nodes_of_form (Minus arg) ≡ nodes_of_expr arg
minus_nodes arg = form_nodes _ _ (outs-Minus arg)

pub not_nodes : (arg : Expr) → nodes_of_form (Not arg) ≡ nodes_of_expr arg
not_nodes arg = form_nodes _ _ (outs-Not arg)

pub binary_nodes : (op : BinaryOp) (left right : Expr) → nodes_of_form (Binary op left right) ≡ nodes_of_expr left ++ nodes_of_expr right
binary_nodes op left right = form_nodes _ _ (outs-Binary op left right)

pub within_nodes : (negated : Bool) (left : Expr) (items : List Expr) → nodes_of_form (Within negated left items) ≡ nodes_of_expr left ++ flat_map nodes_of_expr items
within_nodes negated left items =
    form_nodes _ _ (outs-Within negated left items) ∙ ap (λ (places : List NodeAt). nodes_of_expr left ++ places) (joined_map nodes_of_expr items)

pub like_nodes : (negated regex : Bool) (left : Expr) (pattern : TextAt) → nodes_of_form (Like negated regex left pattern) ≡ nodes_of_expr left
like_nodes negated regex left pattern = form_nodes _ _ (outs-Like negated regex left pattern)

pub is_null_nodes : (negated : Bool) (arg : Expr) → nodes_of_form (IsNull negated arg) ≡ nodes_of_expr arg
is_null_nodes negated arg = form_nodes _ _ (outs-IsNull negated arg)

pub cast_nodes : (arg : Expr) (kind : NameAt) → nodes_of_form (Cast arg kind) ≡ nodes_of_expr arg
cast_nodes arg kind = form_nodes _ _ (outs-Cast arg kind)
