-- What a walk over an expression finds, form by form.
use Rattle.std.proofs.Common.{◌≡◌, Bool, List, [], ◌∷◌, ◌++◌, map, refl, ap, sym, append_assoc, ◌∙◌}
use Rattle.std.specs.Prelude.{slice_get}
use Rattle.esql_ast.specs.declared.expr.BinaryOp.{BinaryOp}
use Rattle.esql_ast.specs.declared.expr.Expr.{Expr}
use Rattle.esql_ast.specs.declared.expr.Form.TheVariants.{Call, Binary, Within}
use Rattle.esql_ast.specs.declared.expr.Form.TheViews.{outs-Call, outs-Binary, outs-Within}
use Rattle.esql_ast.specs.declared.query.NameAt.{NameAt}
use Rattle.esql_plan.specs.Names.{function_named, aggregate_named}
use Rattle.query_semantics.specs.Calls.{argument_in, calls_in, columns_in, calls_in_call, columns_in_call, opened, calls_of, outside_columns}
use Rattle.query_semantics.proofs.CallsOpened.{calls_by, columns_by, argument_is}

pub first_argument : (exprs : List Expr) → slice_get exprs 0 ≡ argument_in (map opened exprs)
first_argument [] = refl
first_argument (expr ∷ exprs) = sym (argument_is expr)

pub call_calls : (expr : Expr) (function : NameAt) (args : List Expr) (star : Bool) → expr.form ≡ Call function args star
    → calls_of expr ≡ calls_in_call (function_named function.name) (aggregate_named function.name) star (map opened args) expr.node
call_calls expr function args star is = calls_by expr (Call function args star) _ is (outs-Call function args star)

pub call_columns : (expr : Expr) (function : NameAt) (args : List Expr) (star : Bool) → expr.form ≡ Call function args star
    → outside_columns expr ≡ columns_in_call (function_named function.name) (aggregate_named function.name) (map opened args)
call_columns expr function args star is = columns_by expr (Call function args star) _ is (outs-Call function args star)

pub binary_calls : (expr : Expr) (op : BinaryOp) (left right : Expr) → expr.form ≡ Binary op left right → calls_of expr ≡ calls_of left ++ calls_of right
binary_calls expr op left right is = calls_by expr (Binary op left right) _ is (outs-Binary op left right)

pub binary_columns : (expr : Expr) (op : BinaryOp) (left right : Expr) → expr.form ≡ Binary op left right → outside_columns expr ≡ outside_columns left ++ outside_columns right
binary_columns expr op left right is = columns_by expr (Binary op left right) _ is (outs-Binary op left right)

pub within_calls : (expr : Expr) (negated : Bool) (left : Expr) (items : List Expr) → expr.form ≡ Within negated left items → calls_of expr ≡ calls_of left ++ calls_in (map opened items)
within_calls expr negated left items is = calls_by expr (Within negated left items) _ is (outs-Within negated left items)

pub within_columns : (expr : Expr) (negated : Bool) (left : Expr) (items : List Expr) → expr.form ≡ Within negated left items → outside_columns expr ≡ outside_columns left ++ columns_in (map opened items)
within_columns expr negated left items is = columns_by expr (Within negated left items) _ is (outs-Within negated left items)

-- what is found of a part is found behind what was found before
pub found_behind : {A : Type 0} (before mid first rest all : List A) → mid ≡ before ++ first → all ≡ first ++ rest → mid ++ rest ≡ before ++ all
found_behind {A} before mid first rest all is are =
    ap (λ (these : List A). these ++ rest) is ∙ append_assoc before first rest ∙ ap (λ (these : List A). before ++ these) (sym are)
