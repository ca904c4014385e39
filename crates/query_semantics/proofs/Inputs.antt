-- The column that a typed expression is, if it is one.
use Rattle.std.proofs.Common.{◌≡◌, ℕ, List, [], ◌∷◌, Option, Some, None, refl, ap, sym, ◌∙◌}
use Rattle.esql_types.specs.declared.value.Value.{Value}
use Rattle.esql_types.specs.declared.names.ColId.{ColId}
use Rattle.esql_plan.specs.declared.function.Function.{Function}
use Rattle.esql_plan.specs.declared.typed.TypedExpr.{TypedExpr}
use Rattle.esql_plan.specs.declared.typed.TypedForm.{TypedForm}
use Rattle.esql_plan.specs.declared.typed.TypedForm.TheOpen.{TypedExpr-F, TypedForm-F}
use Rattle.esql_plan.specs.declared.typed.TypedForm.TheVariants.{Constant, Column, Apply}
use Rattle.esql_plan.specs.declared.typed.TypedForm.TheViews.{out-TypedForm, outs-Constant, outs-Column, outs-Apply}
use Rattle.esql_plan.specs.declared.typed.TypedForm.TheFolds.{fold-TypedForm, map-TypedForm, fold_out-TypedExpr, fold_out-TypedForm}
use Rattle.esql_plan.specs.Values.{NumberedRow, silent, value_of_typed}
use Rattle.esql_plan.specs.Fits.{columns_read}
use Rattle.esql_plan.proofs.Inductions.{typed_ind}
use Rattle.esql_plan.proofs.TypedFolds.{value_of_column, columns_of_column}
use Rattle.query_semantics.specs.Writings.{column_of_form, column_of_typed}

abbrev form_of : TypedExpr-F (Option ColId) (Option ColId) → Option ColId
form_of expr = expr.form

abbrev form_in : TypedForm-F TypedForm TypedExpr → TypedForm-F (Option ColId) (Option ColId)
form_in = map-TypedForm TypedForm TypedExpr (Option ColId) (Option ColId) (fold-TypedForm (Option ColId) (Option ColId) column_of_form form_of) column_of_typed

by_form : (expr : TypedExpr) (form : TypedForm) (layer : TypedForm-F TypedForm TypedExpr) → expr.form ≡ form → out-TypedForm form ≡ layer → column_of_typed expr ≡ column_of_form (form_in layer)
by_form expr form layer is opened =
    fold_out-TypedExpr (Option ColId) (Option ColId) column_of_form form_of expr
    ∙ ap (fold-TypedForm (Option ColId) (Option ColId) column_of_form form_of) is
    ∙ fold_out-TypedForm (Option ColId) (Option ColId) column_of_form form_of form
    ∙ ap (λ (these : TypedForm-F TypedForm TypedExpr). column_of_form (form_in these)) opened

-- by the form
pub column_of_constant : (expr : TypedExpr) (cell : List Value) → expr.form ≡ Constant cell → column_of_typed expr ≡ None
column_of_constant expr cell is = by_form expr (Constant cell) _ is (outs-Constant cell)

pub column_of_column : (expr : TypedExpr) (id : ColId) → expr.form ≡ Column id → column_of_typed expr ≡ Some id
column_of_column expr id is = by_form expr (Column id) _ is (outs-Column id)

pub column_of_call : (expr : TypedExpr) (function : Function) (args : List TypedExpr) (pattern : Option ℕ) → expr.form ≡ Apply function args pattern → column_of_typed expr ≡ None
column_of_call expr function args pattern is = by_form expr (Apply function args pattern) _ is (outs-Apply function args pattern)

-- an expression that is a column has its form
pub column_is : (expr : TypedExpr) (id : ColId) → column_of_typed expr ≡ Some id → expr.form ≡ Column id
column_is = typed_ind (λ expr. (id : ColId) → column_of_typed expr ≡ Some id → expr.form ≡ Column id) (record {
  constant = λ node kind cell id is. absurd (let both : ◌≡◌ {A = Option ColId} None (Some id) = sym (column_of_constant _ cell refl) ∙ is in cc);
  column = λ node kind own id is. (let both : ◌≡◌ {A = Option ColId} (Some own) (Some id) = sym (column_of_column _ own refl) ∙ is in let same : own ≡ id = cc in ap Column same);
  apply = λ node kind function args pattern all id is. absurd (let both : ◌≡◌ {A = Option ColId} None (Some id) = sym (column_of_call _ function args pattern refl) ∙ is in cc);
})

-- its value is the cell of the column, without failures
pub column_valued : (expr : TypedExpr) (id : ColId) → column_of_typed expr ≡ Some id → (row : NumberedRow) → value_of_typed expr row ≡ silent (row id.0)
column_valued expr id is row = value_of_column expr row id (column_is expr id is)

-- and it reads the column alone
pub column_read : (expr : TypedExpr) (id : ColId) → column_of_typed expr ≡ Some id → columns_read expr ≡ record { id = id; kind = expr.kind } ∷ []
column_read expr id is = columns_of_column expr id (column_is expr id is)
