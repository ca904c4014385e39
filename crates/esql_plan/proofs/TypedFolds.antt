-- The folds over a typed expression, by its form.
use Rattle.std.proofs.Common.{◌≡◌, ℕ, true, ◌&&◌, List, [], ◌∷◌, map, Option, None, refl, ap, ◌∙◌}
use Rattle.std.specs.List.{flat_map, list_all}
use Rattle.std.proofs.lemmas.List.Folds.{flat_map-map}
use Rattle.esql_types.specs.declared.value.Value.{Value}
use Rattle.esql_types.specs.declared.value.Kind.{Kind}
use Rattle.esql_types.specs.declared.names.NodeId.{NodeId}
use Rattle.esql_types.specs.declared.names.ColId.{ColId}
use Rattle.esql_plan.specs.declared.function.Function.{Function}
use Rattle.esql_plan.specs.declared.typed.TypedExpr.{TypedExpr}
use Rattle.esql_plan.specs.declared.typed.TypedForm.{TypedForm}
use Rattle.esql_plan.specs.declared.typed.TypedForm.TheOpen.{TypedExpr-F, TypedForm-F}
use Rattle.esql_plan.specs.declared.typed.TypedForm.TheVariants.{Constant, Column, Apply}
use Rattle.esql_plan.specs.declared.typed.TypedForm.TheViews.{out-TypedForm, outs-Constant, outs-Column, outs-Apply}
use Rattle.esql_plan.specs.declared.typed.TypedForm.TheFolds.{fold-TypedExpr, fold-TypedForm, map-TypedForm, fold_out-TypedExpr, fold_out-TypedForm}
use Rattle.esql_plan.specs.Values.{Valued, NumberedRow, silent, applied, value_of_form, value_of_typed}
use Rattle.esql_plan.specs.Fits.{Part, ReadColumn, part_of, part_of_form, call_fits, literal_in, has_kind, columns_read, columns_of_form}

pub map_map : {A B C : Type 0} (f : B → C) (g : A → B) (xs : List A) → map f (map g xs) ≡ map (λ x. f (g x)) xs
map_map f g [] = refl
map_map f g (x ∷ xs) = ap (λ rest. f (g x) ∷ rest) (map_map f g xs)

module _ (A B : Type 0) (of_form : TypedForm-F A B → A) (of_expr : TypedExpr-F A B → B) where
  -- a form's fold by what the form is made of
  opened : (form : TypedForm) (layer : TypedForm-F TypedForm TypedExpr) → out-TypedForm form ≡ layer
      → fold-TypedForm A B of_form of_expr form ≡ of_form (map-TypedForm TypedForm TypedExpr A B (fold-TypedForm A B of_form of_expr) (fold-TypedExpr A B of_form of_expr) layer)
  opened form layer is =
      fold_out-TypedForm A B of_form of_expr form
      ∙ ap (λ (these : TypedForm-F TypedForm TypedExpr). of_form (map-TypedForm TypedForm TypedExpr A B (fold-TypedForm A B of_form of_expr) (fold-TypedExpr A B of_form of_expr) these)) is

  -- an expression's fold by its form
  by_form : (expr : TypedExpr) (form : TypedForm) → expr.form ≡ form
      → fold-TypedExpr A B of_form of_expr expr ≡ of_expr (record { node = expr.node; kind = expr.kind; form = fold-TypedForm A B of_form of_expr form })
  by_form expr form is =
      fold_out-TypedExpr A B of_form of_expr expr
      ∙ ap (λ (form : TypedForm). of_expr (record { node = expr.node; kind = expr.kind; form = fold-TypedForm A B of_form of_expr form })) is

-- the value --------------------------------------------------------------------------------------------------------------------

abbrev value_at : TypedExpr-F (NodeId → NumberedRow → Valued) (NumberedRow → Valued) → NumberedRow → Valued
value_at expr = expr.form expr.node

module _ (expr : TypedExpr) (row : NumberedRow) where
  pub value_of_constant : (cell : List Value) → expr.form ≡ Constant cell → value_of_typed expr row ≡ silent cell
  value_of_constant cell is =
      ap (λ f. f row) (by_form (NodeId → NumberedRow → Valued) (NumberedRow → Valued) value_of_form value_at expr (Constant cell) is)
      ∙ ap (λ f. f expr.node row) (opened (NodeId → NumberedRow → Valued) (NumberedRow → Valued) value_of_form value_at (Constant cell) _ (outs-Constant cell))

  pub value_of_column : (id : ColId) → expr.form ≡ Column id → value_of_typed expr row ≡ silent (row id.0)
  value_of_column id is =
      ap (λ f. f row) (by_form (NodeId → NumberedRow → Valued) (NumberedRow → Valued) value_of_form value_at expr (Column id) is)
      ∙ ap (λ f. f expr.node row) (opened (NodeId → NumberedRow → Valued) (NumberedRow → Valued) value_of_form value_at (Column id) _ (outs-Column id))

  pub value_of_call : (function : Function) (args : List TypedExpr) (pattern : Option ℕ) → expr.form ≡ Apply function args pattern
      → value_of_typed expr row ≡ applied function expr.node (map (λ arg. value_of_typed arg row) args)
  value_of_call function args pattern is =
      ap (λ f. f row) (by_form (NodeId → NumberedRow → Valued) (NumberedRow → Valued) value_of_form value_at expr (Apply function args pattern) is)
      ∙ ap (λ f. f expr.node row) (opened (NodeId → NumberedRow → Valued) (NumberedRow → Valued) value_of_form value_at (Apply function args pattern) _ (outs-Apply function args pattern))
      ∙ ap (applied function expr.node) (map_map (λ (arg : NumberedRow → Valued). arg row) value_of_typed args)

-- what is well formed ------------------------------------------------------------------------------------------------------------

abbrev part_at : TypedExpr-F (Kind → Part) Part → Part
part_at expr = expr.form expr.kind

module _ (whole free : List (List ℕ)) (expr : TypedExpr) where
  pub part_of_constant : (cell : List Value) → expr.form ≡ Constant cell
      → part_of whole free expr ≡ record { kind = expr.kind; literal = literal_in cell; fits = has_kind expr.kind cell }
  part_of_constant cell is =
      by_form (Kind → Part) Part (part_of_form whole free) part_at expr (Constant cell) is
      ∙ ap (λ f. f expr.kind) (opened (Kind → Part) Part (part_of_form whole free) part_at (Constant cell) _ (outs-Constant cell))

  pub part_of_column : (id : ColId) → expr.form ≡ Column id → part_of whole free expr ≡ record { kind = expr.kind; literal = None; fits = true }
  part_of_column id is =
      by_form (Kind → Part) Part (part_of_form whole free) part_at expr (Column id) is
      ∙ ap (λ f. f expr.kind) (opened (Kind → Part) Part (part_of_form whole free) part_at (Column id) _ (outs-Column id))

  pub part_of_call : (function : Function) (args : List TypedExpr) (pattern : Option ℕ) → expr.form ≡ Apply function args pattern
      → part_of whole free expr ≡ record {
        kind = expr.kind;
        literal = None;
        fits = list_all (λ (part : Part). part.fits) (map (part_of whole free) args) && call_fits whole free function (map (part_of whole free) args) pattern expr.kind;
      }
  part_of_call function args pattern is =
      by_form (Kind → Part) Part (part_of_form whole free) part_at expr (Apply function args pattern) is
      ∙ ap (λ f. f expr.kind) (opened (Kind → Part) Part (part_of_form whole free) part_at (Apply function args pattern) _ (outs-Apply function args pattern))

-- the columns that are read --------------------------------------------------------------------------------------------------------

abbrev columns_at : TypedExpr-F (Kind → List ReadColumn) (List ReadColumn) → List ReadColumn
columns_at expr = expr.form expr.kind

module _ (expr : TypedExpr) where
  pub columns_of_constant : (cell : List Value) → expr.form ≡ Constant cell → columns_read expr ≡ []
  columns_of_constant cell is =
      by_form (Kind → List ReadColumn) (List ReadColumn) columns_of_form columns_at expr (Constant cell) is
      ∙ ap (λ f. f expr.kind) (opened (Kind → List ReadColumn) (List ReadColumn) columns_of_form columns_at (Constant cell) _ (outs-Constant cell))

  pub columns_of_column : (id : ColId) → expr.form ≡ Column id → columns_read expr ≡ record { id = id; kind = expr.kind } ∷ []
  columns_of_column id is =
      by_form (Kind → List ReadColumn) (List ReadColumn) columns_of_form columns_at expr (Column id) is
      ∙ ap (λ f. f expr.kind) (opened (Kind → List ReadColumn) (List ReadColumn) columns_of_form columns_at (Column id) _ (outs-Column id))

  pub columns_of_call : (function : Function) (args : List TypedExpr) (pattern : Option ℕ) → expr.form ≡ Apply function args pattern
      → columns_read expr ≡ flat_map columns_read args
  columns_of_call function args pattern is =
      by_form (Kind → List ReadColumn) (List ReadColumn) columns_of_form columns_at expr (Apply function args pattern) is
      ∙ ap (λ f. f expr.kind) (opened (Kind → List ReadColumn) (List ReadColumn) columns_of_form columns_at (Apply function args pattern) _ (outs-Apply function args pattern))
      ∙ flat_map-map (λ (columns : List ReadColumn). columns) columns_read args
