-- The parts and the nodes of a typed expression, by its form.
use Rattle.std.proofs.Common.{◌≡◌, ℕ, List, [], ◌∷◌, ◌++◌, map, Option, ap, ◌∙◌}
use Rattle.std.specs.List.{flat_map}
use Rattle.std.proofs.lemmas.List.Folds.{flat_map-map}
use Rattle.esql_types.specs.declared.value.Value.{Value}
use Rattle.esql_types.specs.declared.names.NodeId.{NodeId}
use Rattle.esql_types.specs.declared.names.ColId.{ColId}
use Rattle.esql_plan.specs.declared.function.Function.{Function}
use Rattle.esql_plan.specs.declared.typed.TypedExpr.{TypedExpr}
use Rattle.esql_plan.specs.declared.typed.TypedForm.{TypedForm}
use Rattle.esql_plan.specs.declared.typed.TypedForm.TheOpen.{TypedExpr-F, TypedForm-F}
use Rattle.esql_plan.specs.declared.typed.TypedForm.TheOpen as open_form
use Rattle.esql_plan.specs.declared.typed.TypedForm.TheVariants.{Constant, Column, Apply}
use Rattle.esql_plan.specs.declared.typed.TypedForm.TheViews.{out-TypedForm, outs-Constant, outs-Column, outs-Apply}
use Rattle.esql_plan.specs.declared.typed.TypedForm.TheFolds.{fold-TypedExpr, fold-TypedForm, map-TypedForm, fold_out-TypedExpr, fold_out-TypedForm}
use Rattle.plan_semantics.specs.Parts.{Parted, parted_form, parted}
use Rattle.plan_semantics.specs.WellFormed.{nodes_of_form, nodes_of}

module _ (A B : Type 0) (of_form : TypedForm-F A B → A) (of_expr : TypedExpr-F A B → B) where
  -- a form's fold by what the form is made of
  opened : (form : TypedForm) (layer : TypedForm-F TypedForm TypedExpr) → out-TypedForm form ≡ layer
      → fold-TypedForm A B of_form of_expr form ≡ of_form (map-TypedForm TypedForm TypedExpr A B (fold-TypedForm A B of_form of_expr) (fold-TypedExpr A B of_form of_expr) layer)
  opened form layer is =
      fold_out-TypedForm A B of_form of_expr form
      ∙ ap (λ (these : TypedForm-F TypedForm TypedExpr). of_form (map-TypedForm TypedForm TypedExpr A B (fold-TypedForm A B of_form of_expr) (fold-TypedExpr A B of_form of_expr) these)) is

  -- an expression's fold by its form
  by_form : (expr : TypedExpr) (form : TypedForm) → expr.form ≡ form
      → fold-TypedExpr A B of_form of_expr expr ≡ of_expr (record { node = expr.node; kind = expr.kind; form = fold-TypedForm A B of_form of_expr form })
  by_form expr form is =
      fold_out-TypedExpr A B of_form of_expr expr
      ∙ ap (λ (form : TypedForm). of_expr (record { node = expr.node; kind = expr.kind; form = fold-TypedForm A B of_form of_expr form })) is

abbrev parted_at : TypedExpr-F (NodeId → Parted) Parted → Parted
parted_at expr = expr.form expr.node

abbrev nodes_at : TypedExpr-F (NodeId → List NodeId) (List NodeId) → List NodeId
nodes_at expr = expr.form expr.node

module _ (expr : TypedExpr) where
  pub parted_of_constant : (cell : List Value) → expr.form ≡ Constant cell → parted expr ≡ parted_form (open_form.Constant cell) expr.node
  parted_of_constant cell is =
      by_form (NodeId → Parted) Parted parted_form parted_at expr (Constant cell) is
      ∙ ap (λ f. f expr.node) (opened (NodeId → Parted) Parted parted_form parted_at (Constant cell) _ (outs-Constant cell))

  pub parted_of_column : (id : ColId) → expr.form ≡ Column id → parted expr ≡ parted_form (open_form.Column id) expr.node
  parted_of_column id is =
      by_form (NodeId → Parted) Parted parted_form parted_at expr (Column id) is
      ∙ ap (λ f. f expr.node) (opened (NodeId → Parted) Parted parted_form parted_at (Column id) _ (outs-Column id))

  pub parted_of_call : (function : Function) (args : List TypedExpr) (pattern : Option ℕ) → expr.form ≡ Apply function args pattern
      → parted expr ≡ parted_form (open_form.Apply function (map parted args) pattern) expr.node
  parted_of_call function args pattern is =
      by_form (NodeId → Parted) Parted parted_form parted_at expr (Apply function args pattern) is
      ∙ ap (λ f. f expr.node) (opened (NodeId → Parted) Parted parted_form parted_at (Apply function args pattern) _ (outs-Apply function args pattern))

  pub nodes_of_constant : (cell : List Value) → expr.form ≡ Constant cell → nodes_of expr ≡ []
  nodes_of_constant cell is =
      by_form (NodeId → List NodeId) (List NodeId) nodes_of_form nodes_at expr (Constant cell) is
      ∙ ap (λ f. f expr.node) (opened (NodeId → List NodeId) (List NodeId) nodes_of_form nodes_at (Constant cell) _ (outs-Constant cell))

  pub nodes_of_column : (id : ColId) → expr.form ≡ Column id → nodes_of expr ≡ []
  nodes_of_column id is =
      by_form (NodeId → List NodeId) (List NodeId) nodes_of_form nodes_at expr (Column id) is
      ∙ ap (λ f. f expr.node) (opened (NodeId → List NodeId) (List NodeId) nodes_of_form nodes_at (Column id) _ (outs-Column id))

  pub nodes_of_call : (function : Function) (args : List TypedExpr) (pattern : Option ℕ) → expr.form ≡ Apply function args pattern
      → nodes_of expr ≡ flat_map nodes_of args ++ expr.node ∷ []
  nodes_of_call function args pattern is =
      by_form (NodeId → List NodeId) (List NodeId) nodes_of_form nodes_at expr (Apply function args pattern) is
      ∙ ap (λ f. f expr.node) (opened (NodeId → List NodeId) (List NodeId) nodes_of_form nodes_at (Apply function args pattern) _ (outs-Apply function args pattern))
      ∙ ap (λ these. these ++ expr.node ∷ []) (flat_map-map (λ (nodes : List NodeId). nodes) nodes_of args)
