-- Induction on typed expressions.
use Rattle.std.proofs.Common.{ℕ, List, [], ◌∷◌, map, All, Option, subst}
use Rattle.std.proofs.lemmas.List.Elements.{All-nil, All-cons}
use denote.Hole.Holds.{Such}
use Rattle.esql_types.specs.declared.value.Value.{Value}
use Rattle.esql_types.specs.declared.value.Kind.{Kind}
use Rattle.esql_types.specs.declared.names.NodeId.{NodeId}
use Rattle.esql_types.specs.declared.names.ColId.{ColId}
use Rattle.esql_plan.specs.declared.function.Function.{Function}
use Rattle.esql_plan.specs.declared.typed.TypedExpr.{TypedExpr}
use Rattle.esql_plan.specs.declared.typed.TypedForm.{TypedForm}
use Rattle.esql_plan.specs.declared.typed.TypedForm.TheBlock.{the_family, member-TypedForm, member-TypedExpr}
use Rattle.esql_plan.specs.declared.typed.TypedForm.TheOpen.{TypedExpr-F, TypedForm-F, Constant, Column, Apply}
use Rattle.esql_plan.specs.declared.typed.TypedForm.TheVariants as typed
use Rattle.esql_plan.specs.declared.typed.TypedForm.TheViews.{roll-TypedForm, roll-TypedExpr}
use Rattle.esql_plan.specs.declared.typed.TypedForm.TheFolds.{claims, map-TypedForm, ind-TypedExpr}
use Rattle.esql_plan.specs.Exprs.{typed_at}

pub record Cases (P : TypedExpr → Type 0) : Type 0 where
  pub constant : (node : NodeId) (kind : Kind) (cell : List Value) → P (typed_at node kind (typed.Constant cell))
  pub column : (node : NodeId) (kind : Kind) (id : ColId) → P (typed_at node kind (typed.Column id))
  pub apply : (node : NodeId) (kind : Kind) (function : Function) (args : List TypedExpr) (pattern : Option ℕ) → All P args → P (typed_at node kind (typed.Apply function args pattern))

abbrev FormClaim : (TypedExpr → Type 0) → TypedForm → Type 0
FormClaim P form = (node : NodeId) (kind : Kind) → P (typed_at node kind form)

abbrev GoodForm : (TypedExpr → Type 0) → Type 0
GoodForm P = Such the_family (claims (FormClaim P) P) member-TypedForm

abbrev GoodExpr : (TypedExpr → Type 0) → Type 0
GoodExpr P = Such the_family (claims (FormClaim P) P) member-TypedExpr

all_good : (P : TypedExpr → Type 0) (goods : List (GoodExpr P)) → All P (map (λ (good : GoodExpr P). good.0) goods)
all_good P [] = All-nil P
all_good P (good ∷ goods) = All-cons P good.0 (map (λ (good : GoodExpr P). good.0) goods) good.1 (all_good P goods)

form_case : (P : TypedExpr → Type 0) → Cases P → (layer : TypedForm-F (GoodForm P) (GoodExpr P))
    → FormClaim P (roll-TypedForm (map-TypedForm (GoodForm P) (GoodExpr P) TypedForm TypedExpr (λ (good : GoodForm P). good.0) (λ (good : GoodExpr P). good.0) layer))
unfolding roll-TypedForm denote.Hole.Carrier.roll
form_case P cases (Constant cell) = λ node kind. cases.constant node kind cell
form_case P cases (Column id) = λ node kind. cases.column node kind id
form_case P cases (Apply function args pattern) = λ node kind. cases.apply node kind function (map (λ (good : GoodExpr P). good.0) args) pattern (all_good P args)

-- what holds of constants, of columns, and of functions of parts of which it holds, holds of every expression
pub typed_ind : (P : TypedExpr → Type 0) → Cases P → (expr : TypedExpr) → P expr
typed_ind P cases =
    ind-TypedExpr (FormClaim P) P
    (λ layer goods is. let Q : TypedForm-F TypedForm TypedExpr → Type 0 = λ these. FormClaim P (roll-TypedForm these) in subst Q is (form_case P cases goods))
    (λ own good is. let Q : TypedExpr-F TypedForm TypedExpr → Type 0 = λ this. P (roll-TypedExpr this) in subst Q is (good.form.1 good.node good.kind))
