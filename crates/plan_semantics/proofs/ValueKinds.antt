-- The value of an expression that is well formed has its kind.
use Rattle.std.proofs.Common.{◌≡◌, ℕ, suc, true, List, [], ◌∷◌, map, length, All, Option, Some, None, refl, ap, sym, subst, ◌∙◌}
use Rattle.std.proofs.lemmas.List.Elements.{All-head, All-tail}
use Rattle.esql_types.specs.declared.value.Kind.{Kind}
use Rattle.esql_plan.specs.declared.function.Function.{Function}
use Rattle.esql_plan.specs.declared.typed.TypedExpr.{TypedExpr}
use Rattle.esql_plan.specs.declared.typed.TypedForm.TheVariants.{Apply}
use Rattle.esql_plan.specs.Signatures.{signature_of, is_count, misfit, kind_of_call, kind_unless}
use Rattle.esql_plan.specs.Values.{Valued, NumberedRow, applied, value_of_typed}
use Rattle.esql_plan.specs.Fits.{Part, ExprFits, RowFits, ReadColumn, part_of, is_result, columns_read, has_kind}
use Rattle.esql_plan.proofs.TypedFolds.{part_of_constant, part_of_column, part_of_call, value_of_constant, value_of_column, value_of_call, columns_of_column, columns_of_call}
use Rattle.esql_plan.proofs.Fitting.{fits_call, call_parts}
use Rattle.esql_plan.proofs.Inductions.{typed_ind}
use Rattle.plan_semantics.proofs.Reading.{parts_read}
use Rattle.plan_semantics.proofs.ResultKinds.{Has, HaveKinds, kinds_same, result_has_kind}

-- what is seen of an expression has its kind
part_kind : (whole free : List (List ℕ)) (expr : TypedExpr) → (part_of whole free expr).kind ≡ expr.kind
part_kind whole free = typed_ind (λ expr. (part_of whole free expr).kind ≡ expr.kind) (record {
  constant = λ node kind cell. ap (λ (part : Part). part.kind) (part_of_constant whole free _ cell refl);
  column = λ node kind id. ap (λ (part : Part). part.kind) (part_of_column whole free _ id refl);
  apply = λ node kind function args pattern all. ap (λ (part : Part). part.kind) (part_of_call whole free _ function args pattern refl);
})

-- the kind of a call whose arguments fit
record IsCall (function : Function) (kinds : List Kind) (kind : Kind) : Type 0 where
  fits : misfit function kinds ≡ None
  is : kind_of_call function kinds ≡ kind

call_of : (function : Function) (kinds : List Kind) (kind : Kind) (place : Option ℕ) → misfit function kinds ≡ place
    → is_result (kind_unless place (kind_of_call function kinds)) kind ≡ true → IsCall function kinds kind
call_of function kinds kind None fits is = record { fits = fits; is = kinds_same (kind_of_call function kinds) kind is }
call_of function kinds kind (Some place) fits is = absurd cc

module _ (whole free : List (List ℕ)) (row : NumberedRow) where
  -- an expression that fits, on a row that does, has a cell of its kind
  abbrev HasKind : TypedExpr → Type 0
  HasKind expr = Has expr.kind (value_of_typed expr row).cell

  abbrev GivesKind : TypedExpr → Type 0
  GivesKind expr = ExprFits whole free expr → RowFits expr row → HasKind expr

  all_kinds : (args : List TypedExpr) → All GivesKind args → All (ExprFits whole free) args → All (λ expr. RowFits expr row) args
      → HaveKinds (map (λ (part : Part). part.kind) (map (part_of whole free) args)) (map (λ arg. value_of_typed arg row) args)
  all_kinds [] gives fits rows = tt
  all_kinds (arg ∷ args) gives fits rows = (
    subst (λ kind. Has kind (value_of_typed arg row).cell) (sym (part_kind whole free arg))
        (All-head GivesKind arg args gives (All-head (ExprFits whole free) arg args fits) (All-head (λ expr. RowFits expr row) arg args rows)),
    all_kinds args (All-tail GivesKind arg args gives) (All-tail (ExprFits whole free) arg args fits) (All-tail (λ expr. RowFits expr row) arg args rows),
  )

  length_kinds : (args : List TypedExpr) → length (map (part_of whole free) args) ≡ length (map (λ (part : Part). part.kind) (map (part_of whole free) args))
  length_kinds [] = refl
  length_kinds (arg ∷ args) = ap suc (length_kinds args)

  column_has : (kind : Kind) (id : _) (expr : TypedExpr) → columns_read expr ≡ record { id = id; kind = kind } ∷ [] → RowFits expr row → Has kind (row id.0)
  column_has kind id expr is fits =
      let P : ReadColumn → Type 0 = λ column. has_kind column.kind (row column.id.0) ≡ true in
      All-head P (record { id = id; kind = kind }) [] (subst (All P) is fits)

  call_has : (expr : TypedExpr) (function : Function) (args : List TypedExpr) (pattern : Option ℕ) → expr.form ≡ Apply function args pattern → All GivesKind args → GivesKind expr
  call_has expr function args pattern is gives fits rows =
      let P : ReadColumn → Type 0 = λ column. has_kind column.kind (row column.id.0) ≡ true in
      let both = fits_call whole free expr function args pattern is fits in
      let parts = call_parts whole free function (map (part_of whole free) args) pattern expr.kind both.call in
      let kinds : List Kind = map (λ (part : Part). part.kind) (map (part_of whole free) args) in
      let values : List Valued = map (λ arg. value_of_typed arg row) args in
      let read = parts_read P columns_read args (subst (All P) (columns_of_call expr function args pattern is) rows) in
      let call = call_of function kinds expr.kind (misfit function kinds) refl parts.result in
      let counted = subst (λ count. is_count (signature_of function).parameters count ≡ true) (length_kinds args) parts.count in
      let has : Has (kind_of_call function kinds) (applied function expr.node values).cell = result_has_kind function expr.node kinds values (all_kinds args gives both.parts read) counted call.fits in
      subst (λ (valued : Valued). Has expr.kind valued.cell) (sym (value_of_call expr row function args pattern is))
      (subst (λ kind. Has kind (applied function expr.node values).cell) call.is has)

  pub value_has_kind : (expr : TypedExpr) → GivesKind expr
  value_has_kind = typed_ind GivesKind (record {
    constant = λ node kind cell fits rows.
        subst (λ (valued : Valued). Has kind valued.cell) (sym (value_of_constant _ row cell refl))
        (sym (ap (λ (part : Part). part.fits) (part_of_constant whole free _ cell refl)) ∙ fits);
    column = λ node kind id fits rows.
        subst (λ (valued : Valued). Has kind valued.cell) (sym (value_of_column _ row id refl)) (column_has kind id _ (columns_of_column _ id refl) rows);
    apply = λ node kind function args pattern all. call_has _ function args pattern refl all;
  })
