-- The value of `case(eq(c, c), c)`: the single value of the column, with a failure where there are several.
use Rattle.std.proofs.Common.{◌≡◌, Bool, true, List, [], ◌∷◌, None, refl, ap, ◌∙◌}
use Rattle.std.specs.Ordering.{is_eq}
use Rattle.std.specs.declared.cmp.Ordering.{Ordering}
use Rattle.std.specs.declared.cmp.Ordering.TheVariants.{Less, Equal, Greater}
use Rattle.number_rules.specs.Comparisons.{compares}
use Rattle.number_rules.specs.declared.Comparison.TheVariants as comparison
use Rattle.esql_types.specs.Values.{value_cmp}
use Rattle.esql_types.specs.declared.value.Kind.{Kind}
use Rattle.esql_types.specs.declared.value.Kind.TheVariants.{Boolean as BooleanKind}
use Rattle.esql_types.specs.declared.value.Value.{Value}
use Rattle.esql_types.specs.declared.value.Value.TheVariants.{Int, Long, Bool as Boolean, Text as Keyword}
use Rattle.esql_types.specs.declared.names.ColId.{ColId}
use Rattle.esql_types.specs.declared.names.NodeId.{NodeId}
use Rattle.plain_functions.specs.ValueOrder.{same_decides}
use Rattle.esql_plan.specs.declared.function.Function.TheVariants as function
use Rattle.esql_plan.specs.declared.typed.TypedExpr.{TypedExpr}
use Rattle.esql_plan.specs.declared.typed.TypedForm.TheVariants as form
use Rattle.esql_plan.specs.Rules.{multi_of, order_of}
use Rattle.esql_plan.specs.Values.{Valued, NumberedRow, silent, applied, failures_at, value_of_typed}
use Rattle.esql_plan.proofs.TypedFolds.{value_of_call, value_of_column}
use Rattle.lookup_join.specs.Joins.{column_expr, key_expr, single}

same_itself : (value : Value) → is_eq (value_cmp value value) ≡ true
same_itself value = (same_decides value value).1 refl

ordered_as_values : (value : Value) → order_of value value ≡ value_cmp value value
ordered_as_values (Int number) = refl
ordered_as_values (Long number) = refl
ordered_as_values (Boolean truth) = refl
ordered_as_values (Keyword text) = refl

equal_as_tied : (order : Ordering) → compares comparison.Equal order ≡ is_eq order
equal_as_tied Less = refl
equal_as_tied Equal = refl
equal_as_tied Greater = refl

equal_to_itself : (value : Value) → compares comparison.Equal (order_of value value) ≡ true
equal_to_itself value = ap (compares comparison.Equal) (ordered_as_values value) ∙ equal_as_tied (value_cmp value value) ∙ same_itself value

abbrev key_valued : NodeId → List Value → Valued
key_valued node cell = record { cell = single cell; failures = failures_at node (multi_of cell) }

key_of_cell : (node : NodeId) (cell : List Value)
    → applied function.Case node (applied function.Eq node (silent cell ∷ silent cell ∷ []) ∷ silent cell ∷ []) ≡ key_valued node cell
key_of_cell node [] = refl
key_of_cell node (value ∷ []) = ap (λ (equal : Bool). applied function.Case node (silent (Boolean equal ∷ []) ∷ silent (value ∷ []) ∷ [])) (equal_to_itself value)
key_of_cell node (value ∷ other ∷ values) = refl

module _ (node : NodeId) (kind : Kind) (on : ColId) (row : NumberedRow) where
  abbrev column : TypedExpr
  column = column_expr node kind on

  abbrev test : TypedExpr
  test = record { node = node; kind = BooleanKind; form = form.Apply function.Eq (column ∷ column ∷ []) None }

  column_valued : value_of_typed column row ≡ silent (row on.0)
  column_valued = value_of_column column row on refl

  test_valued : value_of_typed test row ≡ applied function.Eq node (silent (row on.0) ∷ silent (row on.0) ∷ [])
  test_valued =
      value_of_call test row function.Eq (column ∷ column ∷ []) None refl
      ∙ ap (λ (valued : Valued). applied function.Eq node (valued ∷ valued ∷ [])) column_valued

  -- the value of the key is the single value of the column, and several values fail
  pub key_is : value_of_typed (key_expr node kind on) row ≡ key_valued node (row on.0)
  key_is =
      value_of_call (key_expr node kind on) row function.Case (test ∷ column ∷ []) None refl
      ∙ ap (λ (valued : Valued). applied function.Case node (valued ∷ value_of_typed column row ∷ [])) test_valued
      ∙ ap (λ (valued : Valued). applied function.Case node (applied function.Eq node (silent (row on.0) ∷ silent (row on.0) ∷ []) ∷ valued ∷ [])) column_valued
      ∙ key_of_cell node (row on.0)
