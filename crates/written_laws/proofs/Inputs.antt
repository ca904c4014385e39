-- What steps read of expressions: columns that these are, or that are made of them first, have their values. The inputs of SORT,
-- STATS, DISSECT and GROK are such columns.
use Rattle.std.proofs.Common.{◌≡◌, ◌≤◌, List, [], ◌∷◌, ◌++◌, map, fold, Option, Some, None, refl, ap, sym, subst, ◌∙◌, append_assoc, arith}
use Rattle.std.specs.List.{flat_map}
use Rattle.std.proofs.lemmas.List.{append-nil, map-id}
use Rattle.std.proofs.lemmas.List.Elements.{All-weaker}
use Rattle.esql_types.specs.declared.cause.Failure.{Failure}
use Rattle.esql_types.specs.declared.names.ColId.{ColId}
use Rattle.esql_ast.specs.declared.expr.Expr.{Expr}
use Rattle.esql_plan.specs.declared.plan.OutColumn.{OutColumn}
use Rattle.esql_plan.specs.declared.step.Step.{Step}
use Rattle.esql_plan.specs.declared.step.Step.TheVariants as step
use Rattle.esql_plan.specs.declared.typed.TypedExpr.{TypedExpr}
use Rattle.esql_plan.specs.Values.{Valued, NumberedRow, silent, value_of_typed}
use Rattle.plan_semantics.specs.Tables.{CatalogHeld, with_cell}
use Rattle.plan_semantics.specs.Steps.{step_fails, step_failures, rows_after, failures_after}
use Rattle.plan_semantics.proofs.Splits.{rows_after-append, failures_after-append}
use Rattle.row_semantics.specs.Rows.{Row}
use Rattle.query_semantics.specs.RowValues.{value_in_row, failures_of_expr}
use Rattle.query_semantics.specs.Writings.{Writing, column_at, typed_in, column_of_typed, write_input_by, write_input, input_by, input_of}
use Rattle.query_semantics.specs.Named.{named_row}
use Rattle.query_semantics.proofs.Squares.{map_map, map_same, flat_map_square, flat_map_none, flat_map_one}
use Rattle.query_semantics.proofs.Named.{IsBelow, AllBelow, IsSameBelow, cell_put, same_put, named_same}
use Rattle.query_semantics.proofs.Valued.{expr_valued}
use Rattle.query_semantics.proofs.Inputs.{column_valued}

-- a step at the end
pub failures_after-push : (held : CatalogHeld) (steps : List Step) (step : Step) (start : List NumberedRow)
    → failures_after held (steps ++ step ∷ []) start ≡ failures_after held steps start ++ step_failures step (rows_after held steps start)
failures_after-push held steps step start =
    failures_after-append held steps (step ∷ []) start
    ∙ ap (λ (these : List Failure). failures_after held steps start ++ these) (append-nil (step_failures step (rows_after held steps start)))

-- One input: each row becomes another, with the same cells below the next number and so where columns can be seen. On a row that
-- keeps what has been made, the column of the input has the value of the expression.
pub record InputStands (held : CatalogHeld) (visible : List OutColumn) (expr : Expr) (writing after : Writing) (id : ColId) : Type 0 where
  pub become : NumberedRow → NumberedRow
  pub rows : (start : List NumberedRow) → rows_after held after.steps start ≡ map become (rows_after held writing.steps start)
  pub failures : (start : List NumberedRow)
      → failures_after held after.steps start ≡ failures_after held writing.steps start ++ failures_of_expr expr (map (named_row visible) (rows_after held writing.steps start))
  pub same : (row : NumberedRow) → IsSameBelow writing.next row (become row)
  pub cell : (row later : NumberedRow) → IsSameBelow after.next (become row) later → later id.0 ≡ (value_in_row expr (named_row visible row)).cell
  pub next : writing.next ≤ after.next
  pub visible_is : after.visible ≡ visible

module _ (held : CatalogHeld) (writing : Writing) (expr : Expr) (below : AllBelow writing.next writing.visible) where
  abbrev typed : TypedExpr
  typed = typed_in writing expr

  abbrev named : NumberedRow → Row
  named = named_row writing.visible

  valued : (row : NumberedRow) → value_in_row expr (named row) ≡ value_of_typed typed row
  valued row = sym (expr_valued expr writing.visible _ _ row)

  -- an expression that is a column that can be seen
  input_found : (id : ColId) → column_of_typed typed ≡ Some id → InputStands held writing.visible expr writing writing id
  input_found id is =
      let silent_in : (row : NumberedRow) → value_in_row expr (named row) ≡ silent (row id.0) = λ row. valued row ∙ column_valued typed id is row in
      record {
        become = λ row. row;
        rows = λ start. sym (map-id (rows_after held writing.steps start));
        failures = λ start.
            let so_far : List NumberedRow = rows_after held writing.steps start in
            sym (ap (λ (these : List Failure). failures_after held writing.steps start ++ these)
            (flat_map_square (λ (row : Row). (value_in_row expr row).failures) named (λ (row : NumberedRow). []) (λ row. ap (λ (this : Valued). this.failures) (silent_in row)) so_far
            ∙ flat_map_none (λ (row : NumberedRow). []) (λ row. refl) so_far)
            ∙ append-nil (failures_after held writing.steps start));
        same = λ row other less. refl;
        cell = λ row later same.
            ap (λ (this : Valued). this.cell) (sym (silent_in later))
            ∙ ap (λ (these : Row). (value_in_row expr these).cell) (named_same writing.next writing.visible row later below same);
        next = omega arith;
        visible_is = refl;
      }

  -- any other makes one
  input_made : InputStands held writing.visible expr writing (write_input_by None expr writing) (column_at writing.next)
  input_made =
      let new : Step = step.Eval (column_at writing.next) typed in
      let become : NumberedRow → NumberedRow = λ row. with_cell row writing.next (value_of_typed typed row).cell in
      record {
        become = become;
        rows = λ start. rows_after-append held writing.steps (new ∷ []) start ∙ flat_map_one become (rows_after held writing.steps start);
        failures = λ start.
            failures_after-push held writing.steps new start
            ∙ ap (λ (these : List Failure). failures_after held writing.steps start ++ these)
            (sym (flat_map_square (λ (row : Row). (value_in_row expr row).failures) named (step_fails new) (λ row. ap (λ (this : Valued). this.failures) (valued row)) (rows_after held writing.steps start)));
        same = λ row. same_put row writing.next (value_of_typed typed row).cell;
        cell = λ row later same.
            same writing.next (omega arith) ∙ cell_put row writing.next (value_of_typed typed row).cell ∙ ap (λ (this : Valued). this.cell) (sym (valued row));
        next = omega arith;
        visible_is = refl;
      }

  pub input_stands : InputStands held writing.visible expr writing (write_input writing expr) (input_of writing expr)
  input_stands = by_found (column_of_typed typed) refl
    where
      by_found : (found : Option ColId) → column_of_typed typed ≡ found → InputStands held writing.visible expr writing (write_input_by found expr writing) (input_by found writing.next)
      by_found (Some id) is = input_found id is
      by_found None is = input_made

-- inputs in turn ---------------------------------------------------------------------------------------------------------------

module _ {Item : Type 0} (expr_of : Item → Expr) where
  abbrev pub write_inputs : List Item → Writing → Writing
  write_inputs items writing = fold (λ (so_far : Writing) (item : Item). write_input so_far (expr_of item)) writing items

  -- the failures of each input in turn, row after row
  abbrev pub failures_of_inputs : List Item → List Row → List Failure
  failures_of_inputs items rows = flat_map (λ (item : Item). failures_of_expr (expr_of item) rows) items

  -- the columns of the inputs have the values of the expressions on a row of names
  abbrev pub HaveInputs : List Item → Writing → Row → NumberedRow → Type 0
  HaveInputs [] writing row numbered = Unit {0}
  HaveInputs (item ∷ items) writing row numbered =
      (numbered (input_of writing (expr_of item)).0 ≡ (value_in_row (expr_of item) row).cell) × HaveInputs items (write_input writing (expr_of item)) row numbered

  -- Inputs in turn: each row becomes another, which has them, with the same cells below the next number.
  pub record InputsStand (held : CatalogHeld) (visible : List OutColumn) (items : List Item) (writing : Writing) : Type 0 where
    pub become : NumberedRow → NumberedRow
    pub rows : (start : List NumberedRow) → rows_after held (write_inputs items writing).steps start ≡ map become (rows_after held writing.steps start)
    pub failures : (start : List NumberedRow)
        → failures_after held (write_inputs items writing).steps start ≡ failures_after held writing.steps start ++ failures_of_inputs items (map (named_row visible) (rows_after held writing.steps start))
    pub same : (row : NumberedRow) → IsSameBelow writing.next row (become row)
    pub inputs : (row : NumberedRow) → HaveInputs items writing (named_row visible row) (become row)
    pub visible_is : (write_inputs items writing).visible ≡ visible
    pub below : AllBelow (write_inputs items writing).next visible

  pub inputs_stand : (held : CatalogHeld) (visible : List OutColumn) (items : List Item) (writing : Writing) → writing.visible ≡ visible → AllBelow writing.next visible → InputsStand held visible items writing
  inputs_stand held visible [] writing is below = record {
    become = λ row. row;
    rows = λ start. sym (map-id (rows_after held writing.steps start));
    failures = λ start. sym (append-nil (failures_after held writing.steps start));
    same = λ row other less. refl;
    inputs = λ row. tt;
    visible_is = is;
    below = below;
  }
  inputs_stand held visible (item ∷ items) writing is below =
      let expr : Expr = expr_of item in
      let after : Writing = write_input writing expr in
      let one : InputStands held visible expr writing after (input_of writing expr) =
      subst (λ (these : List OutColumn). InputStands held these expr writing after (input_of writing expr)) is (input_stands held writing expr (subst (AllBelow writing.next) (sym is) below)) in
      let less = one.next in
      let rest = inputs_stand held visible items after one.visible_is (All-weaker (IsBelow writing.next) (IsBelow after.next) (λ column own. omega (arith, own, less)) visible below) in
      let seen : (row : NumberedRow) → named_row visible (one.become row) ≡ named_row visible row = λ row. named_same writing.next visible row (one.become row) below (one.same row) in
      record {
        become = λ row. rest.become (one.become row);
        rows = λ start. rest.rows start ∙ ap (map rest.become) (one.rows start) ∙ map_map rest.become one.become (rows_after held writing.steps start);
        failures = λ start.
            let so_far : List NumberedRow = rows_after held writing.steps start in
            rest.failures start
            ∙ (λ i. one.failures start i ++ failures_of_inputs items
            ((ap (map (named_row visible)) (one.rows start) ∙ map_map (named_row visible) one.become so_far ∙ map_same (λ (row : NumberedRow). named_row visible (one.become row)) (named_row visible) seen so_far) i))
            ∙ append_assoc (failures_after held writing.steps start) (failures_of_expr expr (map (named_row visible) so_far)) (failures_of_inputs items (map (named_row visible) so_far));
        same = λ row other own. rest.same (one.become row) other (omega (arith, own, less)) ∙ one.same row other own;
        inputs = λ row. (
          one.cell row (rest.become (one.become row)) (rest.same (one.become row)),
          subst (λ (these : Row). HaveInputs items after these (rest.become (one.become row))) (seen row) (rest.inputs (one.become row)),
        );
        visible_is = rest.visible_is;
        below = rest.below;
      }
