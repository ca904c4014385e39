-- Steps that go row by row, written on from a plan: each row becomes another one, on which the columns that are made have the
-- values of expressions on the row of names.
use Rattle.std.proofs.Common.{◌≡◌, ◌+◌, List, [], ◌∷◌, ◌++◌, map, Option, Some, None, refl, ap, sym, ◌∙◌, arith}
use Rattle.std.specs.List.{flat_map}
use Rattle.std.proofs.lemmas.List.{append-nil}
use Rattle.std.proofs.lemmas.List.Elements.{All-weaker}
use Rattle.esql_types.specs.declared.cause.Failure.{Failure}
use Rattle.esql_types.specs.declared.names.ColId.{ColId}
use Rattle.esql_ast.specs.declared.expr.Expr.{Expr}
use Rattle.esql_plan.specs.declared.plan.OutColumn.{OutColumn}
use Rattle.esql_plan.specs.declared.step.Step.{Step}
use Rattle.esql_plan.specs.declared.step.Step.TheVariants as step
use Rattle.esql_plan.specs.declared.typed.TypedExpr.{TypedExpr}
use Rattle.esql_plan.specs.Values.{Valued, NumberedRow, silent, value_of_typed}
use Rattle.plan_semantics.specs.Tables.{CatalogHeld, with_cell}
use Rattle.plan_semantics.specs.Steps.{step_fails, rows_after, failures_after}
use Rattle.plan_semantics.proofs.Splits.{rows_after-append}
use Rattle.row_semantics.specs.Rows.{Row}
use Rattle.query_semantics.specs.RowValues.{value_in_row, failures_of_expr}
use Rattle.query_semantics.specs.Writings.{Writing, column_at, typed_in, column_of_typed, write_input_by, write_input, input_by, input_of}
use Rattle.query_semantics.specs.WrittenStats.{write_typed}
use Rattle.query_semantics.specs.Named.{named_row}
use Rattle.query_semantics.proofs.Squares.{map_map, flat_map_square, flat_map_none, flat_map_one}
use Rattle.query_semantics.proofs.Named.{IsBelow, AllBelow, IsSameBelow, cell_put, same_put, named_same}
use Rattle.query_semantics.proofs.Valued.{expr_valued}
use Rattle.query_semantics.proofs.Inputs.{column_valued}
use Rattle.written_laws.proofs.Inputs.{failures_after-push}

module _ (held : CatalogHeld) (start : List NumberedRow) (visible : List OutColumn) (so_far : List NumberedRow) where
  abbrev named : NumberedRow → Row
  named = named_row visible

  -- What is written on from a plan that has made these rows: what fails, and what holds of a row of names and of each row that
  -- keeps what has been made.
  pub record Stage (failures : List Failure) (Has : Row → NumberedRow → Type 0) (writing : Writing) : Type 0 where
    pub become : NumberedRow → NumberedRow
    pub rows : rows_after held writing.steps start ≡ map become so_far
    pub failures_are : failures_after held writing.steps start ≡ failures
    pub seen : (row : NumberedRow) → named (become row) ≡ named row
    pub has : (row later : NumberedRow) → IsSameBelow writing.next (become row) later → Has (named row) later
    pub visible_is : writing.visible ≡ visible
    pub below : AllBelow writing.next visible

  -- the same with other failures, and with what follows
  pub stage_as : (failures others : List Failure) (Has Other : Row → NumberedRow → Type 0) (writing : Writing) → failures ≡ others → ((row : Row) (later : NumberedRow) → Has row later → Other row later)
      → Stage failures Has writing → Stage others Other writing
  stage_as failures others Has Other writing same follows stage = record {
    become = stage.become;
    rows = stage.rows;
    failures_are = stage.failures_are ∙ same;
    seen = stage.seen;
    has = λ row later kept. follows (named row) later (stage.has row later kept);
    visible_is = stage.visible_is;
    below = stage.below;
  }

  module _ (failures : List Failure) (Has : Row → NumberedRow → Type 0) (writing : Writing) (stage : Stage failures Has writing) where
    -- a column that is made
    pub made_stage : (expr : Expr) (typed : TypedExpr) (valued : Row → Valued) → ((row : NumberedRow) → value_of_typed typed (stage.become row) ≡ valued (named row))
        → Stage (failures ++ flat_map (λ row. (valued row).failures) (map named so_far)) (λ row later. Has row later × (later writing.next ≡ (valued row).cell)) (write_typed writing expr typed)
    made_stage expr typed valued is =
        let new : Step = step.Eval (column_at writing.next) typed in
        let put : NumberedRow → NumberedRow = λ row. with_cell row writing.next (value_of_typed typed row).cell in
        let kept : (row : NumberedRow) → IsSameBelow writing.next (stage.become row) (put (stage.become row)) =
        λ row. same_put (stage.become row) writing.next (value_of_typed typed (stage.become row)).cell in
        record {
          become = λ row. put (stage.become row);
          rows = rows_after-append held writing.steps (new ∷ []) start
              ∙ flat_map_one put (rows_after held writing.steps start)
              ∙ ap (map put) stage.rows
              ∙ map_map put stage.become so_far;
          failures_are = failures_after-push held writing.steps new start
              ∙ (λ i. stage.failures_are i ++ flat_map (step_fails new) (stage.rows i))
              ∙ ap (λ (these : List Failure). failures ++ these)
              (flat_map_square (step_fails new) stage.become (λ row. (valued (named row)).failures) (λ row. ap (λ (this : Valued). this.failures) (is row)) so_far
              ∙ sym (flat_map_square (λ (row : Row). (valued row).failures) named (λ row. (valued (named row)).failures) (λ row. refl) so_far));
          seen = λ row. named_same writing.next visible (stage.become row) (put (stage.become row)) stage.below (kept row) ∙ stage.seen row;
          has = λ row later same. (
            stage.has row later (λ id less. same id (omega (arith, less)) ∙ kept row id less),
            same writing.next (omega arith) ∙ cell_put (stage.become row) writing.next (value_of_typed typed (stage.become row)).cell ∙ ap (λ (this : Valued). this.cell) (is row),
          );
          visible_is = stage.visible_is;
          below = All-weaker (IsBelow writing.next) (IsBelow (writing.next + 1)) (λ column less. omega (arith, less)) visible stage.below;
        }

    -- the value of an expression over the columns that can be seen, on a row that keeps what has been made
    pub typed_valued : (expr : Expr) (row later : NumberedRow) → IsSameBelow writing.next (stage.become row) later → value_of_typed (typed_in writing expr) later ≡ value_in_row expr (named row)
    typed_valued expr row later same =
        expr_valued expr writing.visible _ _ later
        ∙ (λ i. value_in_row expr (named_row (stage.visible_is i) later))
        ∙ ap (value_in_row expr) (named_same writing.next visible (stage.become row) later stage.below same ∙ stage.seen row)

    found_stage : (expr : Expr) (id : ColId) → column_of_typed (typed_in writing expr) ≡ Some id
        → Stage (failures ++ failures_of_expr expr (map named so_far)) (λ row later. Has row later × (later id.0 ≡ (value_in_row expr row).cell)) writing
    found_stage expr id is =
        let typed : TypedExpr = typed_in writing expr in
        let silent_in : (row : NumberedRow) → value_in_row expr (named row) ≡ silent (stage.become row id.0) =
        λ row. sym (typed_valued expr row (stage.become row) (λ id less. refl)) ∙ column_valued typed id is (stage.become row) in
        record {
          become = stage.become;
          rows = stage.rows;
          failures_are = stage.failures_are
              ∙ sym (append-nil failures)
              ∙ sym (ap (λ (these : List Failure). failures ++ these)
              (flat_map_square (λ (row : Row). (value_in_row expr row).failures) named (λ (row : NumberedRow). []) (λ row. ap (λ (this : Valued). this.failures) (silent_in row)) so_far
              ∙ flat_map_none (λ (row : NumberedRow). []) (λ row. refl) so_far));
          seen = stage.seen;
          has = λ row later same. (stage.has row later same, ap (λ (this : Valued). this.cell) (sym (column_valued typed id is later) ∙ typed_valued expr row later same));
          visible_is = stage.visible_is;
          below = stage.below;
        }

    -- what a step reads of an expression
    pub input_stage : (expr : Expr) → Stage (failures ++ failures_of_expr expr (map named so_far)) (λ row later. Has row later × (later (input_of writing expr).0 ≡ (value_in_row expr row).cell)) (write_input writing expr)
    input_stage expr = by_found (column_of_typed (typed_in writing expr)) refl
      where
        by_found : (found : Option ColId) → column_of_typed (typed_in writing expr) ≡ found
            → Stage (failures ++ failures_of_expr expr (map named so_far)) (λ row later. Has row later × (later (input_by found writing.next).0 ≡ (value_in_row expr row).cell)) (write_input_by found expr writing)
        by_found (Some id) is = found_stage expr id is
        by_found None is = made_stage expr (typed_in writing expr) (value_in_row expr) (λ row. typed_valued expr row (stage.become row) (λ id less. refl))
