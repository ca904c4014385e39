use Rattle.std.proofs.Common.{rules, ◌≡◌, ◌+◌, ◌<◌, ℕ, List, ◌++◌, map, drop, length, Some, All, IfOk, OnOk, ap, sym, subst, ◌∙◌, arith, append_assoc}
use Rattle.esql_types.specs.declared.value.Value.{Value}
use Rattle.esql_types.specs.declared.cause.Failure.{Failure}
use Rattle.function_rules.specs.Found.{wrapped}
use Rattle.esql_plan.specs.declared.typed.TypedExpr.{TypedExpr, the_lemmas}
use Rattle.esql_plan.specs.Fits.{ExprFits}
use Rattle.esql_plan.specs.Rules.{truth_in, multi_of}
use Rattle.esql_plan.specs.Values.{Valued, silent, value_of_typed, applied, behind, failures_at, is_met, case_of, coalesce_of}
use Rattle.esql_plan.proofs.Fitting.{fits_call}
use Rattle.scalar_functions.specs.Taken.{IsRead, as_written}
use Rattle.esql_scalar.specs.Rows.{row_of, values_of}
use Rattle.esql_scalar.specs.declared.expression.CaseTurn.{CaseTurn}
use Rattle.esql_scalar.specs.Turns.{turn_after, case_at}
use Rattle.esql_scalar.proofs.Cases.{values_next, values_left, passed, condition_turned, regrouped}
use Rattle.esql_scalar.proofs.Parts.{cells_on, failures_on, case_value, coalesce_value, cells_value, rlike_read, not_rlike_read, replace_read}
use Rattle.esql_scalar.proofs.expression.+evaluate.Goals as goal
use Rattle.esql_scalar.proofs.expression.+evaluate.Goals.{case_of-in-Passed, case_of-in-Condition+else-place-args+in_ok-cell-in-Condition+in_ok-note_several-in-Condition}

pub evaluate-case_of-requires : goal.evaluate-case_of-requires
evaluate-case_of-requires t c = (
  search (rules, the_lemmas),
  subst (λ (args : List TypedExpr). All (ExprFits c.args.patterns.now.whole c.args.patterns.now.free) args) (sym c.as_slice.ensures)
      (fits_call c.args.patterns.now.whole c.args.patterns.now.free c.args.expr.now c.in-Apply.function c.in-Apply.args c.in-Apply.pattern c.in-Apply.is c.requires).parts,
)

pub evaluate-coalesce_of-requires : goal.evaluate-coalesce_of-requires
evaluate-coalesce_of-requires t c = (
  search (rules, the_lemmas),
  subst (λ (args : List TypedExpr). All (ExprFits c.args.patterns.now.whole c.args.patterns.now.free) args) (sym c.as_slice-in-Some-Coalesce.ensures)
      (fits_call c.args.patterns.now.whole c.args.patterns.now.free c.args.expr.now c.in-Apply.function c.in-Apply.args c.in-Apply.pattern c.in-Apply.is c.requires).parts,
)

pub evaluate-evaluate_all-requires : goal.evaluate-evaluate_all-requires
evaluate-evaluate_all-requires t c = (
  search (rules, the_lemmas),
  subst (λ (args : List TypedExpr). All (ExprFits c.args.patterns.now.whole c.args.patterns.now.free) args) (sym c.as_slice-in-None.ensures)
      (fits_call c.args.patterns.now.whole c.args.patterns.now.free c.args.expr.now c.in-Apply.function c.in-Apply.args c.in-Apply.pattern c.in-Apply.is c.requires).parts,
)

pub evaluate-apply-requires-clause-rlike : goal.evaluate-apply-requires-clause-rlike
evaluate-apply-requires-clause-rlike t c same =
    let whole = c.args.patterns.now.whole in
    let free = c.args.patterns.now.free in
    let expr = c.args.expr.now in
    let args = c.in-Apply.args in
    let row = row_of c.args.row.now in
    let fits = fits_call whole free expr c.in-Apply.function args c.in-Apply.pattern c.in-Apply.is c.requires in
    let cells = c.as_slice-in-None-2.ensures ∙ c.in_ok-cells-in-None.ensures.cells ∙ ap (λ (these : List TypedExpr). cells_on these row) c.as_slice-in-None.ensures in
    subst (λ (these : List (List Value)). IsRead whole c.in-Apply.pattern wrapped these) (sym cells)
    (rlike_read whole free args c.in-Apply.pattern row c.in-Apply.function expr.kind fits.call same)

pub evaluate-apply-requires-clause-not_rlike : goal.evaluate-apply-requires-clause-not_rlike
evaluate-apply-requires-clause-not_rlike t c same =
    let whole = c.args.patterns.now.whole in
    let free = c.args.patterns.now.free in
    let expr = c.args.expr.now in
    let args = c.in-Apply.args in
    let row = row_of c.args.row.now in
    let fits = fits_call whole free expr c.in-Apply.function args c.in-Apply.pattern c.in-Apply.is c.requires in
    let cells = c.as_slice-in-None-2.ensures ∙ c.in_ok-cells-in-None.ensures.cells ∙ ap (λ (these : List TypedExpr). cells_on these row) c.as_slice-in-None.ensures in
    subst (λ (these : List (List Value)). IsRead whole c.in-Apply.pattern wrapped these) (sym cells)
    (not_rlike_read whole free args c.in-Apply.pattern row c.in-Apply.function expr.kind fits.call same)

pub evaluate-apply-requires-clause-replace : goal.evaluate-apply-requires-clause-replace
evaluate-apply-requires-clause-replace t c same =
    let whole = c.args.patterns.now.whole in
    let free = c.args.patterns.now.free in
    let expr = c.args.expr.now in
    let args = c.in-Apply.args in
    let row = row_of c.args.row.now in
    let fits = fits_call whole free expr c.in-Apply.function args c.in-Apply.pattern c.in-Apply.is c.requires in
    let cells = c.as_slice-in-None-2.ensures ∙ c.in_ok-cells-in-None.ensures.cells ∙ ap (λ (these : List TypedExpr). cells_on these row) c.as_slice-in-None.ensures in
    subst (λ (these : List (List Value)). IsRead free c.in-Apply.pattern as_written these) (sym cells)
    (replace_read whole free args c.in-Apply.pattern row c.in-Apply.function expr.kind fits.call same)

pub evaluate-returns-in-Some-Case-clause-cell : goal.evaluate-returns-in-Some-Case-clause-cell
evaluate-returns-in-Some-Case-clause-cell t c =
    let row = row_of c.args.row.now in
    let taken = sym c.branches_of.ensures ∙ c.in-Some-Case.is ∙ ap Some c.in-Some-Case.field-0-is in
    let is = case_value c.args.expr.now c.in-Apply.function c.in-Apply.args c.in-Apply.pattern row c.in-Apply.is taken in
    subst (λ (that : List Value). IfOk c.case_of.result (λ cell. cell ≡ that))
    (ap (λ (args : List TypedExpr). (case_of c.args.expr.now.node (values_of args row)).cell) c.as_slice.ensures ∙ sym (ap (λ (v : Valued). v.cell) is))
    c.case_of.ensures.cell

pub evaluate-returns-in-Some-Case-clause-failures : goal.evaluate-returns-in-Some-Case-clause-failures
evaluate-returns-in-Some-Case-clause-failures t c =
    let row = row_of c.args.row.now in
    let taken = sym c.branches_of.ensures ∙ c.in-Some-Case.is ∙ ap Some c.in-Some-Case.field-0-is in
    let is = case_value c.args.expr.now c.in-Apply.function c.in-Apply.args c.in-Apply.pattern row c.in-Apply.is taken in
    subst (λ (that : List Failure). OnOk c.case_of.result (c.case_of.new.failures ≡ c.args.failures.now ++ that))
    (ap (λ (args : List TypedExpr). (case_of c.args.expr.now.node (values_of args row)).failures) c.as_slice.ensures ∙ sym (ap (λ (v : Valued). v.failures) is))
    c.case_of.ensures.failures

pub evaluate-returns-in-Some-Coalesce-clause-cell : goal.evaluate-returns-in-Some-Coalesce-clause-cell
evaluate-returns-in-Some-Coalesce-clause-cell t c =
    let row = row_of c.args.row.now in
    let taken = sym c.branches_of.ensures ∙ c.in-Some-Coalesce.is ∙ ap Some c.in-Some-Coalesce.field-0-is in
    let is = coalesce_value c.args.expr.now c.in-Apply.function c.in-Apply.args c.in-Apply.pattern row c.in-Apply.is taken in
    subst (λ (that : List Value). IfOk c.coalesce_of.result (λ cell. cell ≡ that))
    (ap (λ (args : List TypedExpr). (coalesce_of (values_of args row)).cell) c.as_slice-in-Some-Coalesce.ensures ∙ sym (ap (λ (v : Valued). v.cell) is))
    c.coalesce_of.ensures.cell

pub evaluate-returns-in-Some-Coalesce-clause-failures : goal.evaluate-returns-in-Some-Coalesce-clause-failures
evaluate-returns-in-Some-Coalesce-clause-failures t c =
    let row = row_of c.args.row.now in
    let taken = sym c.branches_of.ensures ∙ c.in-Some-Coalesce.is ∙ ap Some c.in-Some-Coalesce.field-0-is in
    let is = coalesce_value c.args.expr.now c.in-Apply.function c.in-Apply.args c.in-Apply.pattern row c.in-Apply.is taken in
    subst (λ (that : List Failure). OnOk c.coalesce_of.result (c.coalesce_of.new.failures ≡ c.args.failures.now ++ that))
    (ap (λ (args : List TypedExpr). (coalesce_of (values_of args row)).failures) c.as_slice-in-Some-Coalesce.ensures ∙ sym (ap (λ (v : Valued). v.failures) is))
    c.coalesce_of.ensures.failures

pub evaluate-returns-in_ok-cells-in-None-clause-cell : goal.evaluate-returns-in_ok-cells-in-None-clause-cell
evaluate-returns-in_ok-cells-in-None-clause-cell t c =
    let row = row_of c.args.row.now in
    let args = c.in-Apply.args in
    let function = c.in-Apply.function in
    let taken = sym c.branches_of.ensures ∙ c.in-None.is in
    let is = cells_value c.args.expr.now function args c.in-Apply.pattern row c.in-Apply.is taken in
    let cells = c.as_slice-in-None-2.ensures ∙ c.in_ok-cells-in-None.ensures.cells ∙ ap (λ (these : List TypedExpr). cells_on these row) c.as_slice-in-None.ensures in
    subst (λ (that : List Value). IfOk c.apply.result (λ cell. cell ≡ that))
    (ap (λ (these : List (List Value)). (applied function c.args.expr.now.node (map silent these)).cell) cells ∙ sym (ap (λ (v : Valued). v.cell) is))
    c.apply.ensures.cell

pub evaluate-returns-in_ok-cells-in-None-clause-failures : goal.evaluate-returns-in_ok-cells-in-None-clause-failures
evaluate-returns-in_ok-cells-in-None-clause-failures t c =
    let row = row_of c.args.row.now in
    let args = c.in-Apply.args in
    let function = c.in-Apply.function in
    let taken = sym c.branches_of.ensures ∙ c.in-None.is in
    let is = cells_value c.args.expr.now function args c.in-Apply.pattern row c.in-Apply.is taken in
    let cells = c.as_slice-in-None-2.ensures ∙ c.in_ok-cells-in-None.ensures.cells ∙ ap (λ (these : List TypedExpr). cells_on these row) c.as_slice-in-None.ensures in
    let own : List (List Value) → List Failure = λ these. (applied function c.args.expr.now.node (map silent these)).failures in
    subst (λ (that : List Failure). OnOk c.apply.result (c.apply.new.failures ≡ that))
    (ap (λ (these : List Failure). these ++ own c.as_slice-in-None-2.result.now)
    (c.in_ok-cells-in-None.ensures.failures ∙ ap (λ (these : List TypedExpr). c.args.failures.now ++ failures_on these row) c.as_slice-in-None.ensures)
    ∙ append_assoc c.args.failures.now (failures_on args row) (own c.as_slice-in-None-2.result.now)
    ∙ ap (λ (these : List (List Value)). c.args.failures.now ++ (failures_on args row ++ own these)) cells
    ∙ sym (ap (λ (v : Valued). c.args.failures.now ++ v.failures) is))
    c.apply.ensures.failures

pub case_of-loop-place-preserved : goal.case_of-loop-place-preserved
case_of-loop-place-preserved t c =
    let row = row_of c.args.row.now in
    let node = c.args.node in
    let args = c.args.args.now in
    let place = c.loop-place.place in
    let arg = c.index-args-place.result in
    let all = case_of node (values_of args row) in
    let left : CaseTurn → ℕ → Valued = λ turn at. case_at turn node (values_of (drop at args) row) in
    let within : place < length args = omega arith in
    let next = values_next args place arg row within c.index-args-place.is in
    elim c.match-turn.branch [
      | case_of-in-Passed w ↦
          (let step : left c.loop-place.turn place ≡ left c.match-turn.turn (place + 1) =
          ap (λ turn. left turn place) w.in-Passed.is
          ∙ passed node (values_of (drop place args) row) (values_of (drop (place + 1) args) row) (value_of_typed arg row) next
          ∙ ap (λ turn. left turn (place + 1)) (sym w.turn-is) in
          record {
            cell = c.loop-place.invariant.cell ∙ ap (λ (v : Valued). v.cell) step;
            failures = c.loop-place.invariant.failures ∙ ap (λ (v : Valued). c.loop-place.failures ++ v.failures) step
                ∙ ap (λ (before : List Failure). before ++ (left c.match-turn.turn (place + 1)).failures) (sym w.failures-is);
          })
      | case_of-in-Condition+else-place-args+in_ok-cell-in-Condition+in_ok-note_several-in-Condition w ↦
          (let value = value_of_typed arg row in
          let told : turn_after (is_met (truth_in value.cell)) ≡ c.match-turn.turn =
          ap (λ (cell : List Value). turn_after (is_met (truth_in cell))) (sym w.in_ok-cell-in-Condition.ensures.cell) ∙ sym w.turn_after-turn.ensures ∙ sym w.turn-is in
          let step : left c.loop-place.turn place ≡ behind (value.failures ++ failures_at node (multi_of value.cell)) (left c.match-turn.turn (place + 1)) =
          ap (λ turn. left turn place) w.in-Condition.is
          ∙ condition_turned node (values_of (drop place args) row) (values_of (drop (place + 1) args) row) value next (values_left args place row within w.if-place-args.false)
          ∙ ap (λ turn. behind (value.failures ++ failures_at node (multi_of value.cell)) (left turn (place + 1))) told in
          let noted : (c.loop-place.failures ++ value.failures) ++ failures_at node (multi_of value.cell) ≡ c.match-turn.failures =
          ap (λ (cell : List Value). (c.loop-place.failures ++ value.failures) ++ failures_at node (multi_of cell)) (sym w.in_ok-cell-in-Condition.ensures.cell)
          ∙ ap (λ (before : List Failure). before ++ failures_at node (multi_of w.in_ok-cell-in-Condition.cell)) (sym w.in_ok-cell-in-Condition.ensures.failures)
          ∙ sym w.in_ok-note_several-in-Condition.ensures
          ∙ sym w.failures-is in
          record {
            cell = c.loop-place.invariant.cell ∙ ap (λ (v : Valued). v.cell) step;
            failures = c.loop-place.invariant.failures ∙ ap (λ (v : Valued). c.loop-place.failures ++ v.failures) step
                ∙ regrouped c.loop-place.failures value.failures (failures_at node (multi_of value.cell)) (left c.match-turn.turn (place + 1)).failures
                ∙ ap (λ (before : List Failure). before ++ (left c.match-turn.turn (place + 1)).failures) noted;
          })
    ]
