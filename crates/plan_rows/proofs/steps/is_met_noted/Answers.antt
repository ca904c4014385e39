use Rattle.std.proofs.Common.{◌≡◌, List, ◌++◌, ◌∙◌, ap}
use Rattle.esql_types.specs.declared.cause.Failure.{Failure}
use Rattle.esql_types.specs.declared.value.Value.{Value}
use Rattle.esql_plan.specs.Rules.{multi_of}
use Rattle.esql_plan.specs.Values.{value_of_typed, failures_at}
use Rattle.esql_scalar.specs.Rows.{row_of}
use Rattle.warn_log.specs.Logs.{logged}
use Rattle.plan_rows.proofs.steps.is_met_noted.Goals as goal

pub returns-clause-log : goal.returns-clause-log
returns-clause-log c =
    let value = value_of_typed c.args.condition.now (row_of c.args.row.now) in
    let own : List Value → List Failure = λ cell. failures_at c.args.node (multi_of cell) in
    c.note_failures.ensures.log
    ∙ ap (logged c.args.log.now)
    (c.in_ok-note_several.ensures
    ∙ ap (λ (these : List Failure). these ++ own c.in_ok-cell.cell)
    (c.in_ok-cell.ensures.failures ∙ ap (λ (these : List Failure). these ++ value.failures) c.new-failures.ensures)
    ∙ ap (λ cell. value.failures ++ own cell) c.in_ok-cell.ensures.cell)
