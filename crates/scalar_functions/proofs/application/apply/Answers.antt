use Rattle.std.proofs.Common.{◌≡◌, List, ◌++◌, IfOk, OnOk, sym, ap, subst, ◌∙◌}
use Rattle.esql_types.specs.declared.value.Value.{Value}
use Rattle.esql_types.specs.declared.cause.Failure.{Failure}
use Rattle.esql_plan.specs.Values.{Valued}
use Rattle.scalar_functions.specs.declared.call.Call.{Call}
use Rattle.scalar_functions.proofs.Patterned.{CallHasPattern, has_pattern, applied_cells}
use Rattle.scalar_functions.proofs.application.apply.Goals as goal

pub of_cells-requires : goal.of_cells-requires
of_cells-requires c =
    let whole = c.args.patterns.now.whole in
    let free = c.args.patterns.now.free in
    subst (λ (call : Call). CallHasPattern call c.args.cells.now c.args.number whole free) (sym c.call_of.ensures ∙ c.in-Plain.is)
    (has_pattern whole free c.args.number c.args.cells.now c.args.function c.requires.rlike c.requires.not_rlike c.requires.replace)

pub returns-clause-cell : goal.returns-clause-cell
returns-clause-cell c =
    let is = applied_cells c.args.function c.in-Plain.plain c.args.node c.args.cells.now (sym c.call_of.ensures ∙ c.in-Plain.is) in
    subst (λ (that : List Value). IfOk c.of_cells.result (λ cell. cell ≡ that)) (sym (ap (λ (v : Valued). v.cell) is)) c.of_cells.ensures.cell

pub returns-clause-failures : goal.returns-clause-failures
returns-clause-failures c =
    let is = applied_cells c.args.function c.in-Plain.plain c.args.node c.args.cells.now (sym c.call_of.ensures ∙ c.in-Plain.is) in
    subst (λ (that : List Failure). OnOk c.of_cells.result (c.of_cells.new.failures ≡ c.args.failures.now ++ that)) (sym (ap (λ (v : Valued). v.failures) is)) c.of_cells.ensures.failures
