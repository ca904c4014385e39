use Rattle.std.proofs.Common.{◌≡◌, List, Some, IfOk, OnOk, Result, Ok, Err, refl, sym, ap, subst, ◌∙◌}
use Rattle.std.specs.Option.{option_copied}
use Rattle.esql_scalar.proofs.Parts.{nothing_at}
use Rattle.esql_types.specs.declared.value.Value.{Value}
use Rattle.plan_semantics.specs.Taken.{taken_of_cell, grokked_by}
use Rattle.warn_log.specs.Logs.{logged}
use Rattle.plan_rows.proofs.cuts.grok_row.Goals as goal

known : {Value Error P : Type 0} (result : Result Value Error) → P → OnOk result P
known (Ok value) holds = holds
known (Err error) holds = tt

pub returns-in-None-clause-cells : goal.returns-in-None-clause-cells
returns-in-None-clause-cells c =
    subst (λ (cell : List Value). IfOk c.no_cells.result (λ cells. cells ≡ (taken_of_cell c.args.count (grokked_by c.args.node (Some c.args.grok.now)) cell).cells))
    (nothing_at c.args.row.now c.args.input.0 (sym c.at.ensures.value ∙ ap option_copied c.in-None.is)) c.no_cells.ensures

pub returns-in-None-clause-log : goal.returns-in-None-clause-log
returns-in-None-clause-log c =
    known c.no_cells.result
    (ap (λ (cell : List Value). logged c.args.log.now (taken_of_cell c.args.count (grokked_by c.args.node (Some c.args.grok.now)) cell).failures)
    (nothing_at c.args.row.now c.args.input.0 (sym c.at.ensures.value ∙ ap option_copied c.in-None.is)))
