use Rattle.std.proofs.Common.{◌≡◌, List, Some, IfOk, sym, ap, subst, ◌∙◌}
use Rattle.std.specs.Option.{option_copied}
use Rattle.esql_scalar.proofs.Parts.{nothing_at}
use Rattle.esql_types.specs.declared.value.Value.{Value}
use Rattle.plan_semantics.specs.Taken.{taken_of_cell, dissected_by}
use Rattle.plan_rows.proofs.cuts.dissect_row.Goals as goal

pub returns-in-None : goal.returns-in-None
returns-in-None c =
    subst (λ (cell : List Value). IfOk c.no_cells.result (λ cells. cells ≡ (taken_of_cell c.args.count (dissected_by (Some c.args.dissect.now)) cell).cells))
    (nothing_at c.args.row.now c.args.input.0 (sym c.at.ensures.value ∙ ap option_copied c.in-None.is)) c.no_cells.ensures
