use Rattle.std.proofs.Common.{◌≡◌, List, sym, ap, ◌∙◌, subst}
use Rattle.std.specs.List.{slice_get}
use Rattle.std.specs.Result.{IfOk}
use Rattle.esql_types.specs.declared.value.Value.{Value}
use Rattle.table_columns.proofs.Items.{item_at, item_absent}
use Rattle.table_columns.proofs.held.HeldColumn.cell.Goals as goal

pub returns-in-Some : goal.returns-in-Some
returns-in-Some c =
    let column = c.args.self.now in
    let place = c.in-Some.place in
    let got = sym (ap (λ ns. slice_get ns place) c.as_slice.ensures) ∙ c.in-Some.ensures.found in
    subst (λ (item : List Value). IfOk c.cell_at.result (λ cell. cell ≡ item))
    (sym (item_at 0 column.numbers c.requires.0 column.cells.cells place c.args.row c.requires.1.rise c.requires.1.paired got))
    c.cell_at.ensures

pub returns-in-None : goal.returns-in-None
returns-in-None c =
    let column = c.args.self.now in
    c.null.ensures
    ∙ sym (item_absent column.numbers column.cells.cells c.args.row (λ place got. c.place_of.ensures.absent c.in-None.is place (ap (λ ns. slice_get ns place) c.as_slice.ensures ∙ got)))
