use Rattle.std.proofs.Common.{◌∙◌, ap, sym, Some}
use Rattle.std.proofs.lemmas.Result.{on_ok_weaker}
use Rattle.std.specs.Option.{option_copied}
use Rattle.stats_groups.proofs.CellSteps.{put_at_first}
use Rattle.stats_groups.proofs.cells.put_first.Goals as goal

pub returns-in-Some : goal.returns-in-Some
returns-in-Some c =
    on_ok_weaker c.put_cell.result
    (λ made. made ∙ put_at_first c.args.row.now c.args.columns.now c.in-Some.to.now c.args.cell (sym c.first.ensures.value ∙ ap option_copied c.in-Some.is))
    c.put_cell.ensures
