use Rattle.std.proofs.Common.{sym, ap, ◌∙◌}
use Rattle.std.specs.Option.{option_copied}
use Rattle.esql_scalar.proofs.Parts.{nothing_at}
use Rattle.plan_rows.proofs.source.cell_of.Goals as goal

pub returns-in-None : goal.returns-in-None
returns-in-None c = c.null.ensures ∙ nothing_at c.args.row.now c.args.place (sym c.at.ensures.value ∙ ap option_copied c.in-None.is)
