use Rattle.std.proofs.Common.{sym}
use Rattle.plan_writing.proofs.Parted.{nothing_named, nothing_shown}
use Rattle.plan_writing.proofs.columns.push_at.Goals as goal

pub returns-in-None : goal.returns-in-None
returns-in-None c = nothing_named c.args.apart.now.names c.args.apart.now.shown c.args.place c.args.visible.now (sym c.in-None.ensures.value)

pub returns-in-None-at : goal.returns-in-None-at
returns-in-None-at c = nothing_shown c.args.apart.now.names c.args.apart.now.shown c.args.place c.args.visible.now (sym c.in-None-at.ensures.value)
