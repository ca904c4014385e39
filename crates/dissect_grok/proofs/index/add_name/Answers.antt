use Rattle.std.proofs.Common.{sym, ◌∙◌}
use Rattle.dissect_grok.proofs.Named.{number_added}
use Rattle.dissect_grok.proofs.index.add_name.Goals as goal

pub returns-clause-numbers : goal.returns-clause-numbers
returns-clause-numbers c =
    number_added c.args.index.now c.insert.new.self c.args.name.now c.args.number c.in_ok-insert.ensures.updates (sym c.contains_key.ensures ∙ c.if-contains_key.false)
