use Rattle.std.proofs.Common.{sym, ◌∙◌}
use Rattle.source_columns.proofs.Names.{number_added}
use Rattle.lookup_join.proofs.index.add_name.Goals as goal

pub returns-in_ok-insert : goal.returns-in_ok-insert
returns-in_ok-insert c =
    number_added c.args.index.now c.insert.new.self c.args.name.now c.args.number c.in_ok-insert.ensures.updates (sym c.contains_key.ensures ∙ c.if-not-contains_key.true)
