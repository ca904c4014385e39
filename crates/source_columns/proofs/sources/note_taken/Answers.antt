use Rattle.source_columns.proofs.Names.{named_after}
use Rattle.source_columns.proofs.sources.note_taken.Goals as goal

pub returns : goal.returns
returns c = named_after c.args.taken.now c.insert.new.self c.args.name.now c.args.agrees c.in_ok-insert.ensures.updates
