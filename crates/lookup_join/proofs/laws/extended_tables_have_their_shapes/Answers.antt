use Rattle.lookup_join.proofs.Held.{extended_shapes}
use Rattle.lookup_join.proofs.laws.extended_tables_have_their_shapes.Goals as goal

pub returns : goal.returns
returns c = extended_shapes
