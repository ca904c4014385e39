use Rattle.col_blocks.proofs.Lawful.{scattered_kept}
use Rattle.col_blocks.proofs.laws.scattered_are_kept.Goals as goal

pub returns : goal.returns
returns c places cells many = scattered_kept places cells many
