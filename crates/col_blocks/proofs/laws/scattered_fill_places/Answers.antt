use Rattle.col_blocks.proofs.Lawful.{scattered_fills}
use Rattle.col_blocks.proofs.laws.scattered_fill_places.Goals as goal

pub returns : goal.returns
returns c places cells = scattered_fills places cells
