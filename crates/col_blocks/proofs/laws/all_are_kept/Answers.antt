use Rattle.col_blocks.proofs.Lawful.{all_kept}
use Rattle.col_blocks.proofs.laws.all_are_kept.Goals as goal

pub returns : goal.returns
returns c cells = all_kept cells
