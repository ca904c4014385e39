use Rattle.file_laws.proofs.Lines.{lines_joined}
use Rattle.file_laws.proofs.laws.lines_are_joined.Goals as goal

pub returns : goal.returns
returns c = lines_joined
