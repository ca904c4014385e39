use Rattle.file_laws.proofs.Lines.{no_ends}
use Rattle.file_laws.proofs.laws.lines_have_no_ends.Goals as goal

pub returns : goal.returns
returns c = no_ends
