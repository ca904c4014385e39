use Rattle.written_laws.proofs.Apart.{names_distinct}
use Rattle.written_laws.proofs.laws.columns_differ.Goals as goal

pub returns : goal.returns
returns c = names_distinct
