use Rattle.name_rules.proofs.RenamedDiffer.{renamed_differ}
use Rattle.name_rules.proofs.laws.renamed_differ.Goals as goal

pub returns : goal.returns
returns c = renamed_differ
