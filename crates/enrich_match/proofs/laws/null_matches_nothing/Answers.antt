use Rattle.enrich_match.proofs.Found.{null_found}
use Rattle.enrich_match.proofs.laws.null_matches_nothing.Goals as goal

pub returns : goal.returns
returns c = null_found
