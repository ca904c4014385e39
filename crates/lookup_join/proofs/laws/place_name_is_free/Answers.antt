use Rattle.lookup_join.proofs.Runs.{place_free}
use Rattle.lookup_join.proofs.laws.place_name_is_free.Goals as goal

pub returns : goal.returns
returns c = place_free
