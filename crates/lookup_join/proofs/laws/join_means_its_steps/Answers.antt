use Rattle.lookup_join.proofs.Joined.{join_means_its_steps}
use Rattle.lookup_join.proofs.laws.join_means_its_steps.Goals as goal

pub returns : goal.returns
returns c = join_means_its_steps
