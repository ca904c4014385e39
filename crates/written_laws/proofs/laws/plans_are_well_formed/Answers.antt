use Rattle.written_laws.proofs.Formed.{written_formed}
use Rattle.written_laws.proofs.laws.plans_are_well_formed.Goals as goal

pub returns : goal.returns
returns c text catalog query columns is_catalog numbered built is = written_formed text catalog query columns is_catalog numbered is
