use Rattle.written_laws.proofs.Orderly.{written_orderly}
use Rattle.written_laws.proofs.laws.plans_are_orderly.Goals as goal

pub returns : goal.returns
returns c text catalog query columns is_catalog numbered built is held = written_orderly text catalog query numbered held
