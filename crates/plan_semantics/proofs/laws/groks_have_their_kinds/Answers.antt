use Rattle.plan_semantics.proofs.TakenKinds.{grokked_zip}
use Rattle.plan_semantics.proofs.laws.groks_have_their_kinds.Goals as goal

pub returns : goal.returns
returns c = grokked_zip
