use Rattle.plan_semantics.proofs.NewColumns.{at_new, beside_new}
use Rattle.plan_semantics.proofs.laws.new_columns_hold.Goals as goal

pub returns : goal.returns
returns c = λ to row cells once same. record { own = at_new to cells row once same; others = λ id elsewhere. beside_new to cells row id elsewhere }
