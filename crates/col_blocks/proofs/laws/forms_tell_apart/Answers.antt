use Rattle.col_blocks.proofs.laws.forms_tell_apart.Goals as goal

pub returns : goal.returns
returns c left right kind cells form = λ i. record { kind = kind i; form = form i; cells = cells i }
