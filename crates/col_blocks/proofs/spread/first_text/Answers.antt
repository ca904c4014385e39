use Rattle.std.proofs.Common.{[], List, ℕ, ◌∙◌}
use Rattle.col_blocks.proofs.FirstOf.{first_at}
use Rattle.col_blocks.proofs.spread.first_text.Goals as goal

pub returns-then-begin-end : goal.returns-then-begin-end
returns-then-begin-end c = c.at.ensures ∙ first_at {X = List ℕ} [] c.args.texts.now c.args.begin c.args.end [] c.if-begin-end.true c.requires
