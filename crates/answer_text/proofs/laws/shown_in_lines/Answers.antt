use Rattle.answer_text.proofs.Feeds.{feeds-shown_txt}
use Rattle.answer_text.proofs.laws.shown_in_lines.Goals as goal

pub returns : goal.returns
returns c = feeds-shown_txt
