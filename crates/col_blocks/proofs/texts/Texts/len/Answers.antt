use Rattle.std.proofs.Common.{ap, sym, ◌∙◌, length}
use Rattle.std.specs.String.{string_bytes}
use Rattle.col_blocks.proofs.Cuts.{length-pieces}
use Rattle.col_blocks.proofs.texts.Texts.len.Goals as goal

pub returns : goal.returns
returns c = c.len.ensures ∙ c.self.inside.ends.ok.0 ∙ sym (length-pieces (string_bytes c.self.inside.bytes) 0 c.self.inside.ends.items) ∙ ap length c.self.view_is
