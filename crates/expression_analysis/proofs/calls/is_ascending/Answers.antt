use Rattle.std.proofs.Common.{refl, ap, sym, ◌∙◌}
use Rattle.std.specs.Prelude.{codes}
use Rattle.std.specs.Option.{option_copied}
use Rattle.row_semantics.specs.Forms.{is_word}
use Rattle.expression_analysis.proofs.Words.{word_told}
use Rattle.expression_analysis.proofs.calls.is_ascending.Goals as goal

pub returns-in-Some : goal.returns-in-Some
returns-in-Some c =
    word_told c.eq_ignore_ascii_case.result c.in-Some.text.now (codes "ASC") refl c.eq_ignore_ascii_case.ensures.test
    ∙ sym (ap (λ literal. is_word "ASC" (option_copied literal)) c.in-Some.is)
