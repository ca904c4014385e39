use Rattle.std.proofs.Common.{sym, ◌∙◌, ap, [], ◌∷◌}
use Rattle.esql_lex.specs.Gaps.{end_of}
use Rattle.esql_lex.proofs.Texts.{long_stands, long_open}
use Rattle.esql_lex.proofs.quotes.long_at.Goals as goal

pub returns-in-Some : goal.returns-in-Some
returns-in-Some c = long_stands c.args.at c.args.text.now c.in-Some.len c.token.result c.requires.begins (ap (end_of (34 ∷ 34 ∷ 34 ∷ [])) (sym c.split_at.ensures.back) ∙ ap (λ m. end_of m c.split_at.result.1.now) (sym c.as_bytes.ensures.value) ∙ sym c.end_of.ensures.value ∙ c.in-Some.is) c.token.ensures

pub returns-in-None : goal.returns-in-None
returns-in-None c = long_open c.args.at c.args.text.now c.requires.begins (ap (end_of (34 ∷ 34 ∷ 34 ∷ [])) (sym c.split_at.ensures.back) ∙ ap (λ m. end_of m c.split_at.result.1.now) (sym c.as_bytes.ensures.value) ∙ sym c.end_of.ensures.value ∙ c.in-None.is)
