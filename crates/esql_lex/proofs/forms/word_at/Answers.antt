use Rattle.std.proofs.Common.{◌+◌, ◌∙◌, ap}
use Rattle.esql_lex.specs.declared.body.Body.TheVariants.{OfName}
use Rattle.esql_lex.specs.Forms.{body_len, word_or_name}
use Rattle.esql_lex.proofs.Slices.{word_stands}
use Rattle.esql_lex.proofs.forms.word_at.Goals as goal

pub returns : goal.returns
returns c = word_stands c.args.at c.args.text.now (1 + c.len-len.result) c.token.result c.requires.some c.requires.no_comment c.requires.begins
    (ap (λ n. 1 + n) (c.len-len.ensures.value ∙ ap (body_len OfName) c.split_at.ensures.back))
    (c.token.ensures ∙ ap (λ k. record { kind = k; span = record { from = c.args.at; to = c.args.at + (1 + c.len-len.result) } }) (c.word_or_name.ensures ∙ ap word_or_name c.split_at-2.ensures.front))
