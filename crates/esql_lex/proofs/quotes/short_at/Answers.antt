use Rattle.std.proofs.Common.{drop, sym, ◌∙◌, ap}
use Rattle.esql_lex.specs.declared.body.Body.TheVariants.{OfText}
use Rattle.esql_lex.specs.Forms.{body_len}
use Rattle.esql_lex.proofs.Texts.{short_stands, short_escapes, short_open}
use Rattle.esql_lex.proofs.quotes.short_at.Goals as goal

pub returns-then-opens_text : goal.returns-then-opens_text
returns-then-opens_text c = short_stands c.args.at c.args.text.now c.split_at-2.result.1.now c.len-len.result c.token.result c.requires.some c.requires.begins c.requires.no_long (c.len-len.ensures.value ∙ ap (body_len OfText) c.split_at.ensures.back)
    (c.split_at-2.ensures.back ∙ ap (drop c.len-len.result) c.split_at.ensures.back) (sym c.opens_text.ensures ∙ c.if-opens_text.true) c.token.ensures

pub returns-then-begins_escape : goal.returns-then-begins_escape
returns-then-begins_escape c = short_escapes c.args.at c.args.text.now c.split_at-2.result.1.now c.len-len.result c.requires.some c.requires.begins c.requires.no_long (c.len-len.ensures.value ∙ ap (body_len OfText) c.split_at.ensures.back)
    (c.split_at-2.ensures.back ∙ ap (drop c.len-len.result) c.split_at.ensures.back) (sym c.begins_escape.ensures ∙ c.if-begins_escape.true)

pub returns-else-begins_escape : goal.returns-else-begins_escape
returns-else-begins_escape c = short_open c.args.at c.args.text.now c.split_at-2.result.1.now c.len-len.result c.requires.some c.requires.begins c.requires.no_long (c.len-len.ensures.value ∙ ap (body_len OfText) c.split_at.ensures.back)
    (c.split_at-2.ensures.back ∙ ap (drop c.len-len.result) c.split_at.ensures.back) (sym c.opens_text.ensures ∙ c.if-opens_text.false) (sym c.begins_escape.ensures ∙ c.if-begins_escape.false)
