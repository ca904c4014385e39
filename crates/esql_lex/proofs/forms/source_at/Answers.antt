use Rattle.std.proofs.Common.{◌+◌, sym, ◌∙◌, ap}
use Rattle.std.specs.List.{prefix_len}
use Rattle.esql_lex.specs.Forms.{continues_source}
use Rattle.esql_lex.proofs.Readings.{source_stands, source_mark_stands, source_nothing}
use Rattle.esql_lex.proofs.forms.source_at.Goals as goal

pub returns-then-begins_source : goal.returns-then-begins_source
returns-then-begins_source c = source_stands c.args.at c.args.text.now (1 + c.source_len-len.result) c.token.result c.requires.some c.requires.no_comment (sym c.begins_source.ensures ∙ c.if-begins_source.true)
    (ap (λ n. 1 + n) (c.source_len-len.ensures.value ∙ ap (prefix_len continues_source) c.split_at.ensures.back)) c.token.ensures

pub returns-in-Some : goal.returns-in-Some
returns-in-Some c = source_mark_stands c.args.at c.args.text.now c.in-Some.sign c.token-in-Some.result c.requires.some c.requires.no_comment (sym c.begins_source.ensures ∙ c.if-begins_source.false) (sym c.separator.ensures ∙ c.in-Some.is) c.token-in-Some.ensures

pub returns-in-None : goal.returns-in-None
returns-in-None c = source_nothing c.args.at c.args.text.now c.requires.some c.requires.no_comment (sym c.begins_source.ensures ∙ c.if-begins_source.false) (sym c.separator.ensures ∙ c.in-None.is)
