use Rattle.std.proofs.Common.{sym, ◌∙◌}
use Rattle.esql_lex.proofs.Readings.{pattern_stands, pattern_mark_stands, pattern_nothing}
use Rattle.esql_lex.proofs.forms.pattern_at.Goals as goal

pub returns-then-is_in_pattern : goal.returns-then-is_in_pattern
returns-then-is_in_pattern c = pattern_stands c.args.at c.args.text.now c.pattern_len-len.result c.token.result c.requires.some c.requires.no_comment (sym c.is_in_pattern.ensures ∙ c.if-is_in_pattern.true) c.pattern_len-len.ensures.value c.token.ensures

pub returns-in-Some : goal.returns-in-Some
returns-in-Some c = pattern_mark_stands c.args.at c.args.text.now c.in-Some.sign c.token-in-Some.result c.requires.some c.requires.no_comment (sym c.is_in_pattern.ensures ∙ c.if-is_in_pattern.false) c.if-text-eq96.false (sym c.separator.ensures ∙ c.in-Some.is) c.token-in-Some.ensures

pub returns-in-None : goal.returns-in-None
returns-in-None c = pattern_nothing c.args.at c.args.text.now c.requires.some c.requires.no_comment (sym c.is_in_pattern.ensures ∙ c.if-is_in_pattern.false) c.if-text-eq96.false (sym c.separator.ensures ∙ c.in-None.is)
