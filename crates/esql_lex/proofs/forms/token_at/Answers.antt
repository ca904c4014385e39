use Rattle.std.proofs.Common.{sym, ◌∙◌}
use Rattle.esql_lex.proofs.Readings.{no_comment}
use Rattle.esql_lex.proofs.forms.token_at.Goals as goal

pub plain_at-requires-clause-no_comment : goal.plain_at-requires-clause-no_comment
plain_at-requires-clause-no_comment c = no_comment c.args.text.now c.requires.no_gap (sym c.begins_block.ensures ∙ c.if-begins_block.false)

pub source_at-requires-clause-no_comment : goal.source_at-requires-clause-no_comment
source_at-requires-clause-no_comment c = no_comment c.args.text.now c.requires.no_gap (sym c.begins_block.ensures ∙ c.if-begins_block.false)

pub pattern_at-requires-clause-no_comment : goal.pattern_at-requires-clause-no_comment
pattern_at-requires-clause-no_comment c = no_comment c.args.text.now c.requires.no_gap (sym c.begins_block.ensures ∙ c.if-begins_block.false)
