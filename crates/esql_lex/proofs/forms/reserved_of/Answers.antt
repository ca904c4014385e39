use Rattle.std.proofs.Common.{sym, ◌∙◌}
use Rattle.std.specs.Prelude.{find}
use Rattle.esql_lex.specs.Words.{is_word, reserved_words}
use Rattle.esql_lex.specs.declared.token.Reserved.TheVariants.{And}
use Rattle.esql_lex.proofs.Lists.{find_more}
use Rattle.esql_lex.proofs.forms.reserved_of.Goals as goal

pub loop-word-preserved : goal.loop-word-preserved
loop-word-preserved c = find_more (is_word c.args.slice.now) reserved_words c.loop-word.word-index And (find (is_word c.args.slice.now) reserved_words) c.loop-word-test.true (sym c.is_word.ensures ∙ c.if-is_word.false) c.loop-word.invariant
