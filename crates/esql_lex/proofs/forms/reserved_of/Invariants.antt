use Rattle.std.proofs.Common.{◌≡◌, drop}
use Rattle.std.specs.Prelude.{find}
use Rattle.esql_lex.specs.Words.{is_word, reserved_words}
use Rattle.esql_lex.proofs.forms.reserved_of.Given as goal

abbrev pub invariant-loop-word : goal.invariant-loop-word
invariant-loop-word l = find (is_word l.slice) (drop l.word-index l.word-items) ≡ find (is_word l.slice) reserved_words
