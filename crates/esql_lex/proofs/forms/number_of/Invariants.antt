use Rattle.std.proofs.Common.{◌≡◌, take}
use Rattle.esql_lex.specs.Forms.{value_of}
use Rattle.esql_lex.proofs.forms.number_of.Given as goal

abbrev pub invariant-loop-digit : goal.invariant-loop-digit
invariant-loop-digit l = l.value ≡ value_of (take l.digit-index l.digits)
