use Rattle.std.proofs.Common.{◌≤◌, arith}
use Rattle.esql_lex.specs.Forms.{value_of}
use Rattle.esql_lex.proofs.Lists.{value_past}
use Rattle.esql_lex.proofs.forms.number_of.Goals as goal

pub returns-in-None : goal.returns-in-None
returns-in-None c =
    let past : 18446744073709551616 ≤ value_of c.args.digits.now = value_past c.args.digits.now c.loop-digit.digit-index 0 c.loop-digit.value 18446744073709551616 c.loop-digit-test.true c.loop-digit.invariant c.in-None.ensures in
    omega (arith, past)
