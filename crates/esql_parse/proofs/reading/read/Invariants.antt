use Rattle.esql_parse.proofs.Readings.{Reaches}
use Rattle.esql_parse.proofs.reading.read.Given as goal

abbrev pub invariant-loop-place : goal.invariant-loop-place
invariant-loop-place l = Reaches l.text l.tokens l.place l.state
