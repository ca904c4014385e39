use Rattle.std.specs.String.{string_bytes}
use Rattle.esql_lex.proofs.Contents.{ComesTo}
use Rattle.esql_lex.proofs.content.undone.Given as goal

abbrev pub invariant-loop-character : goal.invariant-loop-character
invariant-loop-character l = ComesTo l.fn.mark l.yielded l.marked (string_bytes l.out)
