use Rattle.std.proofs.Common.{subst}
use Rattle.esql_lex.specs.Tokens.{Lexes}
use Rattle.esql_lex.proofs.OneDivision.{only_tokens, only_fault}
use Rattle.esql_lex.proofs.Spans.{fit_tokens, fault_places}
use Rattle.esql_lex.proofs.reading.lex.Goals as goal

pub returns-clause-only : goal.returns-clause-only
returns-clause-only c = λ tokens t. only_tokens c.args.text.now c.divide.result tokens (subst (λ text. Lexes text c.divide.result) c.as_bytes.ensures.value c.divide.ensures) t

pub returns-clause-fault : goal.returns-clause-fault
returns-clause-fault c = λ fault f. only_fault c.args.text.now c.divide.result fault (subst (λ text. Lexes text c.divide.result) c.as_bytes.ensures.value c.divide.ensures) f

pub returns-clause-fit : goal.returns-clause-fit
returns-clause-fit c = fit_tokens c.args.text.now c.divide.result c.utf8.text (subst (λ text. Lexes text c.divide.result) c.as_bytes.ensures.value c.divide.ensures)

pub returns-clause-place : goal.returns-clause-place
returns-clause-place c = fault_places c.args.text.now c.divide.result c.utf8.text (subst (λ text. Lexes text c.divide.result) c.as_bytes.ensures.value c.divide.ensures)
