-- What an answer that is rendered says.
use Rattle.esql_run.specs.declared.rendered.Rendered.{Rendered}
use Rattle.esql_run.specs.Bytes.{Outcome}

abbrev pub outcome_made : Rendered → Outcome
outcome_made answer = record { status = answer.status; out = answer.out; err = answer.err }
