use Rattle.esql_parse.proofs.Refusals.{spelled_not_refused}
use Rattle.esql_parse.proofs.laws.no_refusal.Goals as goal

pub returns : goal.returns
returns c = λ text tokens query error spelled refused. spelled_not_refused 100 200 error spelled.spells spelled.shallow spelled.few refused
