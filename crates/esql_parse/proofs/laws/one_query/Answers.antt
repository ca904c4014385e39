use Rattle.esql_parse.proofs.Accepts.{one_query}
use Rattle.esql_parse.proofs.laws.one_query.Goals as goal

pub returns : goal.returns
returns c = one_query
