use Rattle.esql_run.proofs.OneOutcome.{one_outcome}
use Rattle.esql_run.proofs.laws.one_outcome.Goals as goal

pub returns : goal.returns
returns c = one_outcome (record {
  one_list = c.one_list.ensures;
  one_fault = c.one_fault.ensures;
  not_both = c.not_both.ensures;
  one_query = c.one_query.ensures;
  one_refusal = c.one_refusal.ensures;
  no_refusal = c.no_refusal.ensures;
  tables = record { one_gathering = c.one_gathering.ensures; one_loading = c.one_loading.ensures };
})
