use Rattle.esql_lex.proofs.Spans.{slices_have_forms}
use Rattle.esql_lex.proofs.laws.slices_have_forms.Goals as goal

pub returns : goal.returns
returns c = slices_have_forms
