use Rattle.std.proofs.Common.{sym, ◌∙◌}
use Rattle.esql_plan.specs.declared.names.FunctionRow.{FunctionRow}
use Rattle.esql_plan.specs.Names.{text_names, list_names}
use Rattle.esql_plan.proofs.Entries.{entry_front, entry_back}
use Rattle.esql_plan.proofs.names.find_text_or_list_function.Goals as goal

pub returns-in-Some : goal.returns-in-Some
returns-in-Some c = sym (entry_front FunctionRow c.args.name.now text_names list_names c.in-Some.row (sym c.find_text_function.ensures ∙ c.in-Some.is))

pub returns-in-None : goal.returns-in-None
returns-in-None c = c.find_list_function.ensures ∙ sym (entry_back FunctionRow c.args.name.now text_names list_names (sym c.find_text_function.ensures ∙ c.in-None.is))
