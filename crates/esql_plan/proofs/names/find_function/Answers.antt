use Rattle.std.proofs.Common.{◌++◌, sym, ◌∙◌}
use Rattle.esql_plan.specs.declared.names.FunctionRow.{FunctionRow}
use Rattle.esql_plan.specs.Names.{function_named, value_names, text_names, list_names}
use Rattle.esql_plan.proofs.Entries.{entry_front, entry_back}
use Rattle.esql_plan.proofs.names.find_function.Goals as goal

pub returns-in-Some : goal.returns-in-Some
unfolding function_named
returns-in-Some c = sym (entry_front FunctionRow c.args.name.now value_names (text_names ++ list_names) c.in-Some.row (sym c.find_value_function.ensures ∙ c.in-Some.is))

pub returns-in-None : goal.returns-in-None
unfolding function_named
returns-in-None c = c.find_text_or_list_function.ensures ∙ sym (entry_back FunctionRow c.args.name.now value_names (text_names ++ list_names) (sym c.find_value_function.ensures ∙ c.in-None.is))
