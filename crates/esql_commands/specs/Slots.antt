-- What a lexeme makes of a command after an expression that ended in its slot.
use Rattle.std.specs.Prelude.{ℕ, false, List, [], ◌∷◌, ◌++◌, Option, Some, None}
use Rattle.esql_ast.specs.declared.query.NameAt.{NameAt}
use Rattle.esql_ast.specs.declared.query.Field.{Field}
use Rattle.esql_ast.specs.declared.query.CommandKind.TheVariants as command
use Rattle.esql_phrases.specs.declared.lexeme.Lexeme.{Lexeme}
use Rattle.esql_phrases.specs.declared.part.Part.{Part}
use Rattle.esql_commands.specs.declared.field.Clause.{Clause}
use Rattle.esql_commands.specs.declared.place.CommandEnd.{CommandEnd}
use Rattle.esql_commands.specs.declared.place.CommandEnd.TheVariants.{Piped}
use Rattle.esql_commands.specs.declared.place.Place.{Place}
use Rattle.esql_commands.specs.declared.place.Slot.{Slot}
use Rattle.esql_commands.specs.declared.place.Slot.TheVariants as slot
use Rattle.esql_commands.specs.Dissect.{have_input, have_grok_input}
use Rattle.esql_commands.specs.Fields.{have_field, finished_fields}
use Rattle.esql_commands.specs.Grammar.{field_of}
use Rattle.esql_commands.specs.Sort.{have_key, finished_key}
use Rattle.esql_commands.specs.Stats.{without_condition, with_condition, have_aggregate, have_condition, finished_stats}

-- the line of the grammar that the expression in a slot has to be in
abbrev pub line_in : Slot → ℕ
line_in (slot.Field of fields name) = 0
line_in (slot.Aggregate fields name) = 0
line_in (slot.Condition fields field) = 0
line_in slot.Filter = 0
line_in (slot.Key keys) = 0
line_in slot.Dissect = 8
line_in slot.Grok = 8

abbrev pub continue_slot : Slot → Part → Lexeme → Option Place
continue_slot (slot.Field of fields name) part x = have_field of fields name part x
continue_slot (slot.Aggregate fields name) part x = have_aggregate fields name part x
continue_slot (slot.Condition fields field) part x = have_condition fields field part x
continue_slot slot.Filter part x = None
continue_slot (slot.Key keys) part x = have_key keys part x
continue_slot slot.Dissect part x = have_input part x
continue_slot slot.Grok part x = have_grok_input part x

abbrev pub finished_field : Clause → List Field → Option NameAt → Part → CommandEnd
finished_field of fields name part = finished_fields of (fields ++ field_of name part ∷ [])

abbrev pub finished_slot : Slot → Part → Option CommandEnd
finished_slot (slot.Field of fields name) part = Some (finished_field of fields name part)
finished_slot (slot.Aggregate fields name) part = Some (Piped (finished_stats fields (without_condition (field_of name part))))
finished_slot (slot.Condition fields field) part = Some (Piped (finished_stats fields (with_condition field part)))
finished_slot slot.Filter part = Some (Piped (command.Filter part.expr))
finished_slot (slot.Key keys) part = Some (Piped (finished_key keys part.expr false))
finished_slot slot.Dissect part = None
finished_slot slot.Grok part = None
