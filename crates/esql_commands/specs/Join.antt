-- What a lexeme makes of LOOKUP JOIN.
use Rattle.std.specs.Prelude.{Bool, true, false, Option, Some, None}
use Rattle.esql_lex.specs.declared.token.Reserved.TheVariants as word
use Rattle.esql_ast.specs.declared.query.NameAt.{NameAt}
use Rattle.esql_ast.specs.declared.query.CommandKind.TheVariants as command
use Rattle.esql_phrases.specs.declared.lexeme.Lexeme.{Lexeme}
use Rattle.esql_phrases.specs.declared.lexeme.Lexeme.TheVariants.{Plain, Source, Word}
use Rattle.esql_commands.specs.declared.join.JoinPoint.{JoinPoint}
use Rattle.esql_commands.specs.declared.join.JoinPoint.TheVariants.{Lookup, Join, Table, On}
use Rattle.esql_commands.specs.declared.place.Place.{Place}
use Rattle.esql_commands.specs.declared.place.Place.TheVariants.{At}
use Rattle.esql_commands.specs.declared.place.Point.TheVariants as point
use Rattle.esql_commands.specs.Lexemes.{name_in}
use Rattle.esql_commands.specs.Words.{is_join}

abbrev pub have_word : Bool → Option Place
have_word true = Some (At (point.Join Join))
have_word false = None

-- after LOOKUP the word JOIN comes
abbrev pub have_lookup : Lexeme → Option Place
have_lookup (Plain name) = have_word (is_join name.name)
have_lookup _ = None

-- after JOIN a table comes
abbrev pub have_join : Lexeme → Option Place
have_join (Source table) = Some (At (point.Join (Table table)))
have_join _ = None

-- after the table ON comes
abbrev pub have_table : NameAt → Lexeme → Option Place
have_table table (Word word.On at) = Some (At (point.Join (On table)))
have_table table _ = None

-- after ON a name comes
abbrev pub have_on : NameAt → Option NameAt → Option Place
have_on table (Some on) = Some (At (point.Whole (command.Join table on)))
have_on table None = None

abbrev pub continue_join : JoinPoint → Lexeme → Option Place
continue_join Lookup x = have_lookup x
continue_join Join x = have_join x
continue_join (Table table) x = have_table table x
continue_join (On table) x = have_on table (name_in x)
