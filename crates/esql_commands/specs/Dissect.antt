-- What a lexeme makes of DISSECT and GROK.
use Rattle.std.specs.Prelude.{Bool, true, false, [], Option, Some, None}
use Rattle.esql_lex.specs.declared.token.Sign.TheVariants as sign
use Rattle.esql_ast.specs.declared.expr.Expr.{Expr}
use Rattle.esql_ast.specs.declared.query.TextAt.{TextAt}
use Rattle.esql_ast.specs.declared.query.CommandKind.{CommandKind}
use Rattle.esql_ast.specs.declared.query.CommandKind.TheVariants as command
use Rattle.esql_phrases.specs.declared.lexeme.Lexeme.{Lexeme}
use Rattle.esql_phrases.specs.declared.lexeme.Lexeme.TheVariants.{Plain, Text, Sign as Mark}
use Rattle.esql_phrases.specs.declared.part.Part.{Part}
use Rattle.esql_commands.specs.declared.dissect.DissectPoint.{DissectPoint}
use Rattle.esql_commands.specs.declared.dissect.DissectPoint.TheVariants.{Pattern, Separator, Assign}
use Rattle.esql_commands.specs.declared.place.Place.{Place}
use Rattle.esql_commands.specs.declared.place.Place.TheVariants.{At}
use Rattle.esql_commands.specs.declared.place.Point.TheVariants as point
use Rattle.esql_commands.specs.Words.{is_append_separator}

-- after the input of DISSECT its pattern comes
abbrev pub have_input : Part → Lexeme → Option Place
have_input part (Text pattern) = Some (At (point.Dissect (Pattern part.expr pattern)))
have_input part _ = None

-- after the input of GROK its pattern comes, and ends the command
abbrev pub have_grok_input : Part → Lexeme → Option Place
have_grok_input part (Text pattern) = Some (At (point.Whole (command.Grok part.expr pattern)))
have_grok_input part _ = None

abbrev pub have_word : Expr → TextAt → Bool → Option Place
have_word input pattern true = Some (At (point.Dissect (Separator input pattern)))
have_word input pattern false = None

-- after the pattern the word APPEND_SEPARATOR may come
abbrev pub have_pattern : Expr → TextAt → Lexeme → Option Place
have_pattern input pattern (Plain name) = have_word input pattern (is_append_separator name.name)
have_pattern input pattern _ = None

-- after it `=` comes
abbrev pub have_separator : Expr → TextAt → Lexeme → Option Place
have_separator input pattern (Mark sign.Assign at) = Some (At (point.Dissect (Assign input pattern)))
have_separator input pattern _ = None

-- after `=` the separator comes
abbrev pub have_assign : Expr → TextAt → Lexeme → Option Place
have_assign input pattern (Text separator) = Some (At (point.Whole (command.Dissect input pattern separator.text)))
have_assign input pattern _ = None

abbrev pub continue_dissect : DissectPoint → Lexeme → Option Place
continue_dissect (Pattern input pattern) x = have_pattern input pattern x
continue_dissect (Separator input pattern) x = have_separator input pattern x
continue_dissect (Assign input pattern) x = have_assign input pattern x

-- DISSECT may end after its pattern, with an empty separator
abbrev pub finished_dissect : DissectPoint → Option CommandKind
finished_dissect (Pattern input pattern) = Some (command.Dissect input pattern [])
finished_dissect (Separator input pattern) = None
finished_dissect (Assign input pattern) = None
