-- What a lexeme makes of FROM.
use Rattle.std.specs.Prelude.{List, [], ◌∷◌, ◌++◌, Option, Some, None}
use Rattle.esql_lex.specs.declared.token.Sign.TheVariants as sign
use Rattle.esql_ast.specs.declared.query.NameAt.{NameAt}
use Rattle.esql_phrases.specs.declared.lexeme.Lexeme.{Lexeme}
use Rattle.esql_phrases.specs.declared.lexeme.Lexeme.TheVariants.{Source, Sign as Mark}
use Rattle.esql_commands.specs.declared.from.FromPoint.{FromPoint}
use Rattle.esql_commands.specs.declared.from.FromPoint.TheVariants.{Want, Have}
use Rattle.esql_commands.specs.declared.place.CommandEnd.{CommandEnd}
use Rattle.esql_commands.specs.declared.place.CommandEnd.TheVariants.{From}
use Rattle.esql_commands.specs.declared.place.Place.{Place}
use Rattle.esql_commands.specs.declared.place.Place.TheVariants.{At}
use Rattle.esql_commands.specs.declared.place.Point.TheVariants as point
use Rattle.esql_commands.specs.Lexemes.{after_comma}

-- after FROM or a comma a table comes
abbrev pub want_table : List NameAt → Lexeme → Option Place
want_table tables (Source table) = Some (At (point.From (Have (tables ++ table ∷ []))))
want_table tables _ = None

abbrev pub continue_from : FromPoint → Lexeme → Option Place
continue_from (Want tables) x = want_table tables x
continue_from (Have tables) x = after_comma x (At (point.From (Want tables)))

-- FROM may end after a table
abbrev pub finished_from : FromPoint → Option CommandEnd
finished_from (Want tables) = None
finished_from (Have tables) = Some (From tables)
