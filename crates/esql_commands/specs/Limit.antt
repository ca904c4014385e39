-- What a lexeme makes of LIMIT.
use Rattle.std.specs.Prelude.{pos, Option, Some, None}
use Rattle.esql_ast.specs.declared.query.CommandKind.TheVariants as command
use Rattle.esql_phrases.specs.declared.lexeme.Lexeme.{Lexeme}
use Rattle.esql_phrases.specs.declared.lexeme.Lexeme.TheVariants.{Number}
use Rattle.esql_commands.specs.declared.place.Place.{Place}
use Rattle.esql_commands.specs.declared.place.Place.TheVariants.{At}
use Rattle.esql_commands.specs.declared.place.Point.TheVariants as point

-- after LIMIT a number comes, which is not negative
abbrev pub want_count : Lexeme → Option Place
want_count (Number (pos count) at) = Some (At (point.Whole (command.Limit count)))
want_count _ = None
