-- What a lexeme makes of MV_EXPAND.
use Rattle.std.specs.Prelude.{Option, Some, None}
use Rattle.esql_ast.specs.declared.query.NameAt.{NameAt}
use Rattle.esql_ast.specs.declared.query.CommandKind.TheVariants as command
use Rattle.esql_commands.specs.declared.place.Place.{Place}
use Rattle.esql_commands.specs.declared.place.Place.TheVariants.{At}
use Rattle.esql_commands.specs.declared.place.Point.TheVariants as point

-- after MV_EXPAND a name comes
abbrev pub want_column : Option NameAt → Option Place
want_column (Some column) = Some (At (point.Whole (command.Expand column)))
want_column None = None
