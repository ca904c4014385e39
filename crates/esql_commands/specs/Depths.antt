-- The depth of what a command says.
use Rattle.std.specs.Prelude.{ℕ, map}
use Rattle.esql_ast.specs.Depths.{greatest, depth_of_field, depth_of_kind}
use Rattle.esql_commands.specs.declared.place.CommandEnd.{CommandEnd}
use Rattle.esql_commands.specs.declared.place.CommandEnd.TheVariants as end

-- the greatest depth of an expression in it
abbrev pub depth_of_end : CommandEnd → ℕ
depth_of_end (end.From tables) = 0
depth_of_end (end.Row fields) = greatest (map depth_of_field fields)
depth_of_end (end.Piped kind) = depth_of_kind kind
