-- What the code's results are seen as.
use Rattle.std.specs.Prelude.{◌≡◌, List, [], ◌∷◌, length}
use Rattle.std.specs.List.{flat_map}
use Rattle.function_rules.specs.Lists.{first_of}
use Rattle.esql_types.specs.declared.value.Value.{Value}
use Rattle.esql_plan.specs.Rules.{Given, given, given_one, given_nothing, failed, Arguments, are, null, several}
use Rattle.scalar_functions.specs.declared.result.Outcome.{Outcome}
use Rattle.scalar_functions.specs.declared.result.Outcome.TheVariants.{Nothing, One, Several, Fails}
use Rattle.scalar_functions.specs.declared.singles.Singles.{Singles}
use Rattle.scalar_functions.specs.declared.singles.Singles.TheVariants as singles

-- what a function gives
abbrev pub given_by : Outcome → Given
given_by Nothing = given_nothing
given_by (One value) = given_one value
given_by (Several cell) = given cell
given_by (Fails cause) = failed cause

-- the first values of cells that have some
abbrev pub first_values : List (List Value) → List Value
first_values cells = flat_map first_of cells

-- what is told of arguments that are taken as one value each
abbrev pub arguments_by : Singles → List (List Value) → Arguments
arguments_by singles.Are cells = are (first_values cells)
arguments_by singles.Null cells = null
arguments_by singles.Several cells = several

-- each cell has exactly one value
abbrev pub AreSingle : List (List Value) → Type 0
AreSingle [] = Unit {0}
AreSingle (cell ∷ cells) = (length cell ≡ 1) × AreSingle cells
