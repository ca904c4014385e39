-- The cells of a key as they are kept.
use Rattle.std.specs.Prelude.{List, [], ◌∷◌}
use Rattle.esql_types.specs.declared.value.Value.{Value}
use Rattle.stats_groups.specs.declared.group_key.KeyCells.{KeyCells}
use Rattle.stats_groups.specs.declared.group_key.KeyCells.TheVariants.{One, Several}

abbrev pub cells_held : KeyCells → List (List Value)
cells_held (One cell) = cell ∷ []
cells_held (Several cells) = cells.items
