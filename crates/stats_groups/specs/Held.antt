-- What the fields of `Groups` hold.
use Rattle.std.specs.Prelude.{◌≡◌, false, Some, None, length, if◌then◌else◌}
use Rattle.stats_groups.specs.Grouped.{Grouped}
use Rattle.stats_groups.specs.Maps.{groups_of}
use Rattle.stats_groups.specs.declared.groups.Groups.TheInside.{Inside}

abbrev pub grouped_of : Inside → Grouped
grouped_of inside =
    record { columns = inside.columns; aggregates = inside.aggregates; entries = if inside.is_broken then None else Some inside.entries.list }

-- unless memory was refused, the map holds the groups of the rows that were added
abbrev pub HoldsGroups : Inside → Type 0
HoldsGroups inside = inside.is_broken ≡ false → inside.groups.entries ≡ groups_of (length inside.columns) inside.aggregates inside.entries.list
