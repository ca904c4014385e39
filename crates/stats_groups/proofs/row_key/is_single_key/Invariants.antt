use Rattle.std.proofs.Common.{◌≡◌, drop}
use Rattle.std.specs.List.{list_all}
use Rattle.stats_groups.specs.Entries.{cells_of}
use Rattle.stats_groups.specs.Maps.{is_single}
use Rattle.stats_groups.proofs.row_key.is_single_key.Given as goal

abbrev pub invariant-loop-group : goal.invariant-loop-group
invariant-loop-group l =
    list_all is_single (cells_of l.key.groups.now l.key.row.now) ≡ list_all is_single (cells_of (drop l.group-index l.key.groups.now) l.key.row.now)
