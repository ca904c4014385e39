use Rattle.std.proofs.Common.{◌≡◌, map, take}
use Rattle.table_files.specs.Catalogs.{shape_of}
use Rattle.table_files.proofs.catalog.shapes_of.Given as goal

abbrev pub invariant-loop-found : goal.invariant-loop-found
invariant-loop-found l = l.tables ≡ map shape_of (take l.found-index l.founds)
