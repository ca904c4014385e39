use Rattle.std.proofs.Common.{◌≡◌, take}
use Rattle.table_files.specs.Catalogs.{columns_of}
use Rattle.table_files.proofs.catalog.columns_of.Given as goal

abbrev pub invariant-loop-mapped : goal.invariant-loop-mapped
invariant-loop-mapped l = l.copies ≡ columns_of (take l.mapped-index l.columns)
