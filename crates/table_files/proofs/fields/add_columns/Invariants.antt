use Rattle.std.proofs.Common.{◌≡◌, List, ℕ, take}
use Rattle.std.specs.BTreeMap.{get_by_text}
use Rattle.table_files.specs.Catalogs.{columns_of}
use Rattle.table_files.specs.Fields.{with_columns}
use Rattle.table_files.proofs.fields.add_columns.Given as goal

abbrev pub invariant-loop-mapped : goal.invariant-loop-mapped
invariant-loop-mapped l = (name : List ℕ) → get_by_text l.kinds name ≡ with_columns (columns_of (take l.mapped-index l.columns)) (get_by_text l.fn.kinds) name
