use Rattle.std.proofs.Common.{take}
use Rattle.std.specs.BTreeMap.{get_by_text}
use Rattle.table_files.specs.Fields.{FoldsKinds}
use Rattle.table_files.proofs.fields.kinds_given.Given as goal

abbrev pub invariant-loop-name : goal.invariant-loop-name
invariant-loop-name l = FoldsKinds l.fn.findings.tables (take l.name-index l.tables) (get_by_text l.kinds)
