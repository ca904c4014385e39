use Rattle.std.proofs.Common.{ℕ, List, [], map, take}
use Rattle.table_out.specs.Writers.{Stands}
use Rattle.table_out.proofs.records.push_record.Given as goal

abbrev pub invariant-loop-item : goal.invariant-loop-item
invariant-loop-item g l = (before : List ℕ) → Stands l.initial.writer before [] → Stands l.writer before (map g.T.Field.field (take l.item-index l.items))
