use Rattle.std.proofs.Common.{take}
use Rattle.std.specs.BTreeMap.{get_by_text}
use Rattle.visible_columns.specs.Names.{FirstsOf}
use Rattle.visible_columns.proofs.names.names_of.Given as goal

abbrev pub invariant-loop-slot : goal.invariant-loop-slot
invariant-loop-slot l = FirstsOf (take l.slot l.columns) (get_by_text l.names)
