use Rattle.std.proofs.Common.{◌≡◌, ◌++◌, map}
use Rattle.std.specs.Vec.Iter.{into_iter_items}
use Rattle.function_rules.specs.Lists.{sorted_by}
use Rattle.dissect_grok.specs.Joined.{turns_of}
use Rattle.dissect_grok.specs.Numbered.{turn_order}
use Rattle.dissect_grok.proofs.turns.turns_of_each.Given as goal

abbrev pub invariant-loop-list : goal.invariant-loop-list
invariant-loop-list l = l.turns ++ map (sorted_by turn_order) (into_iter_items l.list-iterator) ≡ map (turns_of l.keys) l.names
