use Rattle.std.proofs.Common.{[], ◌++◌, map, ap, ◌∙◌}
use Rattle.std.specs.Vec.Iter.{into_iter_items}
use Rattle.function_rules.specs.Lists.{sorted_by}
use Rattle.dissect_grok.specs.Numbered.{turn_order}
use Rattle.dissect_grok.proofs.NamesOf.{ordered_each}
use Rattle.dissect_grok.proofs.turns.turns_of_each.Goals as goal

pub loop-list-init : goal.loop-list-init
loop-list-init c =
    ap (λ turns. turns ++ map (sorted_by turn_order) (into_iter_items c.into_iter-list-iterator.result)) c.new-turns.ensures
    ∙ ap (map (sorted_by turn_order)) (c.into_iter-list-iterator.ensures.into_iter_gives.0 ∙ c.in_ok-list-items.ensures) ∙ ordered_each c.args.keys.now c.args.names.now
