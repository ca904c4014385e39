use Rattle.std.proofs.Common.{map, sym, ◌∙◌}
use Rattle.dissect_grok.proofs.Named.{no_items}
use Rattle.dissect_grok.proofs.NamesOf.{turn_put}
use Rattle.dissect_grok.proofs.turns.turns_by_place.Goals as goal

pub loop-place-init : goal.loop-place-init
loop-place-init c = c.in_ok-lists.ensures ∙ no_items c.args.names.now

pub loop-place-preserved : goal.loop-place-preserved
loop-place-preserved c =
    turn_put c.args.names.now c.args.keys.now c.loop-place.place c.index-keys-place.result c.in_ok-index.index c.loop-place.lists.items c.add_turn.new.lists.items c.requires c.in_ok-index.ensures
    c.loop-place-test.true c.index-keys-place.is c.loop-place.invariant c.in_ok-add_turn.ensures
