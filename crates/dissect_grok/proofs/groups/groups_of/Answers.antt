use Rattle.std.proofs.Common.{rules}
use Rattle.regex.specs.Strings.{regex_names}
use Rattle.dissect_grok.proofs.PlaceSteps.{group_added}
use Rattle.dissect_grok.proofs.groups.groups_of.Goals as goal

pub loop-number-preserved : goal.loop-number-preserved
loop-number-preserved c =
    group_added (regex_names c.args.regex.now) c.args.name.now c.args.places.now c.loop-number.number c.index-places-number.result c.loop-number.groups c.add_group.new.groups _ c.loop-number-test.true
    c.index-places-number.is (search rules) c.loop-number.invariant c.in_ok-add_group.ensures
