use Rattle.std.proofs.Common.{rules}
use Rattle.regex.specs.Strings.{captures_haystack, captures_span}
use Rattle.dissect_grok.specs.GrokParts.{group_text}
use Rattle.dissect_grok.proofs.PlaceSteps.{texts_added}
use Rattle.dissect_grok.proofs.groups.texts_of.Goals as goal

pub loop-group-preserved : goal.loop-group-preserved
loop-group-preserved c =
    texts_added (group_text (captures_haystack c.args.captures.now) (captures_span c.args.captures.now)) c.args.groups.now c.loop-group.group-index _ c.loop-group.texts c.add_text.new.texts c.loop-group-test.true
    (search rules) c.loop-group.invariant c.in_ok-add_text.ensures
