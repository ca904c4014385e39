use Rattle.std.proofs.Common.{rules}
use Rattle.name_rules.proofs.NamePlaces.{kept_more, kept_all}
use Rattle.name_rules.proofs.kept.keep_order.Goals as goal

pub loop-winning-preserved : goal.loop-winning-preserved
loop-winning-preserved c =
    kept_more c.args.names.now c.args.patterns.now c.loop-winning.winning c.as_slice-in-loop-winning.result.now c.loop-winning.places _
    (search rules) c.loop-winning.invariant c.in_ok-push_won.ensures

pub returns : goal.returns
returns c = (
  kept_all c.args.names.now c.args.patterns.now c.loop-winning.winning c.loop-winning.places (search rules) c.loop-winning.invariant,
  search rules,
)
