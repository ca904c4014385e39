use Rattle.std.proofs.Common.{rules, arith}
use Rattle.name_rules.specs.NameRules.{is_place}
use Rattle.name_rules.proofs.NamePlaces.{pushed_more}
use Rattle.name_rules.proofs.kept.push_won.Goals as goal

pub loop-one-preserved : goal.loop-one-preserved
loop-one-preserved c = (
  omega (arith, c.loop-one.invariant.0),
  pushed_more (is_place c.args.winning) c.loop-one.one-index c.args.won.now _ c.args.places.now c.loop-one.places _ c.loop-one.place c.is_place.result
      (search rules) (search rules) c.loop-one.invariant.0 c.loop-one.invariant.1 c.is_place.ensures c.in_ok-push_where.ensures,
)
