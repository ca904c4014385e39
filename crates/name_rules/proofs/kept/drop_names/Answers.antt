use Rattle.std.proofs.Common.{rules, arith, not, []}
use Rattle.name_rules.specs.NameRules.{is_met}
use Rattle.name_rules.proofs.NamePlaces.{pushed_more, where_all}
use Rattle.name_rules.proofs.kept.drop_names.Goals as goal

pub loop-name-preserved : goal.loop-name-preserved
loop-name-preserved c = (
  omega (arith, c.loop-name.invariant.0),
  pushed_more (λ name. not (is_met c.args.patterns.now name)) c.loop-name.name-index c.as_slice-name-items.result.now c.name-item.result [] c.loop-name.places _ c.loop-name.place _
      (search rules) (search rules) c.loop-name.invariant.0 c.loop-name.invariant.1 (search rules) c.in_ok-push_where.ensures,
)

pub returns : goal.returns
returns c = (
  where_all (λ name. not (is_met c.args.patterns.now name)) c.args.names.now c.as_slice-name-items.result.now c.loop-name.name-index c.loop-name.places c.as_slice-name-items.ensures
      (omega (arith, c.loop-name.auto.name-index-end, c.loop-name-test.false)) c.loop-name.invariant.1,
  search rules,
)
