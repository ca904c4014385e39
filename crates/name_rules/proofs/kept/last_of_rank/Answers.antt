use Rattle.std.proofs.Common.{rules, sym, ◌∙◌}
use Rattle.name_rules.specs.NameRules.{meets_at_rank}
use Rattle.name_rules.proofs.NameLasts.{last_at_place, last_before_place}
use Rattle.name_rules.proofs.kept.last_of_rank.Goals as goal

pub returns-then-meets_at_rank : goal.returns-then-meets_at_rank
returns-then-meets_at_rank c =
    sym (c.loop-place.invariant.1 ∙ last_at_place (meets_at_rank c.args.rank c.args.name.now) c.loop-place.place c.args.patterns.now c.index-patterns-place.result
    (search rules) (search rules) (search rules) (sym c.meets_at_rank.ensures ∙ c.if-meets_at_rank.true))

pub loop-place-preserved : goal.loop-place-preserved
loop-place-preserved c = (
  search rules,
  c.loop-place.invariant.1 ∙ last_before_place (meets_at_rank c.args.rank c.args.name.now) c.loop-place.place c.args.patterns.now c.index-patterns-place.result
      (search rules) (search rules) (search rules) (sym c.meets_at_rank.ensures ∙ c.if-meets_at_rank.false),
)
