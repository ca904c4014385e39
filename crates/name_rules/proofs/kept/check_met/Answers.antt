use Rattle.std.proofs.Common.{rules, refl, sym, ap, not, ◌∙◌}
use Rattle.name_rules.specs.NameRules.{is_unmet}
use Rattle.name_rules.proofs.NamePlaces.{find_none_more, find_some_at}
use Rattle.name_rules.proofs.kept.check_met.Goals as goal

pub loop-pattern-preserved : goal.loop-pattern-preserved
loop-pattern-preserved c =
    find_none_more (is_unmet c.args.names.now) c.loop-pattern.pattern-index c.args.patterns.now c.pattern-item.result (search rules) (search rules) c.loop-pattern.invariant
    (ap not (sym c.meets_some.ensures ∙ c.if-meets_some.true))

pub returns-then-pattern : goal.returns-then-pattern
returns-then-pattern c = (
  c.pattern-item.result,
  find_some_at (is_unmet c.args.names.now) c.loop-pattern.pattern-index c.args.patterns.now c.pattern-item.result (search rules) (search rules) c.loop-pattern.invariant
      (ap not (sym c.meets_some.ensures ∙ c.if-meets_some.false)),
  c.if-pattern.true,
  refl,
)

pub returns-in-loop-pattern : goal.returns-in-loop-pattern
returns-in-loop-pattern c = (
  c.pattern-item.result,
  find_some_at (is_unmet c.args.names.now) c.loop-pattern.pattern-index c.args.patterns.now c.pattern-item.result (search rules) (search rules) c.loop-pattern.invariant
      (ap not (sym c.meets_some.ensures ∙ c.if-meets_some.false)),
  c.if-pattern.false,
  refl,
)
