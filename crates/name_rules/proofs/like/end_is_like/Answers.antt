use Rattle.std.proofs.Common.{rules, sym, ◌∙◌}
use Rattle.std.proofs.lemmas.Bool.{eqb-true}
use Rattle.std.specs.Str.{chars}
use Rattle.name_rules.specs.NameRules.{parts_of}
use Rattle.name_rules.proofs.NameStood.{whole_is_end, stood_some, none_behind, no_parts}
use Rattle.name_rules.proofs.like.end_is_like.Goals as goal

pub returns-in-Whole : goal.returns-in-Whole
returns-in-Whole c = sym (c.loop-pattern.invariant.2 ∙ whole_is_end (parts_of c.loop-pattern.pattern.now) (chars c.loop-pattern.name.now) c.in-Whole.ensures)

pub loop-pattern-preserved : goal.loop-pattern-preserved
loop-pattern-preserved c = (search rules, search rules, c.loop-pattern.invariant.2 ∙ stood_some _ _ _ _ c.in-Run.ensures)

pub returns : goal.returns
returns c = sym (c.loop-pattern.invariant.2 ∙ none_behind _ _ (no_parts _ (eqb-true _ _ (sym c.is_empty.ensures ∙ c.loop-pattern-test.false))))
