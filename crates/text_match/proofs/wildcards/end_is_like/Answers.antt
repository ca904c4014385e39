use Rattle.std.proofs.Common.{rules, sym, ◌∙◌}
use Rattle.std.specs.Str.{chars}
use Rattle.function_rules.specs.Wildcards.{wildcards, stands_for}
use Rattle.function_rules.proofs.Tails.{some_tail}
use Rattle.text_match.proofs.Stoods.{stood_some, none_behind, from_place}
use Rattle.text_match.proofs.wildcards.end_is_like.Goals as goal

pub returns-in-Whole : goal.returns-in-Whole
returns-in-Whole c =
    sym (c.loop-part.invariant.2 ∙ from_place _ _ _ _ _ c.in-Some.ensures c.in-Some-first_place.ensures.place ∙ some_tail (stands_for (wildcards c.loop-part.pattern.now)) 0 (chars c.in-Some-first_place.place.now) c.in-Whole.ensures)

pub loop-part-preserved : goal.loop-part-preserved
loop-part-preserved c = (
  search rules,
  search rules,
  c.loop-part.invariant.2 ∙ from_place _ _ _ _ _ c.in-Some.ensures c.in-Some-first_place.ensures.place ∙ stood_some _ _ _ _ c.in-Run.ensures,
)

pub returns : goal.returns
returns c = sym (c.loop-part.invariant.2 ∙ none_behind _ _ c.in_default.ensures)
