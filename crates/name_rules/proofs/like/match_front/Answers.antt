use Rattle.std.proofs.Common.{rules, sym, ◌∙◌}
use Rattle.std.proofs.lemmas.Bool.{eqb-true, eqb-false}
use Rattle.name_rules.proofs.NameStood.{nothing_stood, itself_first, itself_stood, stood_same, none_differs, other_differs, no_parts_left, at_end, before_end}
use Rattle.name_rules.proofs.like.match_front.Goals as goal
use Rattle.name_rules.proofs.like.match_front.Goals.{in_default-cut_char-via-in-Some-cut_char+else-character-own, in_default-cut_char-via-in_default-cut_char}

pub loop-own-init : goal.loop-own-init
loop-own-init c = (search rules, search rules, nothing_stood _ _)

pub returns-in_default-cut_char : goal.returns-in_default-cut_char
returns-in_default-cut_char c =
    let part = itself_first _ _ _ c.in-Some.ensures c.if-own-eq42.false in
    stood_same _ _ _ _ c.loop-own.invariant.2
    ∙ (elim c.in_default-cut_char.branch [
      | in_default-cut_char-via-in-Some-cut_char+else-character-own w ↦
          other_differs _ _ _ _ c.in-Some.own _ part w.in-Some-cut_char.ensures w.if-character-own.false
      | in_default-cut_char-via-in_default-cut_char w ↦ none_differs _ _ _ c.in-Some.own part w.in_default-cut_char.ensures
    ])

pub loop-own-preserved : goal.loop-own-preserved
loop-own-preserved c = (
  search rules,
  search rules,
  itself_stood _ _ _ _ _ _ c.in-Some.own _ (itself_first _ _ _ c.in-Some.ensures c.if-own-eq42.false) c.in-Some-cut_char.ensures c.if-character-own.true
      c.loop-own.invariant.2,
)

pub returns-then-is_empty : goal.returns-then-is_empty
returns-then-is_empty c =
    stood_same _ _ _ _ c.loop-own.invariant.2
    ∙ at_end _ _ (no_parts_left _ c.in_default.ensures) (eqb-true _ _ (sym c.is_empty.ensures ∙ c.if-is_empty.true))

pub returns-else-is_empty : goal.returns-else-is_empty
returns-else-is_empty c =
    stood_same _ _ _ _ c.loop-own.invariant.2
    ∙ before_end _ _ c.loop-own.invariant.1 (no_parts_left _ c.in_default.ensures) (eqb-false _ _ (sym c.is_empty.ensures ∙ c.if-is_empty.false))
