use Rattle.std.proofs.Common.{rules, sym, ◌∙◌}
use Rattle.std.proofs.lemmas.Bool.{eqb-true, eqb-false}
use Rattle.text_match.proofs.Stoods.{next_is, nothing_stood, any_stood, itself_stood, stood_same, any_differs, none_differs, other_differs, at_end, before_end}
use Rattle.text_match.proofs.wildcards.match_front.Goals as goal
use Rattle.text_match.proofs.wildcards.match_front.Goals.{in_default-cut_char-via-in-Some-cut_char-2+else-character-own, in_default-cut_char-via-in_default-cut_char}

pub loop-part-init : goal.loop-part-init
loop-part-init c = (search rules, search rules, nothing_stood _ _)

pub returns-in-None : goal.returns-in-None
returns-in-None c =
    stood_same _ _ _ _ c.loop-part.invariant.2
    ∙ any_differs _ _ _ (next_is _ _ _ _ c.in-Some.ensures c.in-AnyOne.is) c.in-None.ensures

pub returns-in_default-cut_char : goal.returns-in_default-cut_char
returns-in_default-cut_char c =
    let part = next_is _ _ _ _ c.in-Some.ensures c.in-Itself.is in
    stood_same _ _ _ _ c.loop-part.invariant.2
    ∙ (elim c.in_default-cut_char.branch [
      | in_default-cut_char-via-in-Some-cut_char-2+else-character-own w ↦
          other_differs _ _ _ _ c.in-Itself.own _ part w.in-Some-cut_char-2.ensures w.if-character-own.false
      | in_default-cut_char-via-in_default-cut_char w ↦ none_differs _ _ _ c.in-Itself.own part w.in_default-cut_char.ensures
    ])

pub loop-part-preserved-in-Some-cut_char : goal.loop-part-preserved-in-Some-cut_char
loop-part-preserved-in-Some-cut_char c = (
  search rules,
  search rules,
  any_stood _ _ _ _ _ _ _ (next_is _ _ _ _ c.in-Some.ensures c.in-AnyOne.is) c.in-Some-cut_char.ensures c.loop-part.invariant.2,
)

pub loop-part-preserved : goal.loop-part-preserved
loop-part-preserved c = (
  search rules,
  search rules,
  itself_stood _ _ _ _ _ _ c.in-Itself.own _ (next_is _ _ _ _ c.in-Some.ensures c.in-Itself.is) c.in-Some-cut_char-2.ensures c.if-character-own.true
      c.loop-part.invariant.2,
)

pub returns-then-is_empty : goal.returns-then-is_empty
returns-then-is_empty c =
    stood_same _ _ _ _ c.loop-part.invariant.2
    ∙ at_end _ _ c.in_default.ensures (eqb-true _ _ (sym c.is_empty.ensures ∙ c.if-is_empty.true))

pub returns-else-is_empty : goal.returns-else-is_empty
returns-else-is_empty c =
    stood_same _ _ _ _ c.loop-part.invariant.2
    ∙ before_end _ _ c.loop-part.invariant.1 c.in_default.ensures (eqb-false _ _ (sym c.is_empty.ensures ∙ c.if-is_empty.false))
