use Rattle.std.proofs.Common.{◌≡◌, ◌+◌, ◌-◌, drop, ap, sym, subst, ◌∙◌, arith}
use Rattle.dissect_grok.specs.Numbered.{is_noted, number_at}
use Rattle.dissect_grok.specs.declared.keys.Key.{Key}
use Rattle.dissect_grok.proofs.NamesOf.{AreNoted, twice_found}
use Rattle.dissect_grok.proofs.names.have_name_twice.Goals as goal

pub returns-then-branch : goal.returns-then-branch
returns-then-branch c =
    let keys = c.args.keys.now in
    let same : c.loop-place.place - 1 + 1 ≡ c.loop-place.place = omega (arith, c.loop-place-test.true) in
    twice_found keys (c.loop-place.place - 1) c.index-keys-place.result c.loop-place.noted c.in_ok-note_again.field-0 (omega (arith, c.loop-place-test.true, c.loop-place.invariant.within)) c.index-keys-place.is
    (subst (λ n. AreNoted c.loop-place.noted (drop n keys)) (sym same) c.loop-place.invariant.noted) (c.in_ok-note_again.ensures.again ∙ ap (λ (key : Key). is_noted (number_at c.loop-place.noted) key.form) (sym c.index-keys-place.is)) c.if-branch.true
