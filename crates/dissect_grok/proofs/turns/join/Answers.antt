use Rattle.std.proofs.Common.{refl, map, ◌∙◌}
use Rattle.std.specs.String.{string_bytes}
use Rattle.std.proofs.lemmas.Slice.{pushed}
use Rattle.dissect_grok.specs.Joined.{text_at}
use Rattle.dissect_grok.proofs.Joins.{turn_added}
use Rattle.dissect_grok.proofs.turns.join.Goals as goal

pub loop-turn-preserved : goal.loop-turn-preserved
loop-turn-preserved c =
    let one = pushed c.args.separator.now refl c.in_ok-push_str-2.was c.push_str-in-loop-turn.ensures.bytes in
    let two = pushed c.text_at-in-loop-turn.result.now one c.in_ok-push_str-3.was c.push_str-in-loop-turn-2.ensures.bytes in
    two
    ∙ turn_added c.args.separator.now (string_bytes c.push_str.new.self) (text_at (map (λ text. text.now) c.args.texts.now)) c.in-Some.rest.now c.loop-turn.turn-index _
    (string_bytes c.loop-turn.whole) c.text_at-in-loop-turn.result.now c.loop-turn-test.true c.text_at-in-loop-turn.ensures c.loop-turn.invariant
