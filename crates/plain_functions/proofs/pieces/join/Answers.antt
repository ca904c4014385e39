use Rattle.std.proofs.Common.{◌≡◌, refl, ◌∙◌}
use Rattle.std.specs.String.{string_bytes}
use Rattle.std.proofs.lemmas.Slice.{pushed}
use Rattle.plain_functions.proofs.Joins.{text_added}
use Rattle.plain_functions.proofs.pieces.join.Goals as goal

pub loop-value-preserved : goal.loop-value-preserved
loop-value-preserved c =
    let one = pushed c.args.delimiter.now refl c.in_ok-push_str-2.was c.push_str-in-loop-value.ensures.bytes in
    let two = pushed c.text_in-in-loop-value.result.now one c.in_ok-push_str-3.was c.push_str-in-loop-value-2.ensures.bytes in
    two ∙ text_added c.args.delimiter.now _ c.in-Some.rest.now c.loop-value.value-index c.value-item.result (string_bytes c.loop-value.whole) _
    c.loop-value-test.true c.value-item.is c.text_in-in-loop-value.ensures c.loop-value.invariant
