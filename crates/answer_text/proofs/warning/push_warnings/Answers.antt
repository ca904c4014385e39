use Rattle.std.proofs.Common.{◌≡◌, ◌++◌, take, ap, sym, ◌∙◌, append_assoc, arith}
use Rattle.std.specs.List.{list_any}
use Rattle.std.specs.String.{string_bytes}
use Rattle.answer_text.proofs.Causes.{said_again, said_more}
use Rattle.answer_text.specs.Warnings.{cause_line, cause_eq}
use Rattle.answer_text.proofs.warning.push_warnings.Goals as goal
use Rattle.answer_text.proofs.warning.push_warnings.Goals.{then-not-is_among+in_ok-push_line, else-not-is_among}

pub loop-place-preserved : goal.loop-place-preserved
loop-place-preserved c =
    let causes = c.args.causes.now in
    let place = c.loop-place.place in
    let cause = c.index-causes-place.result in
    let line = cause_line c.args.text.now c.args.at in
    let before = string_bytes c.push_head.new.out in
    let tells : c.is_among.result ≡ list_any (λ earlier. cause_eq earlier.now cause.now) (take place causes) = grind arith in
    elim c.if-not-is_among.branch [
      | then-not-is_among+in_ok-push_line w ↦
          ap string_bytes w.out-is
          ∙ w.in_ok-push_line.ensures
          ∙ ap (λ out. out ++ line cause.now) c.loop-place.invariant
          ∙ append_assoc before _ _
          ∙ ap (λ said. before ++ said) (sym (said_more (λ cause. cause.now) line causes place cause c.loop-place-test.true c.index-causes-place.is (sym tells ∙ w.if-not-is_among.true)))
      | else-not-is_among w ↦
          ap string_bytes w.out-is
          ∙ c.loop-place.invariant
          ∙ ap (λ said. before ++ said) (sym (said_again (λ cause. cause.now) line causes place cause c.loop-place-test.true c.index-causes-place.is (sym tells ∙ w.if-not-is_among.false)))
    ]
