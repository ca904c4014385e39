use Rattle.std.proofs.Common.{◌≡◌, ◌<◌, ◌≤◌, ◌∷◌, ◌++◌, [], length, map, take, ap, sym, ◌∙◌, arith}
use Rattle.std.proofs.lemmas.List.{length-map, map-append}
use Rattle.answer_text.specs.Warnings.{at_node}
use Rattle.answer_text.proofs.Causes.{told_elsewhere, told_more, told_full}
use Rattle.answer_text.proofs.warning.first_causes.Goals as goal
use Rattle.answer_text.proofs.warning.first_causes.Goals.{then-failure-node+then-len-lt-NOTED+in_ok-push, else-failure-node, else-failure-node-via-then-failure-node+else-len-lt-NOTED, else-failure-node-via-else-failure-node}

pub loop-failure-preserved : goal.loop-failure-preserved
loop-failure-preserved c =
    let failures = c.args.failures.now in
    let i = c.loop-failure.failure-index in
    let told = c.loop-failure.causes in
    let failure = c.failure-item.result in
    let sized : length told.items ≡ length (take 20 (at_node (take i failures) c.args.node)) = sym (length-map told.items (λ cause. cause.now)) ∙ ap length c.loop-failure.invariant in
    elim c.if-failure-node.branch [
      | then-failure-node+then-len-lt-NOTED+in_ok-push w ↦
          let few : length (take 20 (at_node (take i failures) c.args.node)) < 20 = omega (arith, told.ok.0) in
          ap (λ v. map (λ cause. cause.now) v.items) w.causes-is
          ∙ ap (map (λ cause. cause.now)) w.in_ok-push.ensures.items
          ∙ map-append (λ cause. cause.now) told.items _
          ∙ ap (λ xs. xs ++ failure.cause ∷ []) c.loop-failure.invariant
          ∙ told_more failures i failure c.args.node c.loop-failure-test.true c.failure-item.is w.if-failure-node.true few
      | else-failure-node w ↦
          ap (λ v. map (λ cause. cause.now) v.items) w.causes-is ∙ c.loop-failure.invariant ∙
          elim w.else-failure-node.branch [
            | else-failure-node-via-then-failure-node+else-len-lt-NOTED w' ↦
                let full : 20 ≤ length (take 20 (at_node (take i failures) c.args.node)) = omega (arith, told.ok.0) in
                told_full failures i failure c.args.node c.loop-failure-test.true c.failure-item.is w'.if-failure-node.true full
            | else-failure-node-via-else-failure-node w' ↦
                told_elsewhere failures i failure c.args.node c.loop-failure-test.true c.failure-item.is w'.if-failure-node.false
          ]
    ]
