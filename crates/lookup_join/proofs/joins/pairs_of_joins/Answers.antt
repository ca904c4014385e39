use Rattle.std.proofs.Common.{◌≡◌, ◌+◌, ◌++◌, ◌∷◌, [], List, take, arith, sym, ap, ◌∙◌, subst}
use Rattle.std.proofs.lemmas.List.{take_more}
use Rattle.function_rules.specs.Lists.{distinct_of}
use Rattle.lookup_join.specs.declared.joins.JoinAt.{JoinAt}
use Rattle.lookup_join.specs.Extended.{same_join}
use Rattle.lookup_join.proofs.Seen.{Knows, Pair, compare_pairs, join_of, joins_symm, kept_known, kept_new, known_more, pairs_agree}
use Rattle.lookup_join.proofs.joins.pairs_of_joins.Goals as goal
use Rattle.lookup_join.proofs.joins.pairs_of_joins.Goals.{then-branch+in_ok-copy_join+in_ok-push, else-branch}

pub loop-join-preserved : goal.loop-join-preserved
loop-join-preserved c =
    let joins = c.args.joins.now in
    let place = c.loop-join.join-index in
    let before : List JoinAt = take place joins in
    let key : Pair = (c.as_str.result, c.as_str-in-loop-join.result) in
    let pairs = c.loop-join.pairs in
    let same : c.join-item.result ≡ join_of key = λ i. record { table = sym c.as_str.ensures i; column = sym c.as_str-in-loop-join.ensures i } in
    let step : take (place + 1) joins ≡ before ++ join_of key ∷ [] =
    take_more joins place c.join-item.result c.loop-join-test.true ∙ ap (λ (item : JoinAt). before ++ item ∷ []) (grind (arith, same)) in
    record {
      kept = subst (λ (items : List JoinAt). c.if-branch.pairs ≡ distinct_of same_join items) (sym step)
          (elim c.if-branch.branch [
            | then-branch+in_ok-copy_join+in_ok-push w ↦
                let pushed : w.push.new.self ≡ pairs ++ c.join-item.result ∷ [] = grind arith in
                w.pairs-is ∙ pushed ∙ ap (λ (item : JoinAt). pairs ++ item ∷ []) same
                ∙ kept_new same_join joins_symm compare_pairs join_of pairs_agree c.loop-join.seen before pairs key c.loop-join.invariant.kept c.loop-join.invariant.known (sym c.in_ok-insert.ensures.added ∙ w.if-branch.true)
            | else-branch w ↦
                w.pairs-is
                ∙ kept_known same_join joins_symm compare_pairs join_of pairs_agree c.loop-join.seen before pairs key c.loop-join.invariant.kept c.loop-join.invariant.known (sym c.in_ok-insert.ensures.added ∙ w.if-branch.false)
          ]);
      known = subst (λ (items : List JoinAt). Knows same_join joins_symm compare_pairs join_of pairs_agree c.insert.new.self items) (sym step)
          (known_more same_join joins_symm compare_pairs join_of pairs_agree c.loop-join.seen c.insert.new.self before key c.loop-join.invariant.known c.in_ok-insert.ensures.updates);
    }
