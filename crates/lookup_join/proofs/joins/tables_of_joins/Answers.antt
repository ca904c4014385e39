use Rattle.std.proofs.Common.{◌≡◌, ◌+◌, ◌++◌, ◌∷◌, [], ℕ, List, map, take, arith, sym, ap, ◌∙◌, subst}
use Rattle.std.specs.Str.{bytes_eq}
use Rattle.std.proofs.lemmas.List.{map-append, take_more}
use Rattle.function_rules.specs.Lists.{distinct_of}
use Rattle.lookup_join.specs.declared.joins.JoinAt.{JoinAt}
use Rattle.lookup_join.proofs.Seen.{Knows, Name, bytes_symm, compare_names, kept_known, kept_new, known_more, name_of, names_agree}
use Rattle.lookup_join.proofs.joins.tables_of_joins.Goals as goal
use Rattle.lookup_join.proofs.joins.tables_of_joins.Goals.{then-branch+in_ok-copy+in_ok-push, else-branch}

pub loop-join-preserved : goal.loop-join-preserved
loop-join-preserved c =
    let joins = c.args.joins.now in
    let place = c.loop-join.join-index in
    let before : List (List ℕ) = map (λ (join : JoinAt). join.table) (take place joins) in
    let key : Name = c.as_str.result in
    let names = c.loop-join.names in
    let step : map (λ (join : JoinAt). join.table) (take (place + 1) joins) ≡ before ++ key.now ∷ [] =
    ap (map (λ (join : JoinAt). join.table)) (take_more joins place c.join-item.result c.loop-join-test.true ∙ ap (λ (item : JoinAt). take place joins ++ item ∷ []) (grind arith))
    ∙ map-append (λ (join : JoinAt). join.table) (take place joins) (c.join-item.result ∷ [])
    ∙ ap (λ (name : List ℕ). before ++ name ∷ []) (sym c.as_str.ensures) in
    record {
      kept = subst (λ (items : List (List ℕ)). c.if-branch.names ≡ distinct_of bytes_eq items) (sym step)
          (elim c.if-branch.branch [
            | then-branch+in_ok-copy+in_ok-push w ↦
                let pushed : w.push.new.self ≡ names ++ key.now ∷ [] = grind arith in
                w.names-is ∙ pushed
                ∙ kept_new bytes_eq bytes_symm compare_names name_of names_agree c.loop-join.seen before names key c.loop-join.invariant.kept c.loop-join.invariant.known (sym c.in_ok-insert.ensures.added ∙ w.if-branch.true)
            | else-branch w ↦
                w.names-is
                ∙ kept_known bytes_eq bytes_symm compare_names name_of names_agree c.loop-join.seen before names key c.loop-join.invariant.kept c.loop-join.invariant.known (sym c.in_ok-insert.ensures.added ∙ w.if-branch.false)
          ]);
      known = subst (λ (items : List (List ℕ)). Knows bytes_eq bytes_symm compare_names name_of names_agree c.insert.new.self items) (sym step)
          (known_more bytes_eq bytes_symm compare_names name_of names_agree c.loop-join.seen c.insert.new.self before key c.loop-join.invariant.known c.in_ok-insert.ensures.updates);
    }
