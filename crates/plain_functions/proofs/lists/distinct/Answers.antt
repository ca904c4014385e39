use Rattle.std.proofs.Common.{◌≡◌, ◌+◌, ◌++◌, ◌∷◌, [], List, take, not, arith, sym, ap, ◌∙◌, subst}
use Rattle.std.specs.BTreeSet.{contains}
use Rattle.std.specs.List.{list_any}
use Rattle.std.proofs.lemmas.List.{take_more}
use Rattle.esql_types.specs.Values.{value_cmp}
use Rattle.esql_types.specs.declared.value.Value.{Value}
use Rattle.function_rules.specs.Lists.{distinct_of}
use Rattle.plain_functions.specs.Values.{value_same}
use Rattle.plain_functions.proofs.SeenValues.{kept_known, kept_new, known_more}
use Rattle.plain_functions.proofs.lists.distinct.Goals as goal
use Rattle.plain_functions.proofs.lists.distinct.Goals.{then-branch+in_ok-copy+in_ok-push, else-branch}

pub loop-value-preserved : goal.loop-value-preserved
loop-value-preserved c =
    let values = c.args.values.now in
    let place = c.loop-value.value-index in
    let before = take place values in
    let value = c.new.result in
    let cell = c.loop-value.cell in
    let step : take (place + 1) values ≡ before ++ value ∷ [] =
    take_more values place value c.loop-value-test.true
    ∙ ap (λ (item : Value). before ++ item ∷ []) (grind arith) in
    let added : c.in_ok-insert.field-0 ≡ not (list_any (λ earlier. value_same value earlier) before) =
    c.in_ok-insert.ensures.added ∙ ap not (c.loop-value.invariant.known value) in
    record {
      kept = subst (λ (items : List Value). c.if-branch.cell ≡ distinct_of value_same items) (sym step)
          (elim c.if-branch.branch [
            | then-branch+in_ok-copy+in_ok-push w ↦
                let pushed : w.push.new.self ≡ cell ++ value ∷ [] = grind arith in
                w.cell-is ∙ pushed ∙ kept_new before cell value c.loop-value.invariant.kept (sym added ∙ w.if-branch.true)
            | else-branch w ↦ w.cell-is ∙ kept_known before cell value c.loop-value.invariant.kept (sym added ∙ w.if-branch.false)
          ]);
      known = subst (λ (items : List Value). (sought : Value) → contains value_cmp c.insert.new.self sought ≡ list_any (λ earlier. value_same sought earlier) items) (sym step)
          (known_more c.loop-value.seen c.insert.new.self before value c.loop-value.invariant.known c.in_ok-insert.ensures.updates);
    }
