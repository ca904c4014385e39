use Rattle.std.proofs.Common.{◌+◌, ◌≤◌, List, ℕ, sym, ap, ◌∙◌, arith}
use Rattle.std.specs.Prelude.{nat_eq}
use Rattle.std.specs.List.{starts_with}
use Rattle.std.proofs.lemmas.Bool.{ltb-false}
use Rattle.std.proofs.lemmas.Bool.Decides.{nat_tests}
use Rattle.std.proofs.lemmas.List.{get_or_read}
use Rattle.ndjson_load.specs.Spreading.{goes_under, rest_at}
use Rattle.ndjson_load.specs.declared.column.MappedColumn.{MappedColumn}
use Rattle.ndjson_load.proofs.Places.{none_past}
use Rattle.ndjson_load.proofs.reach.may_go_under.Goals as goal

pub returns-then-place-reach : goal.returns-then-place-reach
returns-then-place-reach c = λ no.
    none_past c.args.columns.now c.args.reach.depth c.args.reach.low c.args.reach.high c.requires.range c.args.key.now c.args.place c.requires.place
    (λ below d. absurd (grind (arith, nat_tests, c.if-place-reach.true))) (λ below d. absurd (grind (arith, nat_tests, c.if-place-reach.true)))

pub returns-then-place-reach-2 : goal.returns-then-place-reach-2
returns-then-place-reach-2 c = λ none.
    let columns = c.args.columns.now in
    let depth = c.args.reach.depth in
    let key = c.args.key.now in
    let place = c.args.place in
    let within = c.requires.range.within in
    none_past columns depth c.args.reach.low c.args.reach.high c.requires.range key place c.requires.place
    (λ below d. ap (λ (m : MappedColumn). goes_under key (rest_at depth m)) (sym (get_or_read columns place c.index-columns-place.result (omega arith) c.index-columns-place.is d))
    ∙ ap (λ (r : List ℕ). goes_under key r) (sym c.rest_at.ensures) ∙ c.goes_past.ensures c.if-goes_past.false)
    (λ below d. ap (λ (m : MappedColumn). starts_with nat_eq (rest_at depth m) key)
    (sym (get_or_read columns (place + 1) c.index-columns-place-then-place-reach-2.result (omega arith) c.index-columns-place-then-place-reach-2.is d))
    ∙ ap (λ (r : List ℕ). starts_with nat_eq r key) (sym c.rest_at-then-place-reach-2.ensures) ∙ sym c.starts_with.ensures.value ∙ none)

pub returns-else-place-reach-2 : goal.returns-else-place-reach-2
returns-else-place-reach-2 c = λ none.
    let columns = c.args.columns.now in
    let depth = c.args.reach.depth in
    let key = c.args.key.now in
    let place = c.args.place in
    let within = c.requires.range.within in
    let past : c.args.reach.high ≤ place + 1 = ltb-false (place + 1) c.args.reach.high none in
    none_past columns depth c.args.reach.low c.args.reach.high c.requires.range key place c.requires.place
    (λ below d. ap (λ (m : MappedColumn). goes_under key (rest_at depth m)) (sym (get_or_read columns place c.index-columns-place.result (omega arith) c.index-columns-place.is d))
    ∙ ap (λ (r : List ℕ). goes_under key r) (sym c.rest_at.ensures) ∙ c.goes_past.ensures c.if-goes_past.false)
    (λ below d. absurd (omega arith))
