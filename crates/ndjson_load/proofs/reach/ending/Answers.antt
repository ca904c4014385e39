use Rattle.std.proofs.Common.{◌≡◌, ◌<◌, ℕ, true, false, List, get_or, sym, ap, ◌∙◌, arith}
use Rattle.std.proofs.lemmas.Bool.Decides.{nat_tests}
use Rattle.std.specs.Str.{bytes_eq}
use Rattle.std.proofs.lemmas.List.{get_or_read}
use Rattle.std.proofs.lemmas.Slice.Eq.{bytes_eq-Decides}
use Rattle.ndjson_load.specs.Spreading.{rest_at}
use Rattle.ndjson_load.specs.declared.column.MappedColumn.{MappedColumn}
use Rattle.ndjson_load.proofs.Places.{ending_here, no_ending}
use Rattle.ndjson_load.proofs.reach.ending.Goals.{else-place-reach-via-then-place-reach+else-eq, else-place-reach-via-else-place-reach}
use Rattle.ndjson_load.proofs.reach.ending.Goals as goal

pub returns-then-eq : goal.returns-then-eq
returns-then-eq c =
    let columns = c.args.columns.now in
    let depth = c.args.reach.depth in
    let key = c.args.key.now in
    let place = c.args.place in
    let within = c.requires.range.within in
    let below : place < c.args.reach.high = grind (arith, nat_tests, c.if-place-reach.true) in
    let left : c.rest_at.result.now ≡ key = (bytes_eq-Decides c.rest_at.result.now key).0 (sym c.eq.ensures ∙ c.if-eq.true) in
    ending_here columns depth c.args.reach.low c.args.reach.high c.requires.range key place c.requires.place below
    (λ (d : MappedColumn). ap (rest_at depth) (sym (get_or_read columns place c.index-columns-place.result (omega arith) c.index-columns-place.is d)) ∙ sym c.rest_at.ensures ∙ left)

pub returns-else-place-reach : goal.returns-else-place-reach
returns-else-place-reach c =
    let columns = c.args.columns.now in
    let depth = c.args.reach.depth in
    let key = c.args.key.now in
    let place = c.args.place in
    let within = c.requires.range.within in
    let other : place < c.args.reach.high → (d : MappedColumn) → bytes_eq (rest_at depth (get_or columns place d)) key ≡ false =
    λ below d. elim c.else-place-reach.branch [
      | else-place-reach-via-then-place-reach+else-eq w ↦
          ap (λ (m : MappedColumn). bytes_eq (rest_at depth m) key) (sym (get_or_read columns place w.index-columns-place.result (omega arith) w.index-columns-place.is d))
          ∙ ap (λ (r : List ℕ). bytes_eq r key) (sym w.rest_at.ensures) ∙ sym w.eq.ensures ∙ w.if-eq.false
      | else-place-reach-via-else-place-reach w ↦ absurd (grind (arith, nat_tests, w.if-place-reach.false))
    ] in
    no_ending columns depth c.args.reach.low c.args.reach.high c.requires.range key place c.requires.place other
