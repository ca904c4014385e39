use Rattle.std.proofs.Common.{◌≡◌, ℕ, List, length, take, drop, min, is_lt, nat_cmp, sym, ap, ◌∙◌}
use Rattle.std.specs.Cmp.Lexicographic.{slice_cmp}
use Rattle.std.specs.Ordering.{ordering_then}
use Rattle.std.specs.declared.cmp.Ordering.{Ordering}
use Rattle.std.proofs.lemmas.List.{take_min, drop_min}
use Rattle.ndjson_load.proofs.Bounds.{bounded}
use Rattle.ndjson_load.proofs.reach.stands_before.Goals as goal

pub returns : goal.returns
returns c =
    let rest = c.args.rest.now in
    let key = c.args.key.now in
    let end = c.args.end.now in
    let front : c.split_at.result.0.now ≡ take (length key) rest = c.split_at.ensures.front ∙ ap (λ (n : ℕ). take n rest) c.min.ensures ∙ take_min (length key) rest in
    let back : c.split_at.result.1.now ≡ drop (length key) rest = c.split_at.ensures.back ∙ ap (λ (n : ℕ). drop n rest) c.min.ensures ∙ drop_min (length key) rest in
    let first = c.cmp.ensures ∙ ap (λ (xs : List ℕ). slice_cmp nat_cmp xs key) front in
    let second = c.cmp-2.ensures ∙ ap (λ (xs : List ℕ). slice_cmp nat_cmp xs end) back in
    let both = c.then.ensures ∙ ap (λ (o : Ordering). ordering_then o c.cmp-2.result) first ∙ ap (ordering_then (slice_cmp nat_cmp (take (length key) rest) key)) second in
    c.is_lt.ensures ∙ ap is_lt (both ∙ sym (bounded key end rest))
