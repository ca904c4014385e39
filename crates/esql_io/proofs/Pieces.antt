-- What a sink took, one piece after another.
use Rattle.std.proofs.Common.{◌≡◌, ℕ, ◌+◌, List, ◌++◌, take, drop, Option, Some, None, refl, ap, sym, ◌∙◌, append_assoc}
use Rattle.std.proofs.Math.Seq.{take-add}
use Rattle.esql_io.specs.Sinks.{with_more}

-- with one list after another, the sink has both joined
pub with_more-append : (taken : Option (List ℕ)) (xs ys : List ℕ) → with_more (with_more taken xs) ys ≡ with_more taken (xs ++ ys)
with_more-append None xs ys = refl
with_more-append (Some before) xs ys = ap Some (append_assoc before xs ys)

-- one more piece of the bytes
pub took_more : (taken old new : Option (List ℕ)) (bytes back : List ℕ) (written count : ℕ)
    → back ≡ drop written bytes → old ≡ with_more taken (take written bytes) → new ≡ with_more old (take count back)
    → new ≡ with_more taken (take (written + count) bytes)
took_more taken old new bytes back written count cut before step =
    step ∙ ap (λ t. with_more t (take count back)) before ∙ with_more-append taken (take written bytes) (take count back)
    ∙ ap (with_more taken) (ap (λ b. take written bytes ++ take count b) cut ∙ sym (take-add written count bytes))
