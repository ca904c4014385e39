-- Numbers below a width, of the items so far and of the next one.
use Rattle.std.proofs.Common.{ℕ, ◌+◌, ◌<◌, ◌≤◌, List, [], ◌∷◌, ◌++◌, length, get_or, take, All, sym, subst, arith}
use Rattle.std.proofs.lemmas.List.{take_more}
use Rattle.std.proofs.lemmas.List.Elements.{All-nil, All-cons, All-append, All-weaker}

pub width_turn : {Item : Type 0} (number : Item → ℕ) (items : List Item) (place : ℕ) (other : Item) (old new : ℕ)
    → All (λ one. number one < old) (take place items) → place < length items → old ≤ new → number (get_or items place other) < new
    → All (λ one. number one < new) (take (place + 1) items)
width_turn number items place other old new so_far within more here =
    let item = get_or items place other in
    subst (All (λ one. number one < new)) (sym (take_more items place other within))
    (All-append (λ one. number one < new) (take place items) (item ∷ [])
    (All-weaker (λ one. number one < old) (λ one. number one < new) (λ one below. omega (arith, below, more)) (take place items) so_far)
    (All-cons (λ one. number one < new) item [] here (All-nil (λ one. number one < new))))
