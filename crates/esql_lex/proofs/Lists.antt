-- Lists, with nothing of tokens.
use Rattle.std.proofs.Common.{◌≡◌, ◌⊎◌, inl, inr, ℕ, suc, ◌+◌, ◌-◌, ◌*◌, ◌<◌, ◌≤◌, Bool, true, false, ◌&&◌, cond, List, [], ◌∷◌, ◌++◌, take, drop, get_or, length, Option, Some, refl, sym, ap, ◌∙◌, arith}
use Rattle.std.specs.Prelude.{find, fold}
use Rattle.std.specs.List.{list_all, prefix_len}
use Rattle.std.proofs.lemmas.Bool.{false≢true}
use Rattle.std.proofs.lemmas.List.{drop_more, take-append-drop}
use Rattle.std.proofs.lemmas.List.Sums.{fold-append, fold_more}
use Rattle.esql_lex.specs.Forms.{value_of}

-- a search goes past an element that fails
pub find_more : {X : Type 0} (p : X → Bool) (xs : List X) (i : ℕ) (d : X) (found : Option X) → i < length xs → p (get_or xs i d) ≡ false
    → find p (drop i xs) ≡ found → find p (drop (i + 1) xs) ≡ found
find_more p xs i d found l fails e =
    sym (ap (λ b. cond b (Some (get_or xs i d)) (find p (drop (i + 1) xs))) fails) ∙ sym (ap (find p) (drop_more xs i d l)) ∙ e

-- both sides of a test hold
pub both_true : (a b : Bool) → (a && b) ≡ true → (a ≡ true) × (b ≡ true)
both_true true b e = (refl, e)
both_true false b e = absurd (false≢true e)

-- a longer front takes what stands first
pub take_longer : (n : ℕ) (x : ℕ) (xs : List ℕ) → take (1 + n) (x ∷ xs) ≡ x ∷ take n xs
take_longer n x xs = let k : 1 + n ≡ suc n = omega arith in ap (λ m. take m (x ∷ xs)) k

pub drop_longer : (n : ℕ) (x : ℕ) (xs : List ℕ) → drop (1 + n) (x ∷ xs) ≡ drop n xs
drop_longer n x xs = let k : 1 + n ≡ suc n = omega arith in ap (λ m. drop m (x ∷ xs)) k

run_passes_at : (p : ℕ → Bool) (x : ℕ) (xs : List ℕ) (b : Bool) → p x ≡ b → list_all p (take (prefix_len p xs) xs) ≡ true
    → list_all p (take (cond b (1 + prefix_len p xs) 0) (x ∷ xs)) ≡ true
run_passes_at p x xs true e ih = rw (take_longer (prefix_len p xs) x xs) (rw e ih)
run_passes_at p x xs false e ih = refl

-- each character of a run passes
pub run_passes : (p : ℕ → Bool) (xs : List ℕ) → list_all p (take (prefix_len p xs) xs) ≡ true
run_passes p [] = refl
run_passes p (x ∷ xs) = run_passes_at p x xs (p x) refl (run_passes p xs)

run_stops_at : (p : ℕ → Bool) (x : ℕ) (xs tail : List ℕ) (m : ℕ) (b : Bool) → p x ≡ b
    → (drop (prefix_len p xs) xs ≡ m ∷ tail → p m ≡ false)
    → drop (cond b (1 + prefix_len p xs) 0) (x ∷ xs) ≡ m ∷ tail → p m ≡ false
run_stops_at p x xs tail m true e ih cut = ih (sym (drop_longer (prefix_len p xs) x xs) ∙ cut)
run_stops_at p x xs tail m false e ih cut = let same : x ≡ m = cc in sym (ap p same) ∙ e

-- the character after a run fails
pub run_stops : (p : ℕ → Bool) (xs tail : List ℕ) (m : ℕ) → drop (prefix_len p xs) xs ≡ m ∷ tail → p m ≡ false
run_stops p [] tail m cut = cc
run_stops p (x ∷ xs) tail m cut = run_stops_at p x xs tail m (p x) refl (run_stops p xs tail m) cut

-- of two fronts of one list, one is a front of the other
pub fronts : (xs ys a b : List ℕ) → xs ++ a ≡ ys ++ b
    → ((more : List ℕ) × (ys ≡ xs ++ more) × (a ≡ more ++ b)) ⊎ ((more : List ℕ) × (xs ≡ ys ++ more) × (b ≡ more ++ a))
fronts [] ys a b e = inl (ys, refl, e)
fronts (x ∷ xs) [] a b e = inr (x ∷ xs, refl, sym e)
fronts (x ∷ xs) (y ∷ ys) a b e =
    let head : x ≡ y = cc in
    let tail : xs ++ a ≡ ys ++ b = cc in
    elim (fronts xs ys a b tail) [
      | inl s ↦ inl (s.0, (let f : y ∷ ys ≡ x ∷ (xs ++ s.0) = cc in f), s.2)
      | inr s ↦ inr (s.0, (let f : x ∷ xs ≡ y ∷ (ys ++ s.0) = cc in f), s.2)
    ]

-- one digit more writes no smaller number
grows : (digits : List ℕ) (value : ℕ) → value ≤ fold (λ v c. v * 10 + (c - 48)) value digits
grows [] value = omega arith
grows (c ∷ cs) value =
    let more : value * 10 + (c - 48) ≤ fold (λ v d. v * 10 + (d - 48)) (value * 10 + (c - 48)) cs = grows cs (value * 10 + (c - 48)) in
    omega (arith, more)

-- a number is no smaller than the one that its first digits write
pub value_past : (digits : List ℕ) (i d value bound : ℕ) → i < length digits → value ≡ value_of (take i digits)
    → bound ≤ value * 10 + (get_or digits i d - 48) → bound ≤ value_of digits
value_past digits i d value bound l v h =
    let next : value_of (take (i + 1) digits) ≡ value_of (take i digits) * 10 + (get_or digits i d - 48) = fold_more (λ v c. v * 10 + (c - 48)) 0 digits i d l in
    let whole : value_of digits ≡ fold (λ v c. v * 10 + (c - 48)) (value_of (take (i + 1) digits)) (drop (i + 1) digits) =
    sym (ap value_of (take-append-drop (i + 1) digits)) ∙ fold-append (λ v c. v * 10 + (c - 48)) 0 (take (i + 1) digits) (drop (i + 1) digits) in
    let least : value_of (take (i + 1) digits) ≤ fold (λ v c. v * 10 + (c - 48)) (value_of (take (i + 1) digits)) (drop (i + 1) digits) =
    grows (drop (i + 1) digits) (value_of (take (i + 1) digits)) in
    omega (arith, next, whole, least, h, v)

-- a run at the front is no longer than the longest
run_bound_at : (p : ℕ → Bool) (b : Bool) (q : Bool) (k n : ℕ) → (b && q) ≡ true → (q ≡ true → k ≤ n) → 1 + k ≤ cond b (1 + n) 0
run_bound_at p true q k n e h = let l : k ≤ n = h e in omega (arith, l)
run_bound_at p false q k n e h = absurd (false≢true e)

pub run_bound : (p : ℕ → Bool) (ys tail : List ℕ) → list_all p ys ≡ true → length ys ≤ prefix_len p (ys ++ tail)
run_bound p [] tail e = omega arith
run_bound p (y ∷ ys) tail e =
    let l : 1 + length ys ≤ prefix_len p (y ∷ (ys ++ tail)) = run_bound_at p (p y) (list_all p ys) (length ys) (prefix_len p (ys ++ tail)) e (run_bound p ys tail) in
    omega (arith, l)
