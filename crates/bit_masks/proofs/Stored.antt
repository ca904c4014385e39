-- The step of a loop that stores lanes: what is before and past them stays.
use Rattle.std.proofs.Common.{◌≡◌, ℕ, ◌+◌, ◌-◌, ◌<◌, ◌≤◌, List, length, get_or, map, sym, ap, ◌∙◌, subst, ⊎_elim, arith}
use Rattle.std.proofs.lemmas.Bool.{cases_lt}
use Rattle.std.proofs.lemmas.List.{get_or-map, length-map}
use Rattle.std.proofs.lemmas.Simd.{get_or-put_chunk_below, get_or-put_chunk_at, get_or-put_chunk_above, get_or-chunk, length-chunk, length-zip2, get_or-zip2}
use lib.Lanes.{chunk, put_chunk, zip2}

module _ {X : Type 0} (xs ys : List X) (i n : ℕ) (d : X) (long : length ys ≡ n) (room : i + n ≤ length xs) where
  pub stored_at : (k : ℕ) → i ≤ k → k < i + n → get_or (put_chunk i xs ys) k d ≡ get_or ys (k - i) d
  stored_at k from below = subst (λ (m : ℕ). get_or (put_chunk i xs ys) m d ≡ get_or ys (k - i) d) (let e : i + (k - i) ≡ k = omega arith in e)
      (get_or-put_chunk_at i xs ys (k - i) d (omega arith) (omega arith))

chunk_at : {X : Type 0} (xs : List X) (i n k : ℕ) (d : X) → i ≤ k → k < i + n → get_or (chunk i n xs) (k - i) d ≡ get_or xs k d
chunk_at xs i n k d from below = get_or-chunk i n xs (k - i) d (omega arith) ∙ ap (λ (m : ℕ). get_or xs m d) (let e : i + (k - i) ≡ k = omega arith in e)

-- lanes of two lists, stored over the first
module _ (f : ℕ → ℕ → ℕ) (now right was : List ℕ) (i n : ℕ) (long : length now ≡ length was) (long_right : length was ≡ length right) (room : i + n ≤ length now)
    (done : (k : ℕ) → k < i → get_or now k 0 ≡ f (get_or was k 0) (get_or right k 0))
    (ahead : (k : ℕ) → i ≤ k → get_or now k 0 ≡ get_or was k 0) where
  long_lanes : length (zip2 f (chunk i n now) (chunk i n right)) ≡ n
  long_lanes =
      let left = length-chunk i n now room in
      let other = length-chunk i n right (omega arith) in
      length-zip2 f (chunk i n now) (chunk i n right) (left ∙ sym other) ∙ left

  pub zip_done : (k : ℕ) → k < i + n → get_or (put_chunk i now (zip2 f (chunk i n now) (chunk i n right))) k 0 ≡ f (get_or was k 0) (get_or right k 0)
  zip_done k below = ⊎_elim
      (λ (before : k < i). get_or-put_chunk_below i now _ k 0 before ∙ done k before)
      (λ (from : i ≤ k).
      let left = length-chunk i n now room in
      let other = length-chunk i n right (omega arith) in
      stored_at now (zip2 f (chunk i n now) (chunk i n right)) i n 0 long_lanes room k from below
      ∙ get_or-zip2 f (chunk i n now) (chunk i n right) (k - i) 0 0 0 (omega arith) (omega arith)
      ∙ ap (λ (x : ℕ). f x (get_or (chunk i n right) (k - i) 0)) (chunk_at now i n k 0 from below ∙ ahead k from)
      ∙ ap (f (get_or was k 0)) (chunk_at right i n k 0 from below))
      (cases_lt k i)

  pub zip_ahead : (k : ℕ) → i + n ≤ k → get_or (put_chunk i now (zip2 f (chunk i n now) (chunk i n right))) k 0 ≡ get_or was k 0
  zip_ahead k past = get_or-put_chunk_above i now (zip2 f (chunk i n now) (chunk i n right)) k 0 (let e = long_lanes in omega arith) ∙ ahead k (omega arith)

-- lanes of one list, stored over it
module _ (f : ℕ → ℕ) (now was : List ℕ) (i n : ℕ) (long : length now ≡ length was) (room : i + n ≤ length now)
    (done : (k : ℕ) → k < i → get_or now k 0 ≡ f (get_or was k 0))
    (ahead : (k : ℕ) → i ≤ k → get_or now k 0 ≡ get_or was k 0) where
  long_mapped : length (map f (chunk i n now)) ≡ n
  long_mapped = length-map (chunk i n now) f ∙ length-chunk i n now room

  pub map_done : (k : ℕ) → k < i + n → get_or (put_chunk i now (map f (chunk i n now))) k 0 ≡ f (get_or was k 0)
  map_done k below = ⊎_elim
      (λ (before : k < i). get_or-put_chunk_below i now _ k 0 before ∙ done k before)
      (λ (from : i ≤ k).
      let left = length-chunk i n now room in
      stored_at now (map f (chunk i n now)) i n 0 long_mapped room k from below
      ∙ get_or-map f (chunk i n now) (k - i) 0 0 (omega arith)
      ∙ ap f (chunk_at now i n k 0 from below ∙ ahead k from))
      (cases_lt k i)

  pub map_ahead : (k : ℕ) → i + n ≤ k → get_or (put_chunk i now (map f (chunk i n now))) k 0 ≡ get_or was k 0
  map_ahead k past = get_or-put_chunk_above i now (map f (chunk i n now)) k 0 (let e = long_mapped in omega arith) ∙ ahead k (omega arith)
