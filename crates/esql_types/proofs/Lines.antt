-- Counting lines and columns one character at a time.
use Rattle.std.proofs.Common.{◌≡◌, ℕ, ◌+◌, ◌-◌, ◌≤◌, Bool, not, cond, eqb, List, [], ◌∷◌, ◌++◌, length, take, count_by, map, refl, ap, ◌∙◌, sym, arith}
use Rattle.std.specs.List.{suffix_len, prefix_len, slice_range}
use Rattle.std.proofs.lemmas.List.{reverse-append}
use Rattle.std.proofs.lemmas.List.Sums.{sum_by_push}
use Rattle.std.proofs.lemmas.Str.{encodes-chars, length-le-encodes}
use Rattle.std.specs.Str.{chars, IsUtf8}

pub count_by_push : (p : ℕ → Bool) (xs : List ℕ) (x : ℕ) → count_by p (xs ++ x ∷ []) ≡ count_by p xs + cond (p x) 1 0
count_by_push p xs x = sum_by_push (λ y. cond (p y) 1 0) xs x

pub suffix_len_push : (p : ℕ → Bool) (xs : List ℕ) (x : ℕ) → suffix_len p (xs ++ x ∷ []) ≡ cond (p x) (1 + suffix_len p xs) 0
suffix_len_push p xs x = ap (prefix_len p) (reverse-append xs (x ∷ []))

-- the counts after one more character
pub counted_more : (xs : List ℕ) (x : ℕ)
    → (count_by (λ c. eqb c 10) (xs ++ x ∷ []) ≡ count_by (λ c. eqb c 10) xs + cond (eqb x 10) 1 0)
    × (suffix_len (λ c. not (eqb c 10)) (xs ++ x ∷ []) ≡ cond (not (eqb x 10)) (1 + suffix_len (λ c. not (eqb c 10)) xs) 0)
counted_more xs x = (count_by_push (λ c. eqb c 10) xs x, suffix_len_push (λ c. not (eqb c 10)) xs x)

-- a text has at most as many characters as bytes
pub length-chars-le : (text : List ℕ) → IsUtf8 text → length (chars text) ≤ length text
length-chars-le text utf8 = omega (arith, length-le-encodes (chars text), ap length (encodes-chars text utf8))

pub map-same : (xs : List ℕ) → map (λ x. x) xs ≡ xs
map-same [] = refl
map-same (x ∷ xs) = ap (λ ys. x ∷ ys) (map-same xs)

-- the characters that a walk over the first bytes of a text yielded
pub yielded_front : (text front xs : List ℕ) (at : ℕ) → front ≡ slice_range text 0 at → map (λ x. x) xs ≡ chars front → xs ≡ chars (take at text)
yielded_front text front xs at cut all =
    let from_start : at - 0 ≡ at = omega arith in
    sym (map-same xs) ∙ all ∙ ap chars (cut ∙ ap (λ n. take n text) from_start)
