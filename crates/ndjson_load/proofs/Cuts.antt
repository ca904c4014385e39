-- The first line of bytes, and the lines after it.
use Rattle.std.proofs.Common.{◌≡◌, ℕ, suc, ◌+◌, ◌<◌, ◌≤◌, Bool, true, false, not, cond, eqb, ltb, List, [], ◌∷◌, length, take, drop, length-drop, map, Some, None, refl, sym, ap, ◌∙◌, arith}
use Rattle.std.specs.Prelude.{position}
use Rattle.std.specs.List.{before_first, after_first, position_or_len}
use Rattle.std.proofs.lemmas.Bool.Decides.{nat_tests}
use Rattle.ndjson_load.specs.Rows.{ended_lines, onto_first, lines, without_return}

abbrev pub is_end : ℕ → Bool
is_end b = eqb b 10

some_of : (b : Bool) (n place : ℕ) → Some place ≡ cond b (Some n) None → (place ≡ n) × (b ≡ true)
some_of true n place is = (cc, refl)
some_of false n place is = absurd (cc)

none_of : (b : Bool) (n : ℕ) → None ≡ cond b (Some n) None → b ≡ false
none_of true n is = absurd (cc)
none_of false n is = refl

-- where a line ends
pub end_found : (bytes : List ℕ) (place : ℕ) → Some place ≡ position is_end bytes → (place ≡ position_or_len is_end bytes) × (place < length bytes)
end_found bytes place is =
    let found = some_of (ltb (position_or_len is_end bytes) (length bytes)) (position_or_len is_end bytes) place is in
    let same : place ≡ position_or_len is_end bytes = found.0 in
    let test : ltb (position_or_len is_end bytes) (length bytes) ≡ true = found.1 in
    (same, grind (arith, nat_tests))

pub end_not_found : (bytes : List ℕ) → None ≡ position is_end bytes → length bytes ≤ position_or_len is_end bytes
end_not_found bytes is =
    let test : ltb (position_or_len is_end bytes) (length bytes) ≡ false = none_of (ltb (position_or_len is_end bytes) (length bytes)) (position_or_len is_end bytes) is in
    grind (arith, nat_tests)

cut_here : (t : Bool) (b n : ℕ) (bytes : List ℕ) → onto_first b (ended_lines bytes) ≡ (b ∷ take n bytes) ∷ ended_lines (drop (n + 1) bytes)
    → cond t ([] ∷ ended_lines bytes) (onto_first b (ended_lines bytes)) ≡ take (cond (not t) (1 + n) 0) (b ∷ bytes) ∷ ended_lines (drop (cond (not t) (1 + n) 0 + 1) (b ∷ bytes))
cut_here true b n bytes later = refl
cut_here false b n bytes later =
    let one : 1 + n ≡ suc n = omega arith in
    let two : 1 + n + 1 ≡ suc (n + 1) = omega arith in
    later ∙ ap (λ k. take k (b ∷ bytes) ∷ ended_lines (drop (n + 1) bytes)) (sym one) ∙ ap (λ k. take (1 + n) (b ∷ bytes) ∷ ended_lines (drop k (b ∷ bytes))) (sym two)

-- bytes that are not empty are their first line, and the lines after its end
ended_lines-cut : (b : ℕ) (bytes : List ℕ) → ended_lines (b ∷ bytes) ≡ before_first is_end (b ∷ bytes) ∷ ended_lines (after_first is_end (b ∷ bytes))
ended_lines-cut b [] = cut_here (is_end b) b (position_or_len is_end []) [] refl
ended_lines-cut b (next ∷ bytes) = cut_here (is_end b) b (position_or_len is_end (next ∷ bytes)) (next ∷ bytes) (ap (onto_first b) (ended_lines-cut next bytes))

pub lines-cut : (bytes : List ℕ) → 0 < length bytes → lines bytes ≡ without_return (before_first is_end bytes) ∷ lines (after_first is_end bytes)
lines-cut [] some = absurd (omega arith)
lines-cut (b ∷ bytes) some = ap (map without_return) (ended_lines-cut b bytes)

-- what follows the end of a line is shorter
pub after_first-shorter : (bytes : List ℕ) → 0 < length bytes → length (after_first is_end bytes) + 1 ≤ length bytes
after_first-shorter bytes some = omega (arith, length-drop (position_or_len is_end bytes + 1) bytes)
