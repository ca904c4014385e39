-- The numbers from one on with one more behind them.
use Rattle.std.proofs.Common.{◌≡◌, ℕ, zero, suc, ◌+◌, [], ◌∷◌, ◌++◌, ap, ◌∙◌, arith}
use Rattle.std.specs.List.{range_with_len}

range_more : (from count : ℕ) → range_with_len from (count + 1) ≡ range_with_len from count ++ (from + count) ∷ []
range_more from zero = let none : from ≡ from + 0 = omega arith in ap (λ number. number ∷ []) none
range_more from (suc count) =
    let more : suc count + 1 ≡ suc (count + 1) = omega arith in
    let last : from + 1 + count ≡ from + suc count = omega arith in
    rw more (ap (λ numbers. from ∷ numbers) (range_more (from + 1) count ∙ ap (λ number. range_with_len (from + 1) count ++ number ∷ []) last))

pub range_push : (count : ℕ) → range_with_len 0 (count + 1) ≡ range_with_len 0 count ++ count ∷ []
range_push count = let same : 0 + count ≡ count = omega arith in range_more 0 count ∙ ap (λ number. range_with_len 0 count ++ number ∷ []) same
