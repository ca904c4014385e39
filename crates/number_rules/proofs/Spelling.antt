-- What `parse` reads as an integer and as a long, beside the definitions.
use Rattle.std.proofs.Common.{◌≡◌, ℕ, ◌^◌, ℤ, pos, negsuc, Bool, true, false, cond, ltb, List, length, Result, Ok, Err, Some, None, Decides, refl, ap}
use Rattle.std.specs.Prelude.{FitsSigned}
use Rattle.std.specs.Int.{w32, w64}
use Rattle.std.specs.Result.{OkIff, result_ok}
use Rattle.std.specs.Str.{all_ascii_digits}
use Rattle.std.specs.Str.Parse.{IsNumeral, ParsesSigned, without_leading_sign, signed_digits_value, digits_value}
use Rattle.std.proofs.lemmas.Bool.{false≢true}
use Rattle.std.proofs.lemmas.Bool.Decides.{Decides-and, Decides-ltb}
use Rattle.std.proofs.lemmas.Str.Parse.{IsNumeralModel, numerals_by_value, tells_all_ascii_digits}
use Rattle.number_rules.specs.Ranges.{fits_integer, fits_long}
use Rattle.number_rules.specs.Spelled.{is_spelled, spelled_integer, spelled_long}

fits_integer-Decides : (z : ℤ) → Decides (fits_integer z) (FitsSigned w32 z)
fits_integer-Decides (pos n) = (λ e. record { sfits = (Decides-ltb n (2 ^ 31)).0 e }, λ f. (Decides-ltb n (2 ^ 31)).1 f.sfits)
fits_integer-Decides (negsuc n) = (λ e. record { sfits = (Decides-ltb n (2 ^ 31)).0 e }, λ f. (Decides-ltb n (2 ^ 31)).1 f.sfits)

fits_long-Decides : (z : ℤ) → Decides (fits_long z) (FitsSigned w64 z)
fits_long-Decides (pos n) = (λ e. record { sfits = (Decides-ltb n (2 ^ 63)).0 e }, λ f. (Decides-ltb n (2 ^ 63)).1 f.sfits)
fits_long-Decides (negsuc n) = (λ e. record { sfits = (Decides-ltb n (2 ^ 63)).0 e }, λ f. (Decides-ltb n (2 ^ 63)).1 f.sfits)

numerals : IsNumeralModel (λ ds. all_ascii_digits ds ≡ true) (digits_value 10)
numerals = numerals_by_value (λ ds. all_ascii_digits ds ≡ true) tells_all_ascii_digits

is_spelled-Decides : (text : List ℕ) → Decides (is_spelled text) (IsNumeral 10 (without_leading_sign text))
is_spelled-Decides text =
    let ds = without_leading_sign text in
    Decides-and (ltb 0 (length ds)) (all_ascii_digits ds) (Decides-ltb 0 (length ds)) (numerals.to ds, numerals.from ds)

-- a value exactly where a test passes
result_ok-test : {E : Type 0} {P : Type 0} {A : Type 0} (r : Result A E) (v : A) (test : Bool) → OkIff r P v → Decides test P → result_ok r ≡ cond test (Some v) None
result_ok-test (Ok x) v true h d = ap Some h.1
result_ok-test (Ok x) v false h d = absurd (false≢true (d.1 h.0))
result_ok-test (Err e) v true h d = absurd (h (d.0 refl))
result_ok-test (Err e) v false h d = refl

pub spelled_long-parse : {E : Type 0} (text : List ℕ) (r : Result ℤ E) → ParsesSigned w64 10 text r → result_ok r ≡ spelled_long text
spelled_long-parse text r parses =
    result_ok-test r (signed_digits_value 10 text) _ parses (Decides-and _ _ (is_spelled-Decides text) (fits_long-Decides (signed_digits_value 10 text)))

pub spelled_integer-parse : {E : Type 0} (text : List ℕ) (r : Result ℤ E) → ParsesSigned w32 10 text r → result_ok r ≡ spelled_integer text
spelled_integer-parse text r parses =
    result_ok-test r (signed_digits_value 10 text) _ parses (Decides-and _ _ (is_spelled-Decides text) (fits_integer-Decides (signed_digits_value 10 text)))
