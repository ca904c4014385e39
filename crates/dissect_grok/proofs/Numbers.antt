-- What `parse` reads, beside the numbers that decimal digits spell.
use Rattle.std.proofs.Common.{◌≡◌, ◌≢◌, ℕ, ◌≤◌, ◌&&◌, Bool, true, false, cond, nat_lt, nat_le, List, length, Result, Ok, Err, Option, Some, None, Decides, refl, ap, sym, arith, get_or}
use Rattle.std.specs.Result.{OkIff, result_ok}
use Rattle.std.specs.Str.{all_ascii_digits}
use Rattle.std.specs.Str.Parse.{ParsesUnsigned, digits_value}
use Rattle.std.proofs.Math.Dec.{leb}
use Rattle.std.proofs.lemmas.Bool.{false≢true, le-leb, leb-true}
use Rattle.std.proofs.lemmas.Bool.Decides.{Decides-and, Decides-ltb}
use Rattle.std.proofs.lemmas.Str.Parse.{IsNumeralModel, numerals_by_value, not_in_digits, parse_plain, tells_all_ascii_digits}
use Rattle.dissect_grok.specs.Patterns.{number_of}

numerals : IsNumeralModel (λ ds. all_ascii_digits ds ≡ true) (digits_value 10)
numerals = numerals_by_value (λ ds. all_ascii_digits ds ≡ true) tells_all_ascii_digits

Decides-leb : (a b : ℕ) → Decides (leb a b) (a ≤ b)
Decides-leb a b = (leb-true a b, le-leb a b)

-- a value exactly where a test passes
result_ok-test : {E : Type 0} {P : Type 0} {A : Type 0} (r : Result A E) (v : A) (test : Bool) → OkIff r P v → Decides test P → result_ok r ≡ cond test (Some v) None
result_ok-test (Ok x) v true h d = ap Some h.1
result_ok-test (Ok x) v false h d = absurd (false≢true (d.1 h.0))
result_ok-test (Err e) v true h d = absurd (h (d.0 refl))
result_ok-test (Err e) v false h d = refl

-- a text without a plus is read as the number that it spells
pub parsed : {E : Type 0} (text : List ℕ) (r : Result ℕ E) → ParsesUnsigned 32 10 text r → get_or text 0 0 ≢ 43 → result_ok r ≡ number_of text
parsed {E} text r parses unsigned =
    let v = digits_value 10 text in
    let is_number = nat_lt 0 (length text) && all_ascii_digits text in
    let both = Decides-and is_number (nat_le v 4294967295)
    (Decides-and (nat_lt 0 (length text)) (all_ascii_digits text) (Decides-ltb 0 (length text)) (λ e. e, λ e. e))
    (Decides-leb v 4294967295) in
    result_ok-test r v (is_number && nat_le v 4294967295) (parse_plain numerals 32 text r parses unsigned)
    (λ e. let facts = both.0 e in (facts.0.1, facts.0.0, omega (arith, facts.1)), λ facts. both.1 ((facts.1, facts.0), omega (arith, facts.2)))

-- a text with a plus spells no number
pub plus_is_none : (text : List ℕ) → get_or text 0 0 ≡ 43 → None ≡ number_of text
plus_is_none text plus = go (nat_lt 0 (length text)) (all_ascii_digits text) refl refl
  where
    go : (some digits : Bool) → some ≡ nat_lt 0 (length text) → digits ≡ all_ascii_digits text
        → None ≡ cond ((some && digits) && nat_le (digits_value 10 text) 4294967295) (Some (digits_value 10 text)) None
    go false digits e d = refl
    go true false e d = refl
    go true true e d = absurd (not_in_digits numerals text 43 (sym d) (λ within. let h = within.1 in omega arith) 0 ((Decides-ltb 0 (length text)).0 (sym e)) plus)
