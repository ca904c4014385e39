-- What `parse` reads, beside the numbers that texts spell.
use Rattle.std.proofs.Common.{◌≡◌, ◌≢◌, ◌∙◌, ℕ, ◌≤◌, ◌&&◌, Bool, true, false, cond, nat_lt, nat_le, List, length, Result, Ok, Err, Option, Some, None, Decides, option_and_then, refl, ap, sym, arith, get_or}
use Rattle.std.specs.Result.{OkIff, result_ok}
use Rattle.std.specs.Str.{all_ascii_digits}
use Rattle.std.specs.Str.Parse.{ParsesUnsigned, digits_value}
use Rattle.std.proofs.Math.Dec.{leb, leb-zero}
use Rattle.std.proofs.lemmas.Bool.{false≢true, le-leb, leb-true, leb-false, lt-leb}
use Rattle.std.proofs.lemmas.Bool.Decides.{Decides-and, Decides-ltb}
use Rattle.std.proofs.lemmas.Str.Parse.{IsNumeralModel, numerals_by_value, not_in_digits, parse_plain, tells_all_ascii_digits}
use Rattle.esql_words.specs.Values.{if_within, number_within}

numerals : IsNumeralModel (λ ds. all_ascii_digits ds ≡ true) (digits_value 10)
numerals = numerals_by_value (λ ds. all_ascii_digits ds ≡ true) tells_all_ascii_digits

Decides-leb : (a b : ℕ) → Decides (leb a b) (a ≤ b)
Decides-leb a b = (leb-true a b, le-leb a b)

-- a value exactly where a test passes
result_ok-test : {E : Type 0} {P : Type 0} {A : Type 0} (r : Result A E) (v : A) (test : Bool) → OkIff r P v → Decides test P → result_ok r ≡ cond test (Some v) None
result_ok-test (Ok x) v true h d = ap Some h.1
result_ok-test (Ok x) v false h d = absurd (false≢true (d.1 h.0))
result_ok-test (Err e) v true h d = absurd (h (d.0 refl))
result_ok-test (Err e) v false h d = refl

within-test : (test : Bool) (least most n : ℕ) → option_and_then (if_within least most) (cond test (Some n) None)
    ≡ cond (test && (nat_le least n && nat_le n most)) (Some n) None
within-test true least most n = refl
within-test false least most n = refl

-- a text without a plus is read as the number that it spells
pub parsed : {E : Type 0} (text : List ℕ) (r : Result ℕ E) → ParsesUnsigned 64 10 text r → get_or text 0 0 ≢ 43 → result_ok r ≡ number_within 0 18446744073709551615 text
parsed {E} text r parses unsigned =
    let v = digits_value 10 text in
    let is_number = nat_lt 0 (length text) && all_ascii_digits text in
    let both = Decides-and is_number (nat_le 0 v && nat_le v 18446744073709551615)
    (Decides-and (nat_lt 0 (length text)) (all_ascii_digits text) (Decides-ltb 0 (length text)) (λ e. e, λ e. e))
    (Decides-and (nat_le 0 v) (nat_le v 18446744073709551615) (Decides-leb 0 v) (Decides-leb v 18446744073709551615)) in
    result_ok-test r v (is_number && (nat_le 0 v && nat_le v 18446744073709551615)) (parse_plain numerals 64 text r parses unsigned)
    (λ e. let facts = both.0 e in (facts.0.1, facts.0.0, omega (arith, facts.1.1)), λ facts. both.1 ((facts.1, facts.0), (omega arith, omega (arith, facts.2))))
    ∙ sym (within-test is_number 0 18446744073709551615 v)

-- a text with a plus spells no number
pub plus_is_none : (text : List ℕ) → get_or text 0 0 ≡ 43 → None ≡ number_within 0 18446744073709551615 text
plus_is_none text plus = go (nat_lt 0 (length text)) (all_ascii_digits text) refl refl
  where
    go : (some digits : Bool) → some ≡ nat_lt 0 (length text) → digits ≡ all_ascii_digits text
        → None ≡ option_and_then (if_within 0 18446744073709551615) (cond (some && digits) (Some (digits_value 10 text)) None)
    go false digits e d = refl
    go true false e d = refl
    go true true e d = absurd (not_in_digits numerals text 43 (sym d) (λ within. let h = within.1 in omega arith) 0 ((Decides-ltb 0 (length text)).0 (sym e)) plus)

-- the same within narrower bounds
pub narrowed : (least most : ℕ) → most ≤ 18446744073709551615 → (o : Option ℕ)
    → option_and_then (if_within least most) (option_and_then (if_within 0 18446744073709551615) o) ≡ option_and_then (if_within least most) o
narrowed least most small None = refl
narrowed least most small (Some n) = go (leb 0 n) (leb n 18446744073709551615) refl refl
  where
    none : (low high : Bool) → high ≡ false → None ≡ cond (low && high) (Some n) None
    none true high e = ap (λ (h : Bool). cond h (Some n) None) (sym e)
    none false high e = refl

    go : (low high : Bool) → low ≡ leb 0 n → high ≡ leb n 18446744073709551615
        → option_and_then (if_within least most) (cond (low && high) (Some n) None) ≡ if_within least most n
    go false high e f = absurd (false≢true (e ∙ leb-zero n))
    go true true e f = refl
    go true false e f = none (leb least n) (leb n most) (lt-leb n most (let wide = leb-false n 18446744073709551615 (sym f) in omega arith))
