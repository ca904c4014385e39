-- As many bytes begin a character as there are characters.
use Rattle.std.proofs.Common.{◌≡◌, ℕ, ◌+◌, ◌*◌, ◌/◌, ◌%◌, ◌<◌, ◌≤◌, ◌⊎◌, Bool, true, false, cond, ltb, leb, ◌||◌, List, [], ◌∷◌, ◌++◌, length, count_by, sym, ap, ◌∙◌, arith, refl, lit<}
use Rattle.std.specs.List.{sum_by}
use Rattle.std.specs.Str.{IsUtf8, chars, encode_utf8_all}
use Rattle.std.proofs.Math.Utf8.{encode}
use Rattle.std.proofs.Math.Nat.{mod-lt}
use Rattle.std.proofs.lemmas.Bool.{le-leb, le-ltb, lt-leb, lt-ltb, ltb-true}
use Rattle.std.proofs.lemmas.List.Sums.{sum_by-append, sum_by-cons}
use Rattle.std.proofs.lemmas.Str.{encodes-chars}
use Rattle.plain_functions.specs.Bytes.{begins_character}

-- 1 for a byte that begins a character
abbrev start : ℕ → ℕ
start byte = cond (begins_character byte) 1 0

goes_on : (byte : ℕ) → 128 ≤ byte → byte < 192 → start byte ≡ 0
goes_on byte low high = ap (λ test. cond test 1 0) (let no_start : begins_character byte ≡ false = ap (λ test. test || leb 192 byte) (le-ltb byte 128 low) ∙ lt-leb 192 byte high in no_start)

leads : (byte : ℕ) → 192 ≤ byte → start byte ≡ 1
leads byte high = ap (λ test. cond test 1 0) (let begins : begins_character byte ≡ true = ap (λ test. test || leb 192 byte) (le-ltb byte 128 (omega arith)) ∙ le-leb 192 byte high in begins)

alone : (byte : ℕ) → byte < 128 → start byte ≡ 1
alone byte low = ap (λ test. cond test 1 0) (ap (λ test. test || leb 192 byte) (lt-ltb byte 128 low))

leading : (byte : ℕ) (rest : List ℕ) → start byte ≡ 1 → sum_by start rest ≡ 0 → sum_by start (byte ∷ rest) ≡ 1
leading byte rest one none = omega (arith, sum_by-cons start byte rest)

following : (bits : ℕ) (rest : List ℕ) → sum_by start rest ≡ 0 → sum_by start ((128 + bits % 64) ∷ rest) ≡ 0
following bits rest none = omega (arith, sum_by-cons start (128 + bits % 64) rest, goes_on (128 + bits % 64) (omega arith) (let small = mod-lt bits {m = 64} (lit< tt) in omega arith))

one_start : (character : ℕ) → sum_by start (encode character) ≡ 1
unfolding encode
one_start character = cases (ltb character 128) (ltb character 2048) (ltb character 65536) refl where
  cases : (one two three : Bool) → ltb character 128 ≡ one →
      sum_by start (cond one (character ∷ []) (cond two ((192 + character / 64) ∷ (128 + character % 64) ∷ [])
      (cond three ((224 + character / 4096) ∷ (128 + (character / 64) % 64) ∷ (128 + character % 64) ∷ [])
      ((240 + character / 262144) ∷ (128 + (character / 4096) % 64) ∷ (128 + (character / 64) % 64) ∷ (128 + character % 64) ∷ [])))) ≡ 1
  cases true two three e = leading character [] (alone character (ltb-true character 128 e)) refl
  cases false true three e = leading (192 + character / 64) ((128 + character % 64) ∷ []) (leads (192 + character / 64) (omega arith)) (following character [] refl)
  cases false false true e =
      leading (224 + character / 4096) ((128 + (character / 64) % 64) ∷ (128 + character % 64) ∷ []) (leads (224 + character / 4096) (omega arith))
      (following (character / 64) ((128 + character % 64) ∷ []) (following character [] refl))
  cases false false false e =
      leading (240 + character / 262144) ((128 + (character / 4096) % 64) ∷ (128 + (character / 64) % 64) ∷ (128 + character % 64) ∷ []) (leads (240 + character / 262144) (omega arith))
      (following (character / 4096) ((128 + (character / 64) % 64) ∷ (128 + character % 64) ∷ []) (following (character / 64) ((128 + character % 64) ∷ []) (following character [] refl)))

many_starts : (characters : List ℕ) → sum_by start (encode_utf8_all characters) ≡ length characters
many_starts [] = refl
many_starts (first ∷ rest) =
    let more = many_starts rest in
    let one = one_start first in
    let both = sum_by-append start (encode first) (encode_utf8_all rest) in
    omega arith

pub starts : (text : List ℕ) → IsUtf8 text → count_by begins_character text ≡ length (chars text)
starts text utf8 = ap (count_by begins_character) (sym (encodes-chars text utf8)) ∙ many_starts (chars text)
