-- SUBSTRING, LEFT and RIGHT give parts of the text.
use Rattle.std.proofs.Common.{◌≡◌, ℕ, zero, suc, ◌-◌, ℤ, pos, negsuc, Ok, List, [], ◌++◌, length, take, drop, sym, ap, ◌∙◌, refl}
use Rattle.std.specs.Str.{IsUtf8, chars, encode_utf8_all}
use Rattle.std.proofs.lemmas.List.{append-nil, take-append-drop}
use Rattle.std.proofs.lemmas.Str.{encodes-append, encodes-chars}
use Rattle.function_rules.specs.Texts.{before_start, chars_from, left_of, right_of, substring_from, substring_of}

halves : (characters : List ℕ) (count : ℕ) → encode_utf8_all (take count characters) ++ encode_utf8_all (drop count characters) ≡ encode_utf8_all characters
halves characters count = sym (encodes-append (take count characters) (drop count characters)) ∙ ap encode_utf8_all (take-append-drop count characters)

parts : (text : List ℕ) (count : ℕ) → IsUtf8 text → encode_utf8_all (take count (chars text)) ++ encode_utf8_all (drop count (chars text)) ≡ text
parts text count utf8 = halves (chars text) count ∙ encodes-chars text utf8

pub left_front : (text : List ℕ) → IsUtf8 text → (count : ℤ) → (back : List ℕ) × (left_of text count ++ back ≡ text)
left_front text utf8 (pos count) = (encode_utf8_all (drop count (chars text)), parts text count utf8)
left_front text utf8 (negsuc below) = (text, refl)

pub right_back : (text : List ℕ) → IsUtf8 text → (count : ℤ) → (front : List ℕ) × (front ++ right_of text count ≡ text)
right_back text utf8 (pos count) =
    let before = length (chars text) - count in
    (encode_utf8_all (take before (chars text)), parts text before utf8)
right_back text utf8 (negsuc below) = (text, append-nil text)

pub substring_back : (text : List ℕ) → IsUtf8 text → (start : ℤ) → (front : List ℕ) × (front ++ substring_from text start ≡ text)
substring_back text utf8 start =
    let before = before_start start (length (chars text)) in
    (encode_utf8_all (take before (chars text)), parts text before utf8)

pub substring_part : (text : List ℕ) → IsUtf8 text → (start count : ℤ) (part : List ℕ) → substring_of text start count ≡ Ok part →
    (front : List ℕ) × (back : List ℕ) × (front ++ (part ++ back) ≡ text)
substring_part text utf8 start (pos count) part given =
    let before = before_start start (length (chars text)) in
    let rest = chars_from text start in
    let front = encode_utf8_all (take before (chars text)) in
    let back = encode_utf8_all (drop count rest) in
    let same : part ≡ encode_utf8_all (take count rest) = cc in
    (front, back, ap (λ middle. front ++ (middle ++ back)) same ∙ ap (λ tail. front ++ tail) (halves rest count) ∙ parts text before utf8)
substring_part text utf8 start (negsuc below) part given = absurd (cc)
