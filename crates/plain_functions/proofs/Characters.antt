-- Characters at the ends of a text, and how many begin in it.
use Rattle.std.proofs.Common.{◌≡◌, ℕ, zero, suc, ℤ, pos, Ok, ◌+◌, ◌-◌, ◌<◌, ◌≤◌, List, [], ◌∷◌, ◌++◌, length, take, drop, sym, ap, subst, ◌∙◌, arith, refl, length-append}
use Rattle.std.specs.Str.{IsCharBoundary, IsUtf8, chars, encode_utf8_all}
use Rattle.std.proofs.Math.Utf8.{encode}
use Rattle.std.proofs.Math.Seq.{drop-append_seam, take-append_seam}
use Rattle.std.proofs.lemmas.List.{append-nil, drop-drop, length-drop, take-append-drop, take-take, take_all, drop_all, length-take-le}
use Rattle.std.proofs.lemmas.Str.{IsCharBoundary-at_seam, chars_from_encodes, IsCharBoundary-from_take, encodes-append, encodes-chars, encodes_same}
use Rattle.function_rules.specs.Texts.{chars_from, substring_from, substring_of}

pub empty : (text : List ℕ) → length text ≡ 0 → text ≡ []
empty [] e = refl
empty (byte ∷ bytes) e = absurd (omega arith)

-- one character more at the end
pub last_character : (text before : List ℕ) (last : ℕ) → IsUtf8 text → IsUtf8 before → text ≡ before ++ encode last → chars text ≡ chars before ++ last ∷ []
last_character text before last utf8 utf8_before split =
    let left : encode_utf8_all (chars text) ≡ before ++ encode last = encodes-chars text utf8 ∙ split in
    let one : encode_utf8_all (last ∷ []) ≡ encode last = append-nil (encode last) in
    let right : encode_utf8_all (chars before ++ last ∷ []) ≡ before ++ encode last =
    encodes-append (chars before) (last ∷ []) ∙ ap (λ front. front ++ encode_utf8_all (last ∷ [])) (encodes-chars before utf8_before) ∙ ap (λ back. before ++ back) one in
    encodes_same (chars text) (chars before ++ last ∷ []) (left ∙ sym right)

-- steps of a walk over characters
pub drop_more : (all rest : List ℕ) (first count : ℕ) → first ∷ rest ≡ drop count all → rest ≡ drop (count + 1) all
drop_more all rest first count e = ap (drop 1) e ∙ drop-drop 1 count all

pub take_fewer : (all rest : List ℕ) (last count : ℕ) → rest ++ last ∷ [] ≡ take (length all - count) all → rest ≡ take (length all - (count + 1)) all
take_fewer all rest last count e =
    let long : length rest + 1 ≡ length (take (length all - count) all) = sym (length-append rest (last ∷ [])) ∙ ap length e in
    let many = length-take-le (length all - count) all (omega arith) in
    let kept : rest ≡ take (length rest) (rest ++ last ∷ []) = sym (take-append_seam rest (last ∷ [])) in
    kept ∙ ap (take (length rest)) e ∙ take-take (length rest) (length all - count) all (omega arith) ∙ ap (λ n. take n all) (omega arith)

pub drop_none : (all : List ℕ) (count more : ℕ) → count ≤ more → [] ≡ drop count all → [] ≡ drop more all
drop_none all count more within e =
    let none : length (drop count all) ≡ 0 = ap length (sym e) in
    let long = length-drop count all in
    sym (drop_all more all (omega arith))

pub take_none : (all : List ℕ) (count more : ℕ) → count ≤ more → [] ≡ take (length all - count) all → [] ≡ take (length all - more) all
take_none all count more within e =
    let none : length (take (length all - count) all) ≡ 0 = ap length (sym e) in
    let many = length-take-le (length all - count) all (omega arith) in
    ap (λ n. take n all) (let z : 0 ≡ length all - more = omega arith in z)

-- a text in two halves
pub front_and_behind : (text behind : List ℕ) (count : ℕ) → IsUtf8 text → IsUtf8 behind → chars behind ≡ drop count (chars text) →
    text ≡ encode_utf8_all (take count (chars text)) ++ behind
front_and_behind text behind count utf8 utf8_behind e =
    let front = encode_utf8_all (take count (chars text)) in
    sym (encodes-chars text utf8) ∙ ap encode_utf8_all (sym (take-append-drop count (chars text))) ∙ encodes-append (take count (chars text)) (drop count (chars text))
    ∙ ap (λ back. front ++ encode_utf8_all back) (sym e) ∙ ap (λ back. front ++ back) (encodes-chars behind utf8_behind)

pub before_and_back : (text before : List ℕ) (count : ℕ) → IsUtf8 text → IsUtf8 before → chars before ≡ take count (chars text) →
    text ≡ before ++ encode_utf8_all (drop count (chars text))
before_and_back text before count utf8 utf8_before e =
    let back = encode_utf8_all (drop count (chars text)) in
    sym (encodes-chars text utf8) ∙ ap encode_utf8_all (sym (take-append-drop count (chars text))) ∙ encodes-append (take count (chars text)) (drop count (chars text))
    ∙ ap (λ front. encode_utf8_all front ++ back) (sym e) ∙ ap (λ front. front ++ back) (encodes-chars before utf8_before)

pub cut_front : (text front back : List ℕ) (place : ℕ) → text ≡ front ++ back → place + length back ≡ length text → take place text ≡ front
cut_front text front back place e fits =
    let long : length text ≡ length front + length back = ap length e ∙ length-append front back in
    ap (λ n. take n text) (let z : place ≡ length front = omega arith in z) ∙ ap (take (length front)) e ∙ take-append_seam front back

pub cut_back : (text front back : List ℕ) → text ≡ front ++ back → drop (length front) text ≡ back
cut_back text front back e = ap (drop (length front)) e ∙ drop-append_seam front back

pub front_boundary : (text front back : List ℕ) (place : ℕ) → text ≡ front ++ back → IsUtf8 back → place + length back ≡ length text → IsCharBoundary text place
front_boundary text front back place e utf8 fits =
    let long : length text ≡ length front + length back = ap length e ∙ length-append front back in
    subst (IsCharBoundary text) (let z : length front ≡ place = omega arith in z) (IsCharBoundary-at_seam text front back e utf8)

pub back_boundary : (text front back : List ℕ) → text ≡ front ++ back → IsUtf8 text → IsUtf8 front → IsCharBoundary text (length front)
back_boundary text front back e utf8 utf8_front =
    let long : length text ≡ length front + length back = ap length e ∙ length-append front back in
    let same : take (length front) text ≡ front = ap (take (length front)) e ∙ take-append_seam front back in
    IsCharBoundary-from_take text (length front) utf8 (omega arith) (subst IsUtf8 (sym same) utf8_front)

-- SUBSTRING by what is behind a place, and by its first characters
at_place : (text behind : List ℕ) (place before : ℕ) → before ≡ place - 1 → IsUtf8 behind → chars behind ≡ drop before (chars text) → behind ≡ substring_from text (pos place)
at_place text behind zero before same utf8 e =
    sym (encodes-chars behind utf8) ∙ ap encode_utf8_all (e ∙ ap (λ n. drop n (chars text)) (let none : before ≡ 0 = omega arith in none))
at_place text behind (suc place) before same utf8 e =
    sym (encodes-chars behind utf8) ∙ ap encode_utf8_all (e ∙ ap (λ n. drop n (chars text)) (let less : before ≡ place = omega arith in less))

pub from_place : (text behind : List ℕ) (start : ℤ) (place before : ℕ) → start ≡ pos place → before ≡ place - 1 → IsUtf8 behind → chars behind ≡ drop before (chars text) →
    behind ≡ substring_from text start
from_place text behind start place before given same utf8 e =
    subst (λ z. behind ≡ substring_from text z) (sym given) (at_place text behind place before same utf8 e)

pub so_many_from : (text rest part : List ℕ) (start count : ℤ) (many : ℕ) → count ≡ pos many → IsUtf8 rest → rest ≡ substring_from text start →
    part ≡ encode_utf8_all (take many (chars rest)) → substring_of text start count ≡ Ok part
so_many_from text rest part start count many given utf8 from e =
    let same : chars_from text start ≡ chars rest = chars_from_encodes (chars_from text start) rest utf8 (sym from) in
    let P = λ (z : ℤ). substring_of text start z ≡ Ok part in
    subst P (sym given) (ap (λ characters. Ok (encode_utf8_all (take many characters))) same ∙ ap Ok (sym e))
