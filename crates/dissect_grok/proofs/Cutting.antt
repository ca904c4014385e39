-- What the searches of a text give.
use Rattle.std.proofs.Common.{◌≡◌, ◌≢◌, ℕ, zero, suc, ◌-◌, ◌<◌, ◌≤◌, Bool, true, false, if◌then◌else◌, nat_eq, List, [], ◌∷◌, ◌++◌, length, take, drop, Option, Some, None, sym, ap, subst, ◌∙◌, arith, refl}
use Rattle.std.specs.Option.{option_map, IfSome, MatchOption}
use Rattle.std.specs.List.{starts_with, ends_with}
use Rattle.std.specs.Str.Pattern.{LacksTextAt, FindsText, FindsTextPrefix, FindsTextSuffix, HasTextAt, SplitsAroundMatch, StripsPrefix, StripsSuffix, CutsPrefixes, IsFullyTrimmed, IsTrimStartMatches}
use denote.Ref.{Bor}
use Rattle.std.proofs.Math.Seq.{drop-append_seam}
use Rattle.std.proofs.lemmas.Bool.Decides.{Decides-eqb}
use Rattle.std.proofs.lemmas.List.{take-append-drop}
use Rattle.std.proofs.lemmas.Slice.Eq.{starts_is, ends_is}
use Rattle.dissect_grok.specs.Texts.{behind_front, before_back, cut_at, with_byte, with_nothing, behind_bytes, behind_copies}

-- whether a text begins with another, or ends with it
abbrev stands : List ℕ → List ℕ → Bool
stands front text = starts_with nat_eq text front

abbrev closes : List ℕ → List ℕ → Bool
closes back text = ends_with nat_eq text back

pub stands_front : (front text : List ℕ) → stands front text ≡ true → text ≡ front ++ drop (length front) text
stands_front front text = (starts_is Decides-eqb text front _ refl).0

pub front_stands : (front rest : List ℕ) → stands front (front ++ rest) ≡ true
front_stands front rest = (starts_is Decides-eqb (front ++ rest) front _ refl).1 rest refl

false_from : (test : Bool) → (test ≡ true → ⊥) → test ≡ false
false_from true h = absurd (h refl)
false_from false h = refl

lacks_not : (front text : List ℕ) → LacksTextAt front text 0 → stands front text ≡ false
lacks_not front text lacks = false_from _ (λ e. lacks (drop (length front) text) (stands_front front text e))

-- a front
pub behind_is : (front rest : List ℕ) → behind_front front (front ++ rest) ≡ Some rest
behind_is front rest =
    ap (λ (test : Bool). if test then Some (drop (length front) (front ++ rest)) else None) (front_stands front rest) ∙ ap Some (drop-append_seam front rest)

pub behind_some : (front text rest : List ℕ) → StripsPrefix (FindsTextPrefix front) text rest → behind_front front text ≡ Some rest
behind_some front text rest (n, found, is, long) =
    let same : rest ≡ drop (length front) text = is ∙ ap (λ m. drop m text) found.0 in
    let whole : text ≡ front ++ rest = found.1 ∙ ap (λ back. front ++ back) (sym is) in
    ap (behind_front front) whole ∙ behind_is front rest

pub behind_none : (front text : List ℕ) → LacksTextAt front text 0 → behind_front front text ≡ None
behind_none front text lacks = ap (λ (test : Bool). if test then Some (drop (length front) text) else None) (lacks_not front text lacks)

-- a back
pub before_some : (back text rest : List ℕ) → StripsSuffix (FindsTextSuffix back) text rest → before_back back text ≡ Some rest
before_some back text rest (n, found, is, long) =
    let present : closes back text ≡ true = (ends_is Decides-eqb text back _ refl).1 (take (length text - n) text) found.1 in
    ap (λ (test : Bool). if test then Some (take (length text - length back) text) else None) present
    ∙ ap (λ m. Some (take (length text - m) text)) (sym found.0) ∙ ap Some (sym is)

pub before_none : (back text : List ℕ) → FindsTextSuffix back text None → before_back back text ≡ None
before_none back text lacks =
    let missing : closes back text ≡ false = false_from _ (λ e. lacks (take (length text - length back) text) ((ends_is Decides-eqb text back _ refl).0 e)) in
    ap (λ (test : Bool). if test then Some (take (length text - length back) text) else None) missing

-- a first occurrence
cut_here : (delimiter text : List ℕ) → stands delimiter text ≡ true → cut_at delimiter text ≡ Some (with_nothing (drop (length delimiter) text))
cut_here delimiter [] present =
    ap (λ (test : Bool). option_map with_nothing (if test then Some (drop (length delimiter) []) else None)) present
cut_here delimiter (byte ∷ bytes) present =
    ap (λ (test : Bool). if test then Some (with_nothing (drop (length delimiter) (byte ∷ bytes))) else option_map (with_byte byte) (cut_at delimiter bytes)) present

not_here : (delimiter : List ℕ) (byte : ℕ) (bytes : List ℕ) → LacksTextAt delimiter (byte ∷ bytes) 0 →
    cut_at delimiter (byte ∷ bytes) ≡ option_map (with_byte byte) (cut_at delimiter bytes)
not_here delimiter byte bytes lacks =
    ap (λ (test : Bool). if test then Some (with_nothing (drop (length delimiter) (byte ∷ bytes))) else option_map (with_byte byte) (cut_at delimiter bytes))
    (lacks_not delimiter (byte ∷ bytes) lacks)

cut_first : (delimiter front back : List ℕ) → ((i : ℕ) → i < length front → LacksTextAt delimiter (front ++ (delimiter ++ back)) i) →
    cut_at delimiter (front ++ (delimiter ++ back)) ≡ Some (front, back)
cut_first delimiter [] back lacks =
    cut_here delimiter (delimiter ++ back) (front_stands delimiter back)
    ∙ ap (λ (rest : List ℕ). Some (with_nothing rest)) (drop-append_seam delimiter back)
cut_first delimiter (byte ∷ front) back lacks =
    not_here delimiter byte (front ++ (delimiter ++ back)) (lacks 0 (omega arith))
    ∙ ap (option_map (with_byte byte)) (cut_first delimiter front back (λ i below. lacks (suc i) (omega arith)))

pub cut_some : (delimiter text front back : List ℕ) → SplitsAroundMatch (FindsText delimiter) text front back → cut_at delimiter text ≡ Some (front, back)
cut_some delimiter text front back (i, j, found, front_is, back_is, ordered, front_long, back_long) =
    let whole : text ≡ front ++ (delimiter ++ back) =
    sym (take-append-drop i text) ∙ ap (λ rest. take i text ++ rest) found.1.split
    ∙ ap (λ part. part ++ (delimiter ++ drop j text)) (sym front_is) ∙ ap (λ part. front ++ (delimiter ++ part)) (sym back_is) in
    let lacks : (k : ℕ) → k < length front → LacksTextAt delimiter text k = λ k below. found.0 k (omega arith) in
    ap (cut_at delimiter) whole
    ∙ cut_first delimiter front back (subst (λ all. (k : ℕ) → k < length front → LacksTextAt delimiter all k) whole lacks)

pub cut_none : (delimiter text : List ℕ) → FindsText delimiter text None → cut_at delimiter text ≡ None
cut_none delimiter [] lacks = ap (option_map with_nothing) (behind_none delimiter [] (lacks 0 (omega arith)))
cut_none delimiter (byte ∷ bytes) lacks =
    not_here delimiter byte bytes (lacks 0 (omega arith))
    ∙ ap (option_map (with_byte byte)) (cut_none delimiter bytes (λ i within. lacks (suc i) (omega arith)))

-- copies at the front
pass : (delimiter front back : List ℕ) (skip : ℕ) → skip ≡ length front → behind_bytes delimiter skip (front ++ back) ≡ behind_bytes delimiter 0 back
pass delimiter [] back zero e = refl
pass delimiter [] back (suc skip) e = absurd (omega arith)
pass delimiter (byte ∷ front) back zero e = absurd (omega arith)
pass delimiter (byte ∷ front) back (suc skip) e = pass delimiter front back skip (omega arith)

pub one_copy : (delimiter back : List ℕ) → 0 < length delimiter → behind_copies delimiter (delimiter ++ back) ≡ behind_copies delimiter back
one_copy [] back some = absurd (omega arith)
one_copy (byte ∷ bytes) back some =
    ap (λ (test : Bool). if test then behind_bytes (byte ∷ bytes) (length (byte ∷ bytes) - 1) (bytes ++ back) else byte ∷ (bytes ++ back)) (front_stands (byte ∷ bytes) back)
    ∙ pass (byte ∷ bytes) bytes back (length (byte ∷ bytes) - 1) (omega arith)

no_copy : (delimiter text : List ℕ) → LacksTextAt delimiter text 0 → behind_copies delimiter text ≡ text
no_copy delimiter [] lacks = refl
no_copy delimiter (byte ∷ bytes) lacks =
    ap (λ (test : Bool). if test then behind_bytes delimiter (length delimiter - 1) bytes else byte ∷ bytes) (lacks_not delimiter (byte ∷ bytes) lacks)

all_copies : (delimiter text rest : List ℕ) (lengths : List ℕ) → 0 < length delimiter → CutsPrefixes (FindsTextPrefix delimiter) text lengths rest →
    behind_copies delimiter text ≡ behind_copies delimiter rest
all_copies delimiter text rest [] some cut = ap (behind_copies delimiter) (sym cut)
all_copies delimiter text rest (n ∷ lengths) some (middle, cut, found, is) =
    all_copies delimiter text middle lengths some cut
    ∙ ap (behind_copies delimiter) (found.1 ∙ ap (λ back. delimiter ++ back) (sym is)) ∙ one_copy delimiter rest some

pub copies_passed : (delimiter text rest : List ℕ) → 0 < length delimiter → IsTrimStartMatches (FindsTextPrefix delimiter) text rest → rest ≡ behind_copies delimiter text
copies_passed delimiter text rest some (cut, (None, found, none)) = sym (all_copies delimiter text rest cut.0 some cut.1 ∙ no_copy delimiter rest found)
copies_passed delimiter text rest some (cut, (Some n, found, none)) = absurd (omega arith)

-- a text that was cut is its parts with the delimiter between them
whole_here : (delimiter text : List ℕ) (parts : List ℕ × List ℕ) → stands delimiter text ≡ true → parts ≡ with_nothing (drop (length delimiter) text) →
    text ≡ parts.0 ++ (delimiter ++ parts.1)
whole_here delimiter text parts present same = stands_front delimiter text present ∙ sym (ap (λ (p : List ℕ × List ℕ). p.0 ++ (delimiter ++ p.1)) same)

whole_nil : (delimiter : List ℕ) (parts : List ℕ × List ℕ) (test : Bool) → stands delimiter [] ≡ test →
    option_map with_nothing (if test then Some (drop (length delimiter) []) else None) ≡ Some parts →
    [] ≡ parts.0 ++ (delimiter ++ parts.1)
whole_nil delimiter parts true present e = whole_here delimiter [] parts present (let same : parts ≡ with_nothing (drop (length delimiter) []) = cc in same)
whole_nil delimiter parts false missing e = absurd (cc)

whole_cons : (delimiter : List ℕ) (byte : ℕ) (bytes : List ℕ) (parts : List ℕ × List ℕ) (inner : Option (List ℕ × List ℕ)) →
    ((p : List ℕ × List ℕ) → inner ≡ Some p → bytes ≡ p.0 ++ (delimiter ++ p.1)) → (test : Bool) → stands delimiter (byte ∷ bytes) ≡ test →
    (if test then Some (with_nothing (drop (length delimiter) (byte ∷ bytes))) else option_map (with_byte byte) inner) ≡ Some parts →
    byte ∷ bytes ≡ parts.0 ++ (delimiter ++ parts.1)
whole_cons delimiter byte bytes parts inner more true present e =
    whole_here delimiter (byte ∷ bytes) parts present (let same : parts ≡ with_nothing (drop (length delimiter) (byte ∷ bytes)) = cc in same)
whole_cons delimiter byte bytes parts None more false missing e = absurd (cc)
whole_cons delimiter byte bytes parts (Some p) more false missing e =
    let same : parts ≡ with_byte byte p = cc in
    ap (λ rest. byte ∷ rest) (more p refl) ∙ sym (ap (λ (q : List ℕ × List ℕ). q.0 ++ (delimiter ++ q.1)) same)

pub cut_whole : (delimiter text : List ℕ) (parts : List ℕ × List ℕ) → cut_at delimiter text ≡ Some parts → text ≡ parts.0 ++ (delimiter ++ parts.1)
cut_whole delimiter [] parts e = whole_nil delimiter parts _ refl e
cut_whole delimiter (byte ∷ bytes) parts e = whole_cons delimiter byte bytes parts (cut_at delimiter bytes) (λ p same. cut_whole delimiter bytes p same) _ refl e

-- what the searches of `str` answer
pub front_found : (front text : List ℕ) (answer : Option (Bor (List ℕ))) →
    MatchOption answer (FindsTextPrefix front text None) (λ rest. StripsPrefix (FindsTextPrefix front) text rest.now) →
    MatchOption answer (behind_front front text ≡ None) (λ rest. behind_front front text ≡ Some rest.now)
front_found front text None found = behind_none front text found
front_found front text (Some rest) found = behind_some front text rest.now found

pub back_found : (back text : List ℕ) (answer : Option (Bor (List ℕ))) →
    MatchOption answer (FindsTextSuffix back text None) (λ rest. StripsSuffix (FindsTextSuffix back) text rest.now) →
    MatchOption answer (before_back back text ≡ None) (λ rest. before_back back text ≡ Some rest.now)
back_found back text None found = before_none back text found
back_found back text (Some rest) found = before_some back text rest.now found

pub cut_found : (delimiter text : List ℕ) (answer : Option (Bor (List ℕ) × Bor (List ℕ))) →
    MatchOption answer (FindsText delimiter text None) (λ parts. SplitsAroundMatch (FindsText delimiter) text parts.0.now parts.1.now) →
    MatchOption answer (cut_at delimiter text ≡ None) (λ parts. cut_at delimiter text ≡ Some (parts.0.now, parts.1.now))
cut_found delimiter text None found = cut_none delimiter text found
cut_found delimiter text (Some parts) found = cut_some delimiter text parts.0.now parts.1.now found
