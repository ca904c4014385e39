-- A walk over the characters of a text in which a mark and the character after it stand for one.
use Rattle.std.proofs.Common.{◌≡◌, ◌≢◌, ℕ, lit≤, ltb, ◌+◌, ◌<◌, ◌≤◌, Bool, true, false, cond, List, [], ◌∷◌, ◌++◌, ◌-◌, take, drop, get_or, length, nat_lt, slice_index, refl, sym, ap, ◌∙◌, arith, append_assoc, length-drop}
use Rattle.std.specs.Prelude.{◌==◌}
use Rattle.std.specs.Io.BufRead.{ends_with_byte, strip_last}
use Rattle.std.specs.List.{flat_map, AllByRecursion}
use Rattle.std.proofs.Math.Utf8.{encode}
use Rattle.std.proofs.lemmas.Bool.{ne_eqb}
use Rattle.std.proofs.lemmas.Grind.{flat_map-append}
use Rattle.std.proofs.lemmas.List.{append-nil, drop_more, nil_from_length, take-append-drop}
use Rattle.std.proofs.lemmas.Str.{encode_ascii}
use Rattle.esql_lex.specs.Contents.{strip_first, meant, undone}
use Rattle.esql_lex.proofs.Lists.{both_true}

-- every byte is above those of ASCII
abbrev High : List ℕ → Type 0
High bytes = AllByRecursion (λ byte. 128 ≤ byte) bytes

-- and there is one
abbrev Wide : List ℕ → Type 0
Wide [] = ⊥
Wide (x ∷ xs) = (128 ≤ x) × High xs

above : (bits lead : ℕ) → 128 ≤ lead → 128 ≤ lead + bits
above bits lead wide = omega arith

wide_cond : (b : Bool) (xs ys : List ℕ) → Wide xs → Wide ys → Wide (cond b xs ys)
wide_cond true xs ys left right = left
wide_cond false xs ys left right = right

-- the bytes of a character beyond ASCII
wide_encode : (c : ℕ) → 128 ≤ c → Wide (encode c)
unfolding encode
wide_encode c high =
    wide_cond (ltb c 128) _ _ (high, tt)
    (wide_cond (ltb c 2048) _ _ (above _ 192 (lit≤ tt), (above _ 128 (lit≤ tt), tt))
    (wide_cond (ltb c 65536) _ _ (above _ 224 (lit≤ tt), (above _ 128 (lit≤ tt), (above _ 128 (lit≤ tt), tt)))
    (above _ 240 (lit≤ tt), (above _ 128 (lit≤ tt), (above _ 128 (lit≤ tt), (above _ 128 (lit≤ tt), tt))))))

-- a byte that is no mark stands for itself
pub undone-other : (mark x : ℕ) (xs : List ℕ) → x ≢ mark → undone mark (x ∷ xs) ≡ x ∷ undone mark xs
undone-other mark x [] other = refl
undone-other mark x (y ∷ xs) other = ap (λ b. cond b (meant mark y ∷ undone mark xs) (x ∷ undone mark (y ∷ xs))) (ne_eqb x mark other)

undone-high : (mark : ℕ) (xs rest : List ℕ) → mark < 128 → High xs → undone mark (xs ++ rest) ≡ xs ++ undone mark rest
undone-high mark [] rest ascii high = refl
undone-high mark (x ∷ xs) rest ascii high =
    let above : 128 ≤ x = high.0 in
    undone-other mark x (xs ++ rest) (λ same. omega arith) ∙ ap (λ ys. x ∷ ys) (undone-high mark xs rest ascii high.1)

undone-wide : (mark : ℕ) (xs rest : List ℕ) → mark < 128 → Wide xs → undone mark (xs ++ rest) ≡ xs ++ undone mark rest
undone-wide mark [] rest ascii wide = absurd wide
undone-wide mark (x ∷ xs) rest ascii wide = undone-high mark (x ∷ xs) rest ascii wide

-- only ASCII is escaped
meant-wide : (mark x : ℕ) → 128 ≤ x → meant mark x ≡ x
meant-wide mark x high = grind arith

meant-ascii : (mark x : ℕ) → x < 128 → meant mark x < 128
meant-ascii mark x low = grind arith

pub undone-pair : (mark x : ℕ) (rest : List ℕ) → undone mark (mark ∷ x ∷ rest) ≡ meant mark x ∷ undone mark rest
undone-pair mark x rest = grind arith

undone-mark_wide : (mark : ℕ) (xs rest : List ℕ) → mark < 128 → Wide xs → undone mark (mark ∷ (xs ++ rest)) ≡ xs ++ undone mark rest
undone-mark_wide mark [] rest ascii wide = absurd wide
undone-mark_wide mark (x ∷ xs) rest ascii wide =
    undone-pair mark x (xs ++ rest) ∙ ap (λ y. y ∷ undone mark (xs ++ rest)) (meant-wide mark x wide.0) ∙ ap (λ ys. x ∷ ys) (undone-high mark xs rest ascii wide.1)

-- the mark that is not undone yet
abbrev pub held : Bool → ℕ → List ℕ
held true mark = mark ∷ []
held false mark = []

-- whatever follows the characters so far, what is written and the mark that is held are what they come to
abbrev pub ComesTo : ℕ → List ℕ → Bool → List ℕ → Type 0
ComesTo mark characters marked written = (rest : List ℕ) → undone mark (flat_map encode characters ++ rest) ≡ written ++ undone mark (held marked mark ++ rest)

pub comes_to_nothing : (mark : ℕ) → ComesTo mark [] false []
comes_to_nothing mark rest = refl

-- one character more, where it comes to these bytes
comes_further : (mark c : ℕ) (characters written piece : List ℕ) (marked after : Bool) → ComesTo mark characters marked written
    → ((rest : List ℕ) → undone mark (held marked mark ++ (encode c ++ rest)) ≡ piece ++ undone mark (held after mark ++ rest))
    → ComesTo mark (characters ++ c ∷ []) after (written ++ piece)
comes_further mark c characters written piece marked after so_far step rest =
    let one : flat_map encode (c ∷ []) ≡ encode c = append-nil (encode c) in
    let front : flat_map encode (characters ++ c ∷ []) ++ rest ≡ flat_map encode characters ++ (encode c ++ rest) =
    ap (λ bytes. bytes ++ rest) (flat_map-append encode characters (c ∷ []) ∙ ap (λ bytes. flat_map encode characters ++ bytes) one) ∙ append_assoc (flat_map encode characters) (encode c) rest in
    ap (undone mark) front ∙ so_far (encode c ++ rest) ∙ ap (λ bytes. written ++ bytes) (step rest) ∙ sym (append_assoc written piece (undone mark (held after mark ++ rest)))

pair_step : (mark c : ℕ) (rest : List ℕ) (low : Bool) → ltb c 128 ≡ low → mark < 128 → undone mark (mark ∷ (encode c ++ rest)) ≡ encode (meant mark c) ++ undone mark rest
pair_step mark c rest true is ascii =
    let l : c < 128 = grind arith in
    ap (λ bytes. undone mark (mark ∷ (bytes ++ rest))) (encode_ascii c l) ∙ undone-pair mark c rest ∙ ap (λ bytes. bytes ++ undone mark rest) (sym (encode_ascii (meant mark c) (meant-ascii mark c l)))
pair_step mark c rest false is ascii =
    let h : 128 ≤ c = grind arith in
    undone-mark_wide mark (encode c) rest ascii (wide_encode c h) ∙ ap (λ x. encode x ++ undone mark rest) (sym (meant-wide mark c h))

pub comes_to_pair : (mark c : ℕ) (characters written : List ℕ) → mark < 128 → ComesTo mark characters true written
    → ComesTo mark (characters ++ c ∷ []) false (written ++ encode (meant mark c))
comes_to_pair mark c characters written ascii so_far = comes_further mark c characters written (encode (meant mark c)) true false so_far (λ rest. pair_step mark c rest _ refl ascii)

pub comes_to_mark : (mark c : ℕ) (characters written : List ℕ) → mark < 128 → c ≡ mark → ComesTo mark characters false written → ComesTo mark (characters ++ c ∷ []) true written
comes_to_mark mark c characters written ascii same so_far rest =
    let all : ComesTo mark (characters ++ c ∷ []) true (written ++ []) =
    comes_further mark c characters written [] false true so_far (λ tail. ap (λ bytes. undone mark (bytes ++ tail)) (ap encode same ∙ encode_ascii mark ascii)) in
    all rest ∙ ap (λ bytes. bytes ++ undone mark (mark ∷ rest)) (append-nil written)

other_step : (mark c : ℕ) (rest : List ℕ) (low : Bool) → ltb c 128 ≡ low → mark < 128 → c ≢ mark → undone mark (encode c ++ rest) ≡ encode c ++ undone mark rest
other_step mark c rest true is ascii other =
    let l : c < 128 = grind arith in
    ap (λ bytes. undone mark (bytes ++ rest)) (encode_ascii c l) ∙ undone-other mark c rest other ∙ ap (λ bytes. bytes ++ undone mark rest) (sym (encode_ascii c l))
other_step mark c rest false is ascii other = let h : 128 ≤ c = grind arith in undone-wide mark (encode c) rest ascii (wide_encode c h)

pub comes_to_other : (mark c : ℕ) (characters written : List ℕ) → mark < 128 → c ≢ mark → ComesTo mark characters false written
    → ComesTo mark (characters ++ c ∷ []) false (written ++ encode c)
comes_to_other mark c characters written ascii other so_far = comes_further mark c characters written (encode c) false false so_far (λ rest. other_step mark c rest _ refl ascii other)

-- at the end a mark that is held stands for itself
pub comes_to_all : (mark : ℕ) (characters text written : List ℕ) (marked : Bool) → flat_map encode characters ≡ text → ComesTo mark characters marked written → undone mark text ≡ written ++ held marked mark
comes_to_all mark characters text written true whole so_far =
    ap (undone mark) (sym whole ∙ sym (append-nil (flat_map encode characters))) ∙ so_far []
comes_to_all mark characters text written false whole so_far =
    ap (undone mark) (sym whole ∙ sym (append-nil (flat_map encode characters))) ∙ so_far []

-- a slice that does not begin with the quote is kept
pub strip_first-none : (quote : ℕ) (slice : List ℕ) → ((rest : List ℕ) → slice ≢ encode quote ++ rest) → quote < 128 → slice ≡ strip_first quote slice
strip_first-none quote [] none ascii = refl
strip_first-none quote (c ∷ cs) none ascii =
    let other : c ≢ quote = λ same. none cs (ap (λ x. x ∷ cs) same ∙ ap (λ bytes. bytes ++ cs) (sym (encode_ascii quote ascii))) in
    ap (λ b. cond b cs (c ∷ cs)) (sym (ne_eqb c quote other))

last_split : (slice : List ℕ) → 0 < length slice → slice ≡ take (length slice - 1) slice ++ get_or slice (length slice - 1) 0 ∷ []
last_split slice some =
    let one : drop (length slice - 1) slice ≡ get_or slice (length slice - 1) 0 ∷ drop (length slice - 1 + 1) slice = drop_more slice (length slice - 1) 0 (omega arith) in
    let none : drop (length slice - 1 + 1) slice ≡ [] = nil_from_length _ (omega (arith, length-drop (length slice - 1 + 1) slice)) in
    sym (take-append-drop (length slice - 1) slice) ∙ ap (λ bytes. take (length slice - 1) slice ++ bytes) (one ∙ ap (λ bytes. get_or slice (length slice - 1) 0 ∷ bytes) none)

kept_last : (quote : ℕ) (slice : List ℕ) (ends : Bool) → ends_with_byte quote slice ≡ ends → ((front : List ℕ) → slice ≢ front ++ quote ∷ []) → slice ≡ cond ends (take (length slice - 1) slice) slice
kept_last quote slice false is none = refl
kept_last quote slice true is none =
    let both = both_true (nat_lt 0 (length slice)) (slice_index slice (length slice - 1) == quote) is in
    let some : 0 < length slice = grind arith in
    let last : get_or slice (length slice - 1) 0 ≡ quote = grind arith in
    absurd (none (take (length slice - 1) slice) (last_split slice some ∙ ap (λ x. take (length slice - 1) slice ++ x ∷ []) last))

-- nor one that does not end with it
pub strip_last-none : (quote : ℕ) (slice : List ℕ) → ((front : List ℕ) → slice ≢ front ++ encode quote) → quote < 128 → slice ≡ strip_last quote slice
strip_last-none quote slice none ascii =
    kept_last quote slice (ends_with_byte quote slice) refl (λ front same. none front (same ∙ ap (λ bytes. front ++ bytes) (sym (encode_ascii quote ascii))))
