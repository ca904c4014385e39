-- The pieces that SPLIT gives are those between the occurrences of the delimiter, and no others are.
use Rattle.std.proofs.Common.{◌≡◌, ℕ, zero, suc, ◌+◌, ◌-◌, ◌<◌, ◌≤◌, Bool, true, false, if◌then◌else◌, nat_eq, List, [], ◌∷◌, ◌++◌, length, drop, sym, ap, subst, ◌∙◌, arith, refl, length-append, length-drop}
use Rattle.std.specs.List.{starts_with}
use Rattle.std.specs.Str.Pattern.{LacksTextAt}
use Rattle.std.proofs.Math.Seq.{drop-nil}
use Rattle.std.proofs.lemmas.Bool.Decides.{Decides-eqb}
use Rattle.std.proofs.lemmas.Slice.Eq.{starts_is}
use Rattle.function_rules.specs.Cuts.{ArePieces, IsCut, Lacks}
use Rattle.function_rules.specs.Texts.{joined, pieces_behind, split_of, with_first}

-- whether a delimiter stands at the start of a text
abbrev stands : List ℕ → List ℕ → Bool
stands delimiter text = starts_with nat_eq text delimiter

stands_front : (delimiter text : List ℕ) → stands delimiter text ≡ true → text ≡ delimiter ++ drop (length delimiter) text
stands_front delimiter text = (starts_is Decides-eqb text delimiter _ refl).0

front_stands : (delimiter rest : List ℕ) → stands delimiter (delimiter ++ rest) ≡ true
front_stands delimiter rest = (starts_is Decides-eqb (delimiter ++ rest) delimiter _ refl).1 rest refl

false_from : (test : Bool) → (test ≡ true → ⊥) → test ≡ false
false_from true h = absurd (h refl)
false_from false h = refl

lacks_not : (delimiter text : List ℕ) → LacksTextAt delimiter text 0 → stands delimiter text ≡ false
lacks_not delimiter text lacks = false_from _ (λ e. lacks (drop (length delimiter) text) (stands_front delimiter text e))

not_lacks : (delimiter text : List ℕ) → stands delimiter text ≡ false → LacksTextAt delimiter text 0
not_lacks delimiter text missing = λ rest e. let present : stands delimiter text ≡ true = ap (stands delimiter) e ∙ front_stands delimiter rest in cc

-- a step of SPLIT
here : (delimiter : List ℕ) (byte : ℕ) (bytes : List ℕ) → stands delimiter (byte ∷ bytes) ≡ true →
    pieces_behind delimiter 0 (byte ∷ bytes) ≡ [] ∷ pieces_behind delimiter (length delimiter - 1) bytes
here delimiter byte bytes present =
    ap (λ test. if test then [] ∷ pieces_behind delimiter (length delimiter - 1) bytes else with_first byte (pieces_behind delimiter 0 bytes)) present

not_here : (delimiter : List ℕ) (byte : ℕ) (bytes : List ℕ) → stands delimiter (byte ∷ bytes) ≡ false →
    pieces_behind delimiter 0 (byte ∷ bytes) ≡ with_first byte (pieces_behind delimiter 0 bytes)
not_here delimiter byte bytes missing =
    ap (λ test. if test then [] ∷ pieces_behind delimiter (length delimiter - 1) bytes else with_first byte (pieces_behind delimiter 0 bytes)) missing

passed : (delimiter front back : List ℕ) (skip : ℕ) → skip ≡ length front → pieces_behind delimiter skip (front ++ back) ≡ pieces_behind delimiter 0 back
passed delimiter [] back zero e = refl
passed delimiter [] back (suc skip) e = absurd (omega arith)
passed delimiter (byte ∷ front) back zero e = absurd (omega arith)
passed delimiter (byte ∷ front) back (suc skip) e = passed delimiter front back skip (omega arith)

delimited : (delimiter back : List ℕ) → 0 < length delimiter → pieces_behind delimiter 0 (delimiter ++ back) ≡ [] ∷ pieces_behind delimiter 0 back
delimited [] back some = absurd (omega arith)
delimited (byte ∷ bytes) back some =
    here (byte ∷ bytes) byte (bytes ++ back) (front_stands (byte ∷ bytes) back)
    ∙ ap (λ pieces. [] ∷ pieces) (passed (byte ∷ bytes) bytes back (length (byte ∷ bytes) - 1) (omega arith))

cut_off : (delimiter front back : List ℕ) → 0 < length delimiter → ((i : ℕ) → i < length front → LacksTextAt delimiter (front ++ (delimiter ++ back)) i) →
    pieces_behind delimiter 0 (front ++ (delimiter ++ back)) ≡ front ∷ pieces_behind delimiter 0 back
cut_off delimiter [] back some lacks = delimited delimiter back some
cut_off delimiter (byte ∷ front) back some lacks =
    not_here delimiter byte (front ++ (delimiter ++ back)) (lacks_not delimiter _ (lacks 0 (omega arith)))
    ∙ ap (with_first byte) (cut_off delimiter front back some (λ i below. lacks (suc i) (omega arith)))

uncut : (delimiter text : List ℕ) → Lacks delimiter text → pieces_behind delimiter 0 text ≡ text ∷ []
uncut delimiter [] lacks = refl
uncut delimiter (byte ∷ bytes) lacks =
    not_here delimiter byte bytes (lacks_not delimiter _ (lacks 0 (omega arith)))
    ∙ ap (with_first byte) (uncut delimiter bytes (λ i within. lacks (suc i) (omega arith)))

pub only_pieces : (text delimiter : List ℕ) (pieces : List (List ℕ)) → 0 < length delimiter → ArePieces delimiter text pieces → pieces ≡ split_of text delimiter
only_pieces text delimiter [] some cut = absurd cut
only_pieces text delimiter (last ∷ []) some cut = ap (λ piece. piece ∷ []) cut.0 ∙ sym (uncut delimiter text cut.1)
only_pieces text delimiter (front ∷ next ∷ rest) some (back, cut, more) =
    let lacks = subst (λ whole. (i : ℕ) → i < length front → LacksTextAt delimiter whole i) cut.0 cut.1 in
    ap (λ pieces. front ∷ pieces) (only_pieces back delimiter (next ∷ rest) some more)
    ∙ sym (ap (pieces_behind delimiter 0) cut.0 ∙ cut_off delimiter front back some lacks)

-- the other way round
pub one_more : (delimiter text front back : List ℕ) (tail : List (List ℕ)) → IsCut delimiter text front back → ArePieces delimiter back tail →
    ArePieces delimiter text (front ∷ tail)
one_more delimiter text front back [] cut pieces = absurd pieces
one_more delimiter text front back (next ∷ rest) cut pieces = (back, cut, pieces)

lacks_nil : (delimiter : List ℕ) → 0 < length delimiter → Lacks delimiter []
lacks_nil delimiter some = λ i within rest e.
    let count : length (drop i (let none : List ℕ = [] in none)) ≡ length delimiter + length rest = ap length e ∙ length-append delimiter rest in
    let none = length-drop i (let none : List ℕ = [] in none) in
    omega arith

lacks_later : (delimiter : List ℕ) (byte : ℕ) (bytes : List ℕ) (many : ℕ) → stands delimiter (byte ∷ bytes) ≡ false →
    ((i : ℕ) → i < many → LacksTextAt delimiter bytes i) → (i : ℕ) → i < suc many → LacksTextAt delimiter (byte ∷ bytes) i
lacks_later delimiter byte bytes many missing lacks zero within = not_lacks delimiter (byte ∷ bytes) missing
lacks_later delimiter byte bytes many missing lacks (suc i) within = lacks i (omega arith)

longer : (delimiter : List ℕ) (byte : ℕ) (bytes : List ℕ) (pieces : List (List ℕ)) → stands delimiter (byte ∷ bytes) ≡ false →
    ArePieces delimiter bytes pieces → ArePieces delimiter (byte ∷ bytes) (with_first byte pieces)
longer delimiter byte bytes [] missing cut = absurd cut
longer delimiter byte bytes (last ∷ []) missing cut = (
  ap (λ tail. byte ∷ tail) cut.0,
  λ i within. lacks_later delimiter byte bytes (suc (length bytes)) missing (λ j below. cut.1 j (omega arith)) i (omega arith),
)
longer delimiter byte bytes (front ∷ next ∷ rest) missing (back, cut, more) =
    (back, (ap (λ tail. byte ∷ tail) cut.0, λ i below. lacks_later delimiter byte bytes (length front) missing cut.1 i (omega arith)), more)

dropped : (byte : ℕ) (bytes : List ℕ) (many : ℕ) → 0 < many → drop many (byte ∷ bytes) ≡ drop (many - 1) bytes
dropped byte bytes zero some = absurd (omega arith)
dropped byte bytes (suc many) some = ap (λ n. drop n bytes) (omega arith)

step : (delimiter : List ℕ) (byte : ℕ) (bytes : List ℕ) → 0 < length delimiter → ((skip : ℕ) → ArePieces delimiter (drop skip bytes) (pieces_behind delimiter skip bytes)) →
    (test : Bool) → stands delimiter (byte ∷ bytes) ≡ test → ArePieces delimiter (byte ∷ bytes) (pieces_behind delimiter 0 (byte ∷ bytes))
step delimiter byte bytes some more true present =
    let back = drop (length delimiter - 1) bytes in
    let whole : byte ∷ bytes ≡ delimiter ++ back = stands_front delimiter (byte ∷ bytes) present ∙ ap (λ rest. delimiter ++ rest) (dropped byte bytes (length delimiter) some) in
    let cut = one_more delimiter (byte ∷ bytes) [] back (pieces_behind delimiter (length delimiter - 1) bytes) (whole, λ i below. absurd (omega arith)) (more (length delimiter - 1)) in
    subst (ArePieces delimiter (byte ∷ bytes)) (sym (here delimiter byte bytes present)) cut
step delimiter byte bytes some more false missing =
    subst (ArePieces delimiter (byte ∷ bytes)) (sym (not_here delimiter byte bytes missing)) (longer delimiter byte bytes _ missing (more 0))

behind : (delimiter text : List ℕ) (skip : ℕ) → 0 < length delimiter → ArePieces delimiter (drop skip text) (pieces_behind delimiter skip text)
behind delimiter [] skip some = subst (λ text. ArePieces delimiter text ([] ∷ [])) (sym (drop-nil skip)) (refl, lacks_nil delimiter some)
behind delimiter (byte ∷ bytes) (suc skip) some = behind delimiter bytes skip some
behind delimiter (byte ∷ bytes) zero some = step delimiter byte bytes some (λ skip. behind delimiter bytes skip some) _ refl

pub are_pieces : (text delimiter : List ℕ) → 0 < length delimiter → ArePieces delimiter text (split_of text delimiter)
are_pieces text delimiter some = behind delimiter text 0 some

rejoined : (delimiter text : List ℕ) (pieces : List (List ℕ)) → ArePieces delimiter text pieces → joined delimiter pieces ≡ text
rejoined delimiter text [] cut = absurd cut
rejoined delimiter text (last ∷ []) cut = cut.0
rejoined delimiter text (front ∷ next ∷ rest) (back, cut, more) =
    ap (λ tail. front ++ (delimiter ++ tail)) (rejoined delimiter back (next ∷ rest) more) ∙ sym cut.0

pub joined_pieces : (text delimiter : List ℕ) → 0 < length delimiter → joined delimiter (split_of text delimiter) ≡ text
joined_pieces text delimiter some = rejoined delimiter text _ (are_pieces text delimiter some)

-- SPLIT, a piece at a time
pub split_cut : (text delimiter front back : List ℕ) → 0 < length delimiter → IsCut delimiter text front back → split_of text delimiter ≡ front ∷ split_of back delimiter
split_cut text delimiter front back some cut =
    sym (only_pieces text delimiter _ some (one_more delimiter text front back _ cut (are_pieces back delimiter some)))

pub split_uncut : (text delimiter : List ℕ) → Lacks delimiter text → split_of text delimiter ≡ text ∷ []
split_uncut text delimiter lacks = uncut delimiter text lacks
