-- A pattern of GROK, one reference after another.
use Rattle.std.proofs.Common.{◌≡◌, ℕ, zero, suc, ◌+◌, ◌<◌, ◌≤◌, Bool, true, false, List, [], ◌∷◌, ◌++◌, length, Option, Some, None, sym, ap, subst, ◌∙◌, arith, refl, add-one, if◌then◌else◌}
use Rattle.std.specs.Option.{option_map, option_and_then}
use Rattle.std.specs.Prelude.{codes}
use Rattle.dissect_grok.specs.Groks.{GrokRead, read_behind, read_from, read_reference, read_within, reference_of, with_literal, with_reference}
use Rattle.dissect_grok.specs.Texts.{cut_at}
use Rattle.dissect_grok.proofs.KeyRuns.{behind_shorter}

abbrev Reads : Type 0
Reads = GrokRead → List ℕ → Option GrokRead

-- how many references are read at most is of no matter
same_next : (some more : Reads) (rest : List ℕ) (read : Option GrokRead) → ((next : GrokRead) → some next rest ≡ more next rest) →
    option_and_then (λ next. some next rest) read ≡ option_and_then (λ next. more next rest) read
same_next some more rest None same = refl
same_next some more rest (Some next) same = same next

same_reference : (some more : Reads) (read : GrokRead) (cut : Option (List ℕ × List ℕ)) →
    ((parts : List ℕ × List ℕ) (next : GrokRead) → cut ≡ Some parts → some next parts.1 ≡ more next parts.1) → read_reference some read cut ≡ read_reference more read cut
same_reference some more read None same = refl
same_reference some more read (Some (text, rest)) same = same_next some more rest (with_reference read (reference_of text)) (λ next. same (text, rest) next refl)

same_behind : (some more : Reads) (read : GrokRead) (text : List ℕ) (cut : Option (List ℕ × List ℕ)) →
    ((parts behind : List ℕ × List ℕ) (next : GrokRead) → cut ≡ Some parts → cut_at (codes "}") parts.1 ≡ Some behind → some next behind.1 ≡ more next behind.1) →
    read_behind some read text cut ≡ read_behind more read text cut
same_behind some more read text None same = refl
same_behind some more read text (Some (literal, behind)) same =
    same_reference some more (with_literal read literal) (cut_at (codes "}") behind) (λ parts next is. same (literal, behind) parts next refl is)

pub rest_shorter : (text : List ℕ) (parts behind : List ℕ × List ℕ) → cut_at (codes "%{") text ≡ Some parts → cut_at (codes "}") parts.1 ≡ Some behind → length behind.1 < length text
rest_shorter text parts behind is ends =
    let first = behind_shorter (codes "%{") text parts is in
    let last = behind_shorter (codes "}") parts.1 behind ends in
    let two : length (codes "%{") ≡ 2 = refl in
    omega arith

same_within : (some more : ℕ) (read : GrokRead) (text : List ℕ) → length text < some → length text < more → read_within some read text ≡ read_within more read text
same_within zero more read text few many = absurd (omega arith)
same_within (suc some) zero read text few many = absurd (omega arith)
same_within (suc some) (suc more) read text few many =
    same_behind (λ next rest. read_within some next rest) (λ next rest. read_within more next rest) read text (cut_at (codes "%{") text)
    (λ parts behind next is ends. let less = rest_shorter text parts behind is ends in same_within some more next behind.1 (omega arith) (omega arith))

step_of : (count : ℕ) (read : GrokRead) (text : List ℕ) → count ≡ length text + 1 → read_within count read text ≡ read_behind read_from read text (cut_at (codes "%{") text)
step_of zero read text long = absurd (omega arith)
step_of (suc count) read text long =
    same_behind (λ next rest. read_within count next rest) read_from read text (cut_at (codes "%{") text)
    (λ parts behind next is ends. let less = rest_shorter text parts behind is ends in same_within count (length behind.1 + 1) next behind.1 (omega arith) (omega arith))

step : (read : GrokRead) (text : List ℕ) → read_from read text ≡ read_behind read_from read text (cut_at (codes "%{") text)
step read text = step_of (length text + 1) read text refl

-- no further reference
pub ended : (all : Option GrokRead) (read : GrokRead) (text : List ℕ) → cut_at (codes "%{") text ≡ None → all ≡ read_from read text → all ≡ Some (with_literal read text)
ended all read text none held = held ∙ step read text ∙ ap (read_behind read_from read text) none

behind_literal : (all : Option GrokRead) (read : GrokRead) (text literal behind : List ℕ) (cut : Option (List ℕ × List ℕ)) → cut_at (codes "%{") text ≡ Some (literal, behind) →
    cut_at (codes "}") behind ≡ cut → all ≡ read_from read text → all ≡ read_reference read_from (with_literal read literal) cut
behind_literal all read text literal behind cut is ends held =
    held ∙ step read text ∙ ap (read_behind read_from read text) is ∙ ap (read_reference read_from (with_literal read literal)) ends

-- a reference that nothing ends
pub not_ended : (all : Option GrokRead) (read : GrokRead) (text literal behind : List ℕ) → cut_at (codes "%{") text ≡ Some (literal, behind) →
    cut_at (codes "}") behind ≡ None → all ≡ read_from read text → all ≡ None
not_ended all read text literal behind is ends held = behind_literal all read text literal behind None is ends held

-- a reference, or what is none
pub next_read : (all : Option GrokRead) (read before after : GrokRead) (text literal behind reference rest : List ℕ) (added : Bool) → cut_at (codes "%{") text ≡ Some (literal, behind) →
    cut_at (codes "}") behind ≡ Some (reference, rest) → before ≡ with_literal read literal →
    with_reference before (reference_of reference) ≡ (if added then Some after else None) → all ≡ read_from read text →
    all ≡ (if added then read_from after rest else None)
next_read all read before after text literal behind reference rest added is ends begun next held =
    behind_literal all read text literal behind (Some (reference, rest)) is ends held
    ∙ ap (λ (front : GrokRead). option_and_then (λ more. read_from more rest) (with_reference front (reference_of reference))) (sym begun)
    ∙ ap (option_and_then (λ more. read_from more rest)) next ∙ by_added added
  where
    by_added : (is_added : Bool) → option_and_then (λ more. read_from more rest) (if is_added then Some after else None) ≡ (if is_added then read_from after rest else None)
    by_added true = refl
    by_added false = refl

pub next_added : (all : Option GrokRead) (read after : GrokRead) (expansion text literal behind reference rest : List ℕ) (added : Bool) → cut_at (codes "%{") text ≡ Some (literal, behind) →
    cut_at (codes "}") behind ≡ Some (reference, rest) → expansion ≡ read.expansion ++ literal →
    with_reference (record { expansion = expansion; places = read.places }) (reference_of reference) ≡ (if added then Some after else None) → added ≡ true → all ≡ read_from read text →
    all ≡ read_from after rest
next_added all read after expansion text literal behind reference rest added is ends begun next has held =
    next_read all read (record { expansion = expansion; places = read.places }) after text literal behind reference rest added is ends
    (ap (λ (front : List ℕ). let it : GrokRead = record { expansion = front; places = read.places } in it) begun) next held
    ∙ ap (λ (is_added : Bool). if is_added then read_from after rest else None) has
