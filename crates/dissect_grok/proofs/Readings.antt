-- A pattern that is read, and a text that is cut by it.
use Rattle.std.proofs.Common.{◌≡◌, ℕ, ◌&&◌, ◌==◌, not, Bool, true, false, if◌then◌else◌, List, [], ◌∷◌, length, map, Option, Some, None, Result, Ok, Err, sym, ap, ◌∙◌, refl}
use Rattle.std.specs.Option.{option_map, option_and_then}
use Rattle.std.specs.Prelude.{codes}
use Rattle.dissect_grok.specs.declared.error.DissectError.{DissectError}
use Rattle.dissect_grok.specs.declared.error.DissectError.TheVariants.{Bad, Memory}
use Rattle.dissect_grok.specs.declared.keys.Key.{Key}
use Rattle.dissect_grok.specs.declared.turns.Turn.{Turn}
use Rattle.dissect_grok.specs.Cuts.{cut_of, texts_by_name, texts_of}
use Rattle.dissect_grok.specs.Joined.{joined_turns, turns_of}
use Rattle.dissect_grok.specs.Patterns.{IsRead, Reading, are_good, have_name_twice, keys_of, names_of, reading_of, reading_with}
use Rattle.dissect_grok.specs.Texts.{behind_front, cut_at}

-- a pattern
behind_literal : (pattern separator : List ℕ) (cut : Option (List ℕ × List ℕ)) → cut_at (codes "%{") pattern ≡ cut →
    reading_of pattern separator ≡ option_and_then (λ (parts : List ℕ × List ℕ). reading_with parts.0 separator (keys_of parts.1)) cut
behind_literal pattern separator cut is = ap (option_and_then (λ (parts : List ℕ × List ℕ). reading_with parts.0 separator (keys_of parts.1))) is

pub no_keys : (pattern separator : List ℕ) → cut_at (codes "%{") pattern ≡ None → reading_of pattern separator ≡ None
no_keys pattern separator is = behind_literal pattern separator None is

pub keys_refused : (pattern separator first behind : List ℕ) (error : DissectError) → cut_at (codes "%{") pattern ≡ Some (first, behind) → IsRead (keys_of behind) (Err error) →
    IsRead (reading_of pattern separator) (Err error)
keys_refused pattern separator first behind Bad is bad = behind_literal pattern separator (Some (first, behind)) is ∙ ap (reading_with first separator) bad
keys_refused pattern separator first behind (Memory error) is bad = tt

reading_if : (pattern separator first behind : List ℕ) (keys : List Key) (test : Bool) → cut_at (codes "%{") pattern ≡ Some (first, behind) → keys_of behind ≡ Some keys → are_good keys ≡ test →
    reading_of pattern separator ≡ (if test then Some (record { first = first; keys = keys; separator = separator }) else None)
reading_if pattern separator first behind keys test is read good =
    behind_literal pattern separator (Some (first, behind)) is ∙ ap (reading_with first separator) read
    ∙ ap (λ (passes : Bool). if passes then Some (let it : Reading = record { first = first; keys = keys; separator = separator } in it) else None) good

good_if : (none twice : Bool) → none ≡ false → twice ≡ false → (not none && not twice) ≡ true
good_if none twice some once = ap (λ (n : Bool). not n && not twice) some ∙ ap not once

none_or_twice : (none twice : Bool) → none ≡ true → (not none && not twice) ≡ false
none_or_twice none twice is = ap (λ (n : Bool). not n && not twice) is

twice_or_none : (none twice : Bool) → twice ≡ true → (not none && not twice) ≡ false
twice_or_none true twice is = refl
twice_or_none false twice is = ap not is

pub read_good : (pattern separator first behind : List ℕ) (keys : List Key) → cut_at (codes "%{") pattern ≡ Some (first, behind) → keys_of behind ≡ Some keys →
    (length (names_of keys) == 0) ≡ false → have_name_twice keys ≡ false → reading_of pattern separator ≡ Some (record { first = first; keys = keys; separator = separator })
read_good pattern separator first behind keys is read some once =
    reading_if pattern separator first behind keys true is read (good_if (length (names_of keys) == 0) (have_name_twice keys) some once)

pub read_nameless : (pattern separator first behind : List ℕ) (keys : List Key) → cut_at (codes "%{") pattern ≡ Some (first, behind) → keys_of behind ≡ Some keys →
    (length (names_of keys) == 0) ≡ true → reading_of pattern separator ≡ None
read_nameless pattern separator first behind keys is read none =
    reading_if pattern separator first behind keys false is read (none_or_twice (length (names_of keys) == 0) (have_name_twice keys) none)

pub read_twice : (pattern separator first behind : List ℕ) (keys : List Key) → cut_at (codes "%{") pattern ≡ Some (first, behind) → keys_of behind ≡ Some keys →
    have_name_twice keys ≡ true → reading_of pattern separator ≡ None
read_twice pattern separator first behind keys is read twice =
    reading_if pattern separator first behind keys false is read (twice_or_none (length (names_of keys) == 0) (have_name_twice keys) twice)

-- a text
behind_first : (reading : Reading) (text : List ℕ) (rest : Option (List ℕ)) → behind_front reading.first text ≡ rest →
    cut_of reading text ≡ option_map (texts_by_name reading) (option_and_then (texts_of reading.keys) rest)
behind_first reading text rest is = ap (λ (left : Option (List ℕ)). option_map (texts_by_name reading) (option_and_then (texts_of reading.keys) left)) is

pub not_begun : (reading : Reading) (first text : List ℕ) → first ≡ reading.first → behind_front first text ≡ None → None ≡ cut_of reading text
not_begun reading first text begins is = sym (behind_first reading text None (ap (λ (front : List ℕ). behind_front front text) (sym begins) ∙ is))

begun : (reading : Reading) (first text rest : List ℕ) (keys : List Key) (taken : Option (List (List ℕ))) → first ≡ reading.first → keys ≡ reading.keys →
    behind_front first text ≡ Some rest → texts_of keys rest ≡ taken → cut_of reading text ≡ option_map (texts_by_name reading) taken
begun reading first text rest keys taken begins same is took =
    behind_first reading text (Some rest) (ap (λ (front : List ℕ). behind_front front text) (sym begins) ∙ is)
    ∙ ap (λ (some : List Key). option_map (texts_by_name reading) (texts_of some rest)) (sym same) ∙ ap (option_map (texts_by_name reading)) took

pub not_matched : (reading : Reading) (first text rest : List ℕ) (keys : List Key) → first ≡ reading.first → keys ≡ reading.keys →
    behind_front first text ≡ Some rest → texts_of keys rest ≡ None → None ≡ cut_of reading text
not_matched reading first text rest keys begins same is none = sym (begun reading first text rest keys None begins same is none)

map_twice : {X Y Z : Type 0} (f : Y → Z) (g : X → Y) (xs : List X) → map f (map g xs) ≡ map (λ x. f (g x)) xs
map_twice f g [] = refl
map_twice f g (x ∷ xs) = ap (λ rest. f (g x) ∷ rest) (map_twice f g xs)

pub matched : (reading : Reading) (first text rest separator : List ℕ) (keys : List Key) (texts held names cut : List (List ℕ)) (turns some : List (List Turn)) →
    first ≡ reading.first → keys ≡ reading.keys → separator ≡ reading.separator → names ≡ names_of reading.keys → turns ≡ map (turns_of reading.keys) names →
    some ≡ turns → held ≡ texts → behind_front first text ≡ Some rest → texts_of keys rest ≡ Some texts → cut ≡ map (joined_turns separator held) some →
    Some cut ≡ cut_of reading text
matched reading first text rest separator keys texts held names cut turns some begins same parted named turned these taken is took joined =
    let each : cut ≡ texts_by_name reading texts =
    joined ∙ ap (λ (by : List ℕ). map (joined_turns by held) some) parted ∙ ap (λ (all : List (List ℕ)). map (joined_turns reading.separator all) some) taken
    ∙ ap (map (joined_turns reading.separator texts)) (these ∙ turned ∙ ap (map (turns_of reading.keys)) named)
    ∙ map_twice (joined_turns reading.separator texts) (turns_of reading.keys) (names_of reading.keys) in
    ap Some each ∙ sym (begun reading first text rest keys (Some texts) begins same is took)

-- the same where the texts are held as items
pub matched_by : {Held : Type 0} (texts_in : Held → List (List ℕ)) (answer : Option Held) (value : Held) (reading : Reading) (first text rest separator : List ℕ) (keys : List Key)
    (held names cut : List (List ℕ)) (turns some : List (List Turn)) →
    first ≡ reading.first → keys ≡ reading.keys → separator ≡ reading.separator → names ≡ names_of reading.keys → turns ≡ map (turns_of reading.keys) names →
    some ≡ turns → held ≡ texts_in value → answer ≡ Some value → behind_front first text ≡ Some rest → texts_of keys rest ≡ option_map texts_in answer →
    cut ≡ map (joined_turns separator held) some → Some cut ≡ cut_of reading text
matched_by texts_in answer value reading first text rest separator keys held names cut turns some begins same parted named turned these taken answered is took joined =
    matched reading first text rest separator keys (texts_in value) held names cut turns some begins same parted named turned these taken is
    (took ∙ ap (option_map texts_in) answered) joined
