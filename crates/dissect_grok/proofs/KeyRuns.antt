-- The keys of a pattern, one after another.
use Rattle.std.proofs.Common.{◌≡◌, ℕ, zero, suc, ◌+◌, ◌<◌, ◌≤◌, List, [], ◌∷◌, ◌++◌, length, Option, Some, None, Result, Ok, Err, sym, ap, subst, ◌∙◌, arith, refl, length-append, append_assoc}
use Rattle.std.specs.Option.{option_map, option_and_then}
use Rattle.std.specs.Prelude.{codes}
use Rattle.dissect_grok.specs.declared.error.DissectError.{DissectError}
use Rattle.dissect_grok.specs.declared.error.DissectError.TheVariants.{Bad, Memory}
use Rattle.dissect_grok.specs.declared.keys.Key.{Key}
use Rattle.dissect_grok.specs.Patterns.{IsRead, Part, first_part, key_of, keys_behind, keys_from, keys_of, keys_within, part_of, with_key}
use Rattle.dissect_grok.specs.Texts.{cut_at}
use Rattle.dissect_grok.proofs.Cutting.{cut_whole}

-- what stands behind a delimiter is shorter than the text
pub behind_shorter : (delimiter text : List ℕ) (parts : List ℕ × List ℕ) → cut_at delimiter text ≡ Some parts → length parts.1 + length delimiter ≤ length text
behind_shorter delimiter text parts e =
    let long : length text ≡ length parts.0 + (length delimiter + length parts.1) =
    ap length (cut_whole delimiter text parts e) ∙ length-append parts.0 (delimiter ++ parts.1) ∙ ap (λ n. length parts.0 + n) (length-append delimiter parts.1) in
    omega arith

rest_of_part : (text behind : List ℕ) (cut : Option (List ℕ × List ℕ)) → cut_at (codes "%{") behind ≡ cut → (part : Part) (rest : List ℕ) → part_of text behind cut ≡ Some part → part.rest ≡ Some rest →
    length rest < length behind
rest_of_part text behind None e part rest is has = let none : part.rest ≡ None = ap (λ (p : Part). p.rest) (let same : part ≡ record { text = text; delimiter = behind; rest = None } = cc in same) in absurd (cc)
rest_of_part text behind (Some ([], left)) e part rest is has = absurd (cc)
rest_of_part text behind (Some (byte ∷ bytes, left)) e part rest is has =
    let same : part ≡ record { text = text; delimiter = byte ∷ bytes; rest = Some left } = cc in
    let held : part.rest ≡ Some left = ap (λ (p : Part). p.rest) same in
    let is_left : rest ≡ left = cc in
    let less = behind_shorter (codes "%{") behind (byte ∷ bytes, left) e in
    let two : length (codes "%{") ≡ 2 = refl in
    subst (λ (r : List ℕ). length r < length behind) (sym is_left) (omega arith)

rest_of_cut : (text : List ℕ) (cut : Option (List ℕ × List ℕ)) → cut_at (codes "}") text ≡ cut → (part : Part) (rest : List ℕ) →
    option_and_then (λ (parts : List ℕ × List ℕ). part_of parts.0 parts.1 (cut_at (codes "%{") parts.1)) cut ≡ Some part → part.rest ≡ Some rest → length rest < length text
rest_of_cut text None e part rest is has = absurd (cc)
rest_of_cut text (Some parts) e part rest is has =
    let less = behind_shorter (codes "}") text parts e in
    let more = rest_of_part parts.0 parts.1 _ refl part rest is has in
    omega arith

pub rest_shorter : (text : List ℕ) (part : Part) (rest : List ℕ) → first_part text ≡ Some part → part.rest ≡ Some rest → length rest < length text
rest_shorter text part rest is has = rest_of_cut text _ refl part rest is has

-- how many keys are read at most is of no matter
same_behind : (some more : List ℕ → Option (List Key)) (rest : Option (List ℕ)) → ((left : List ℕ) → rest ≡ Some left → some left ≡ more left) → keys_behind some rest ≡ keys_behind more rest
same_behind some more None same = refl
same_behind some more (Some left) same = same left refl

same_from : (some more : List ℕ → Option (List Key)) (part : Option Part) → ((p : Part) (left : List ℕ) → part ≡ Some p → p.rest ≡ Some left → some left ≡ more left) →
    keys_from some part ≡ keys_from more part
same_from some more None same = refl
same_from some more (Some part) same = ap (with_key (key_of part.text part.delimiter)) (same_behind some more part.rest (λ left has. same part left refl has))

empty : (text : List ℕ) → length text ≤ 0 → text ≡ []
empty [] e = refl
empty (byte ∷ bytes) e = absurd (omega arith)

no_keys : (count : ℕ) → keys_within count [] ≡ None
no_keys zero = refl
no_keys (suc count) = refl

same_within : (some more : ℕ) (text : List ℕ) → length text ≤ some → length text ≤ more → keys_within some text ≡ keys_within more text
same_within zero more text few many = ap (keys_within zero) (empty text few) ∙ sym (ap (keys_within more) (empty text few) ∙ no_keys more)
same_within (suc some) zero text few many = ap (keys_within (suc some)) (empty text many) ∙ no_keys (suc some) ∙ sym (ap (keys_within zero) (empty text many))
same_within (suc some) (suc more) text few many =
    same_from (λ rest. keys_within some rest) (λ rest. keys_within more rest) (first_part text)
    (λ part left is has. let less = rest_shorter text part left is has in same_within some more left (omega arith) (omega arith))

step_of : (text : List ℕ) (count : ℕ) → length text ≡ count → keys_within count text ≡ keys_from keys_of (first_part text)
step_of text zero long = ap (keys_within zero) (empty text (omega arith)) ∙ sym (ap (λ (t : List ℕ). keys_from keys_of (first_part t)) (empty text (omega arith)))
step_of text (suc count) long =
    same_from (λ rest. keys_within count rest) keys_of (first_part text)
    (λ part left is has. let less = rest_shorter text part left is has in same_within count (length left) left (omega arith) (omega arith))

pub keys_step : (text : List ℕ) → keys_of text ≡ keys_from keys_of (first_part text)
keys_step text = step_of text (length text) refl

-- the keys that were read, and those that are left
abbrev pub behind_keys : List Key → Option (List Key) → Option (List Key)
behind_keys done left = option_map (λ more. done ++ more) left

pub no_part : (behind : List ℕ) (all : Option (List Key)) (done : List Key) → first_part behind ≡ None → all ≡ behind_keys done (keys_of behind) → all ≡ None
no_part behind all done none held = held ∙ ap (behind_keys done) (keys_step behind ∙ ap (keys_from keys_of) none)

part_next : (behind : List ℕ) (part : Part) (key : Option Key) (rest : Option (List ℕ)) → first_part behind ≡ Some part → key_of part.text part.delimiter ≡ key → part.rest ≡ rest →
    keys_of behind ≡ with_key key (keys_behind keys_of rest)
part_next behind part key rest is read left =
    keys_step behind ∙ ap (keys_from keys_of) is ∙ ap (λ (k : Option Key). with_key k (keys_behind keys_of part.rest)) read
    ∙ ap (λ (r : Option (List ℕ)). with_key key (keys_behind keys_of r)) left

pub bad_key : (behind : List ℕ) (all : Option (List Key)) (done : List Key) (part : Part) (error : DissectError) → first_part behind ≡ Some part →
    all ≡ behind_keys done (keys_of behind) → IsRead (key_of part.text part.delimiter) (Err error) → IsRead all (Err error)
bad_key behind all done part Bad is held bad = held ∙ ap (behind_keys done) (part_next behind part None part.rest is bad refl)
bad_key behind all done part (Memory error) is held bad = tt

pub last_key : (behind : List ℕ) (all : Option (List Key)) (done : List Key) (part : Part) (key : Key) → first_part behind ≡ Some part → part.rest ≡ None →
    all ≡ behind_keys done (keys_of behind) → key_of part.text part.delimiter ≡ Some key → all ≡ Some (done ++ key ∷ [])
last_key behind all done part key is none held read = held ∙ ap (behind_keys done) (part_next behind part (Some key) None is read none)

key_added : (done : List Key) (key : Key) (left : Option (List Key)) → behind_keys done (with_key (Some key) left) ≡ behind_keys (done ++ key ∷ []) left
key_added done key None = refl
key_added done key (Some more) = ap Some (sym (append_assoc done (key ∷ []) more))

pub next_key : (behind rest : List ℕ) (all : Option (List Key)) (done : List Key) (part : Part) (key : Key) → first_part behind ≡ Some part → part.rest ≡ Some rest →
    all ≡ behind_keys done (keys_of behind) → key_of part.text part.delimiter ≡ Some key → all ≡ behind_keys (done ++ key ∷ []) (keys_of rest)
next_key behind rest all done part key is some held read =
    held ∙ ap (behind_keys done) (part_next behind part (Some key) (Some rest) is read some) ∙ key_added done key (keys_of rest)

-- the first part of a text, by its cuts
behind_brace : (text : List ℕ) (cut : Option (List ℕ × List ℕ)) → cut_at (codes "}") text ≡ cut →
    first_part text ≡ option_and_then (λ (parts : List ℕ × List ℕ). part_of parts.0 parts.1 (cut_at (codes "%{") parts.1)) cut
behind_brace text cut is = ap (option_and_then (λ (parts : List ℕ × List ℕ). part_of parts.0 parts.1 (cut_at (codes "%{") parts.1))) is

pub part_unclosed : (text : List ℕ) → cut_at (codes "}") text ≡ None → first_part text ≡ None
part_unclosed text is = behind_brace text None is

pub part_last : (text key behind : List ℕ) → cut_at (codes "}") text ≡ Some (key, behind) → cut_at (codes "%{") behind ≡ None →
    first_part text ≡ Some (record { text = key; delimiter = behind; rest = None })
part_last text key behind is none = behind_brace text (Some (key, behind)) is ∙ ap (part_of key behind) none

part_bare : (key behind delimiter rest : List ℕ) → length delimiter ≡ 0 → part_of key behind (Some (delimiter, rest)) ≡ None
part_bare key behind [] rest none = refl
part_bare key behind (byte ∷ bytes) rest none = absurd (omega arith)

pub part_empty : (text key behind delimiter rest : List ℕ) → cut_at (codes "}") text ≡ Some (key, behind) → cut_at (codes "%{") behind ≡ Some (delimiter, rest) → length delimiter ≡ 0 →
    first_part text ≡ None
part_empty text key behind delimiter rest is more none = behind_brace text (Some (key, behind)) is ∙ ap (part_of key behind) more ∙ part_bare key behind delimiter rest none

part_closed : (key behind delimiter rest : List ℕ) → 0 < length delimiter → part_of key behind (Some (delimiter, rest)) ≡ Some (record { text = key; delimiter = delimiter; rest = Some rest })
part_closed key behind [] rest some = absurd (omega arith)
part_closed key behind (byte ∷ bytes) rest some = refl

pub part_more : (text key behind delimiter rest : List ℕ) → cut_at (codes "}") text ≡ Some (key, behind) → cut_at (codes "%{") behind ≡ Some (delimiter, rest) → 0 < length delimiter →
    first_part text ≡ Some (record { text = key; delimiter = delimiter; rest = Some rest })
part_more text key behind delimiter rest is more some = behind_brace text (Some (key, behind)) is ∙ ap (part_of key behind) more ∙ part_closed key behind delimiter rest some

-- before the first key
pub keys_first : (left : Option (List Key)) → left ≡ behind_keys [] left
keys_first None = refl
keys_first (Some keys) = refl
