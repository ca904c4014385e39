-- The steps of walks over keys.
use Rattle.std.proofs.Common.{◌≡◌, ℕ, ◌+◌, ◌<◌, List, [], ◌∷◌, ◌++◌, length, take, drop, fold, get_or, Option, Some, None, sym, ap, ◌∙◌}
use Rattle.std.proofs.lemmas.List.{drop_more, take_more}
use Rattle.std.proofs.lemmas.List.Sums.{fold-append}
use Rattle.dissect_grok.specs.Cuts.{taken_by, texts_of}
use Rattle.dissect_grok.specs.Joined.{turns_from, with_form}
use Rattle.dissect_grok.specs.Patterns.{name_in, names_of, with_name}
use Rattle.dissect_grok.specs.declared.keys.Key.{Key}
use Rattle.dissect_grok.specs.declared.turns.Turn.{Turn}
use Rattle.dissect_grok.proofs.Taken.{behind_texts, next_text, no_text}

-- the keys from a place on
from_place : (keys : List Key) (place : ℕ) (key : Key) → place < length keys → key ≡ get_or keys place key → drop place keys ≡ key ∷ drop (place + 1) keys
from_place keys place key within is =
    drop_more keys place key within ∙ ap (λ (item : Key). item ∷ drop (place + 1) keys) (sym is)

-- the names of one key more
pub name_added : (keys : List Key) (place : ℕ) (key : Key) (names after : List (List ℕ)) → place < length keys → key ≡ get_or keys place key →
    names ≡ names_of (take place keys) → after ≡ with_name names (name_in key.form) → after ≡ names_of (take (place + 1) keys)
name_added keys place key names after within is held added =
    let more : take (place + 1) keys ≡ take place keys ++ key ∷ [] =
    take_more keys place key within ∙ ap (λ (item : Key). take place keys ++ item ∷ []) (sym is) in
    added ∙ ap (λ (some : List (List ℕ)). with_name some (name_in key.form)) held
    ∙ sym (fold-append (λ (some : List (List ℕ)) (one : Key). with_name some (name_in one.form)) [] (take place keys) (key ∷ []))
    ∙ sym (ap names_of more)

-- the turns of one key more
pub turn_taken : (name : List ℕ) (keys : List Key) (place : ℕ) (key : Key) (turns after all : List Turn) → place < length keys → key ≡ get_or keys place key →
    all ≡ turns_from name turns place (drop place keys) → after ≡ with_form name turns place key.form → all ≡ turns_from name after (place + 1) (drop (place + 1) keys)
turn_taken name keys place key turns after all within is held taken =
    held ∙ ap (turns_from name turns place) (from_place keys place key within is)
    ∙ ap (λ (some : List Turn). turns_from name some (place + 1) (drop (place + 1) keys)) (sym taken)

-- the text of one key more
pub text_taken : (all : Option (List (List ℕ))) (done : List (List ℕ)) (keys : List Key) (place : ℕ) (key : Key) (text taken left : List ℕ) → place < length keys →
    key ≡ get_or keys place key → taken_by key text ≡ Some (taken, left) → all ≡ behind_texts done (texts_of (drop place keys) text) →
    all ≡ behind_texts (done ++ taken ∷ []) (texts_of (drop (place + 1) keys) left)
text_taken all done keys place key text taken left within is took held =
    next_text all done key (drop (place + 1) keys) text taken left took
    (held ∙ ap (λ (some : List Key). behind_texts done (texts_of some text)) (from_place keys place key within is))

pub text_missing : (all : Option (List (List ℕ))) (done : List (List ℕ)) (keys : List Key) (place : ℕ) (key : Key) (text : List ℕ) → place < length keys →
    key ≡ get_or keys place key → taken_by key text ≡ None → all ≡ behind_texts done (texts_of (drop place keys) text) → all ≡ None
text_missing all done keys place key text within is took held =
    no_text all done key (drop (place + 1) keys) text took
    (held ∙ ap (λ (some : List Key). behind_texts done (texts_of some text)) (from_place keys place key within is))
