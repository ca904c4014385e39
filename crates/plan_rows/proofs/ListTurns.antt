-- One turn of a loop over the items of a list.
use Rattle.std.proofs.Common.{◌≡◌, ℕ, ◌+◌, ◌<◌, List, [], ◌∷◌, ◌++◌, length, get_or, take, map, ap, sym, ◌∙◌, append_assoc}
use Rattle.std.specs.List.{flat_map}
use Rattle.std.proofs.lemmas.List.{map-append, take_more}
use Rattle.std.proofs.lemmas.List.Sums.{fold-append}
use Rattle.esql_types.specs.declared.cause.Cause.{Cause}
use Rattle.esql_types.specs.declared.cause.Failure.{Failure}
use Rattle.warn_log.specs.Logs.{noted, logged}

-- failures after failures
pub logged-append : (log : List (List Cause)) (first second : List Failure) → logged (logged log first) second ≡ logged log (first ++ second)
logged-append log first second = sym (fold-append noted log first second)

-- what is made of the items so far, and of the next one
pub gives_turn : {A B : Type 0} (f : A → List B) (before after : List B) (item : A) (rest items whole : List A)
    → before ++ flat_map f items ≡ flat_map f whole → items ≡ item ∷ rest → after ≡ before ++ f item → after ++ flat_map f rest ≡ flat_map f whole
gives_turn f before after item rest items whole so_far next made =
    ap (λ these. these ++ flat_map f rest) made
    ∙ append_assoc before (f item) (flat_map f rest)
    ∙ ap (λ these. before ++ flat_map f these) (sym next)
    ∙ so_far

-- what the items so far fail with, and the next one
pub logged_turn : {A : Type 0} (f : A → List Failure) (log before after : List (List Cause)) (item : A) (rest items whole : List A)
    → logged before (flat_map f items) ≡ logged log (flat_map f whole) → items ≡ item ∷ rest → after ≡ logged before (f item)
    → logged after (flat_map f rest) ≡ logged log (flat_map f whole)
logged_turn f log before after item rest items whole so_far next noted =
    ap (λ (these : List (List Cause)). logged these (flat_map f rest)) noted
    ∙ logged-append before (f item) (flat_map f rest)
    ∙ ap (λ these. logged before (flat_map f these)) (sym next)
    ∙ so_far

-- one more item is put behind those before
pub map_turn : {A B : Type 0} (f : A → B) (first before after : List B) (items : List A) (place : ℕ) (item : A)
    → before ≡ first ++ map f (take place items) → place < length items → item ≡ get_or items place item → after ≡ before ++ f item ∷ []
    → after ≡ first ++ map f (take (place + 1) items)
map_turn f first before after items place item so_far within is made =
    made
    ∙ ap (λ these. these ++ f item ∷ []) so_far
    ∙ append_assoc first (map f (take place items)) (f item ∷ [])
    ∙ ap (λ these. first ++ these) (sym (map-append f (take place items) (item ∷ [])))
    ∙ ap (λ these. first ++ map f (take place items ++ these ∷ [])) is
    ∙ ap (λ these. first ++ map f these) (sym (take_more items place item within))
