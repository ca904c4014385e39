-- Columns with their names apart.
use Rattle.std.proofs.Common.{◌≡◌, ℕ, zero, suc, ◌+◌, ◌<◌, List, [], ◌∷◌, ◌++◌, map, length, take, get_or, Option, Some, None, refl, ap, sym, ◌∙◌}
use Rattle.std.specs.Prelude.{slice_get}
use Rattle.std.specs.List.{filter_map, cons_option}
use Rattle.std.specs.Option.{option_map}
use Rattle.std.proofs.lemmas.List.Elements.{filter_map-append}
use Rattle.std.proofs.lemmas.Option.{slice_get-map}
use Rattle.std.proofs.lemmas.List.{append-nil, take_more}
use Rattle.name_rules.specs.NameRules.{Renaming, at_places, renamed_by}
use Rattle.esql_plan.specs.declared.plan.OutColumn.{OutColumn}
use Rattle.query_semantics.specs.Writings.{visible_names, visible_as}
use Rattle.visible_columns.specs.declared.columns.Shown.{Shown}
use Rattle.visible_columns.specs.Columns.{shown_of}
use Rattle.plan_writing.specs.Writings.{under_name, joined, shown_under}

abbrev pub both : Option (List ℕ) → Option Shown → Option OutColumn
both None shown = None
both (Some name) None = None
both (Some name) (Some shown) = Some (under_name name shown)

pub joined_get : (names : List (List ℕ)) (shown : List Shown) (place : ℕ) → slice_get (joined names shown) place ≡ both (slice_get names place) (slice_get shown place)
joined_get [] shown place = refl
joined_get (name ∷ names) [] zero = refl
joined_get (name ∷ names) [] (suc place) = none (slice_get names place)
  where
    none : (found : Option (List ℕ)) → None ≡ both found None
    none None = refl
    none (Some name) = refl
joined_get (name ∷ names) (one ∷ shown) zero = refl
joined_get (name ∷ names) (one ∷ shown) (suc place) = joined_get names shown place

both_none : (found : Option (List ℕ)) → both found None ≡ None
both_none None = refl
both_none (Some name) = refl

nothing : (names : List (List ℕ)) (shown : List Shown) (place : ℕ) (before : List OutColumn) → both (slice_get names place) (slice_get shown place) ≡ None
    → before ≡ before ++ at_places (place ∷ []) (joined names shown)
nothing names shown place before is =
    sym (append-nil before) ∙ sym (ap (λ (found : Option OutColumn). before ++ cons_option found []) (joined_get names shown place ∙ is))

pub nothing_named : (names : List (List ℕ)) (shown : List Shown) (place : ℕ) (before : List OutColumn) → slice_get names place ≡ None
    → before ≡ before ++ at_places (place ∷ []) (joined names shown)
nothing_named names shown place before is = nothing names shown place before (ap (λ (found : Option (List ℕ)). both found (slice_get shown place)) is)

pub nothing_shown : (names : List (List ℕ)) (shown : List Shown) (place : ℕ) (before : List OutColumn) → slice_get shown place ≡ None
    → before ≡ before ++ at_places (place ∷ []) (joined names shown)
nothing_shown names shown place before is = nothing names shown place before (ap (λ (found : Option Shown). both (slice_get names place) found) is ∙ both_none (slice_get names place))

pub at_taken : (columns : List OutColumn) (places : List ℕ) (i d : ℕ) → i < length places → at_places (take (i + 1) places) columns ≡ at_places (take i places) columns ++ at_places (get_or places i d ∷ []) columns
at_taken columns places i d below =
    ap (λ these. at_places these columns) (take_more places i d below)
    ∙ filter_map-append (λ (place : ℕ). slice_get columns place) (take i places) (get_or places i d ∷ [])

-- columns whose names were taken apart
pub joined_apart : (visible : List OutColumn) → joined (visible_names visible) (map shown_of visible) ≡ visible
joined_apart [] = refl
joined_apart (column ∷ visible) = λ i. column ∷ joined_apart visible i

renamed_found : (name : List ℕ) (found : Option OutColumn) → option_map (under_name name) (option_map shown_of found) ≡ option_map (visible_as name) found
renamed_found name None = refl
renamed_found name (Some column) = refl

found_same : {A B : Type 0} (f g : A → Option B) → ((x : A) → f x ≡ g x) → (xs : List A) → filter_map f xs ≡ filter_map g xs
found_same f g same [] = refl
found_same f g same (x ∷ xs) = λ i. cons_option (same x i) (found_same f g same xs i)

pub shown_renamed : (these : List Renaming) (visible : List OutColumn) → shown_under these (map shown_of visible) ≡ renamed_by visible_as these visible
shown_renamed these visible =
    found_same (λ (renaming : Renaming). option_map (under_name renaming.name) (slice_get (map shown_of visible) renaming.place)) (λ (renaming : Renaming). option_map (visible_as renaming.name) (slice_get visible renaming.place))
    (λ renaming. ap (option_map (under_name renaming.name)) (slice_get-map shown_of visible renaming.place) ∙ renamed_found renaming.name (slice_get visible renaming.place)) these
