-- What a map of places has for each value once the places of one are written or inserted.
use Rattle.std.proofs.Common.{◌≡◌, ℕ, Bool, true, false, List, [], ◌∷◌, Option, Some, None, is_some, refl, sym, ap, ◌∙◌, true≢false}
use Rattle.std.specs.Prelude.{if◌then◌else◌}
use Rattle.std.specs.Map.{lookup}
use Rattle.std.specs.Option.{unwrap_or}
use Rattle.esql_types.specs.declared.value.Value.{Value}
use Rattle.indexmap.specs.IndexMap.{insert_entry}
use Rattle.plain_functions.specs.Values.{value_same}
use Rattle.plain_functions.specs.ValueOrder.{equal_from_same, same_decides}
use Rattle.enrich_match.specs.Places.{places_at, with_place}

same_itself : (value : Value) → value_same value value ≡ true
same_itself value = (same_decides value value).1 refl

apart_back : (this that : Value) → value_same this that ≡ false → value_same that this ≡ false
apart_back this that apart = go (value_same that this) refl
  where
    go : (answer : Bool) → value_same that this ≡ answer → value_same that this ≡ false
    go true is = absurd (true≢false (sym (ap (value_same this) (equal_from_same that this is) ∙ same_itself this) ∙ apart))
    go false is = is

twice : {Item : Type 0} (here : Bool) (new old other : Item) → (if here then new else other) ≡ (if here then new else (if here then old else other))
twice true new old other = refl
twice false new old other = refl

module _ (key : Value) (new : List ℕ) (value : Value) where
  abbrev found : List (Value × List ℕ) → Option (List ℕ)
  found entries = lookup (value_same value) entries

  found_put : (entries : List (Value × List ℕ)) → found (insert_entry value_same entries key new) ≡ (if value_same value key then Some new else found entries)
  found_put [] = refl
  found_put (entry ∷ entries) = go (value_same key entry.0) refl (found_put entries)
    where
      other : (there : Bool) → value_same value entry.0 ≡ there → value_same key entry.0 ≡ false
          → found (insert_entry value_same entries key new) ≡ (if value_same value key then Some new else found entries)
          → (if there then Some entry.1 else found (insert_entry value_same entries key new)) ≡ (if value_same value key then Some new else (if there then Some entry.1 else found entries))
      other true is apart later =
          let no : value_same value key ≡ false = ap (λ (one : Value). value_same one key) (equal_from_same value entry.0 is) ∙ apart_back key entry.0 apart in
          ap (λ (answer : Bool). if answer then Some new else Some entry.1) (sym no)
      other false is apart later = later

      go : (here : Bool) → value_same key entry.0 ≡ here
          → found (insert_entry value_same entries key new) ≡ (if value_same value key then Some new else found entries)
          → found (if here then (entry.0, new) ∷ entries else entry ∷ insert_entry value_same entries key new) ≡ (if value_same value key then Some new else found (entry ∷ entries))
      go true is later =
          twice (value_same value entry.0) (Some new) (Some entry.1) (found entries)
          ∙ ap (λ (answer : Bool). if answer then Some new else found (entry ∷ entries)) (sym (ap (value_same value) (equal_from_same key entry.0 is)))
      go false is later = other (value_same value entry.0) refl is later

pub placed : (entries : List (Value × List ℕ)) (key : Value) (place : ℕ) (new : List ℕ) → new ≡ with_place (places_at entries key) place
    → (value : Value) → places_at (insert_entry value_same entries key new) value ≡ (if value_same value key then with_place (places_at entries value) place else places_at entries value)
placed entries key place new is value = ap (λ (there : Option (List ℕ)). unwrap_or there []) (found_put key new value entries) ∙ go (value_same value key) refl
  where
    go : (same : Bool) → value_same value key ≡ same
        → unwrap_or (if same then Some new else lookup (value_same value) entries) [] ≡ (if same then with_place (places_at entries value) place else places_at entries value)
    go true e = is ∙ ap (λ (one : Value). with_place (places_at entries one) place) (sym (equal_from_same value key e))
    go false e = refl

pub no_places : (found : Option (List ℕ)) → is_some found ≡ false → unwrap_or found [] ≡ []
no_places None none = refl
no_places (Some places) none = absurd (true≢false none)
