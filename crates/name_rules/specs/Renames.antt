-- The columns of RENAME between its pairs, found by their names.
use Rattle.std.specs.Prelude.{◌≡◌, ℕ, ◌+◌, ◌<◌, List, [], ◌∷◌, ◌++◌, length, slice_get, Option, Some, None, if◌then◌else◌}
use Rattle.std.specs.BTreeMap.{get_by_text}
use Rattle.std.specs.Str.{bytes_eq}
use Rattle.name_rules.specs.declared.renames.Renames.{Renames}
use Rattle.name_rules.specs.NameRules.{Renaming}

-- a column at a place under the name that is found for it, if it has one
abbrev pub named_by : Option (Option (List ℕ)) → ℕ → List Renaming
named_by None place = []
named_by (Some None) place = []
named_by (Some (Some name)) place = record { name = name; place = place } ∷ []

-- the columns from a place on, each under the name that is found where its first one stands
abbrev pub renames_seen : List (Option (List ℕ)) → ℕ → List ℕ → List Renaming
renames_seen names place [] = []
renames_seen names place (first ∷ firsts) = named_by (slice_get names first) place ++ renames_seen names (place + 1) firsts

abbrev pub seen_of : Renames → List Renaming
seen_of renames = renames_seen renames.names 0 renames.firsts

-- what is found of a name is the one place that has it
pub record AreInverse (names : List (Option (List ℕ))) (place_of : List ℕ → Option ℕ) : Type 0 where
  pub stands : (name : List ℕ) (place : ℕ) → place_of name ≡ Some place → slice_get names place ≡ Some (Some name)
  pub found : (name : List ℕ) (place : ℕ) → slice_get names place ≡ Some (Some name) → place_of name ≡ Some place

-- each name that stands is at the place of a column
pub record AreRenames (renames : Renames) : Type 0 where
  pub inverse : AreInverse renames.names (get_by_text renames.places)
  pub own : (name : List ℕ) (place : ℕ) → get_by_text renames.places name ≡ Some place → slice_get renames.firsts place ≡ Some place
  pub few : length renames.firsts < 4294967296

-- so many columns, before the first pair
pub record IsBegun (renames : Renames) (count : ℕ) : Type 0 where
  pub inverse : AreInverse renames.names (get_by_text renames.places)
  pub own : (name : List ℕ) (place : ℕ) → get_by_text renames.places name ≡ Some place → slice_get renames.firsts place ≡ Some place
  pub names : length renames.names ≡ count
  pub firsts : length renames.firsts ≡ count
  pub below : (place first : ℕ) → slice_get renames.firsts place ≡ Some first → first < count

-- what is at a place once a name is let go
abbrev pub let_go : List ℕ → Option (Option (List ℕ)) → Option (Option (List ℕ))
let_go name None = None
let_go name (Some None) = Some None
let_go name (Some (Some own)) = if bytes_eq own name then Some None else Some (Some own)

-- what is at a place once a name is called otherwise
abbrev pub called : List ℕ → List ℕ → Option (Option (List ℕ)) → Option (Option (List ℕ))
called before after None = None
called before after (Some None) = Some None
called before after (Some (Some own)) = if bytes_eq own before then Some (Some after) else Some (Some own)

abbrev pub IsLetGo : List ℕ → List (Option (List ℕ)) → List (Option (List ℕ)) → Type 0
IsLetGo name old new = (place : ℕ) → slice_get new place ≡ let_go name (slice_get old place)

abbrev pub IsCalled : List ℕ → List ℕ → List (Option (List ℕ)) → List (Option (List ℕ)) → Type 0
IsCalled before after old new = (place : ℕ) → slice_get new place ≡ called before after (slice_get old place)

-- the name is found no more
abbrev pub IsWithout : List ℕ → (List ℕ → Option ℕ) → (List ℕ → Option ℕ) → Type 0
IsWithout name old new = (other : List ℕ) → new other ≡ (if bytes_eq name other then None else old other)

-- what was found of one name is found of another
abbrev pub IsMoved : List ℕ → List ℕ → (List ℕ → Option ℕ) → (List ℕ → Option ℕ) → Type 0
IsMoved before after old new = (other : List ℕ) → new other ≡ (if bytes_eq after other then old before else if bytes_eq before other then None else old other)
