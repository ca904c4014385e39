-- What is known of the columns that KEEP and RENAME leave.
use Rattle.std.specs.Prelude.{◌≡◌, ℕ, ◌+◌, ◌<◌, ◌==◌, true, false, List, [], ◌∷◌, length, map, slice_get, Some, All, if◌then◌else◌}
use Rattle.std.specs.List.{IsDistinct}
use Rattle.std.specs.Str.{bytes_eq}
use Rattle.esql_ast.specs.declared.query.NamePattern.{NamePattern}
use Rattle.esql_ast.specs.declared.query.RenamePair.{RenamePair}
use Rattle.name_rules.specs.NameRules.{Renaming, meets, rank_of, winner, is_met, keep_places, renamings}

-- The pattern at the place wins the name: it meets it, no pattern of a higher rank does, and none of the same rank to its right
-- does.
pub record IsWinner (patterns : List NamePattern) (name : List ℕ) (place : ℕ) : Type 0 where
  pub pattern : NamePattern
  pub stands : slice_get patterns place ≡ Some pattern
  pub meets_name : meets pattern name ≡ true
  pub none_above : (other : ℕ) (rival : NamePattern) → slice_get patterns other ≡ Some rival → rank_of pattern < rank_of rival → meets rival name ≡ false
  pub none_behind : (other : ℕ) (rival : NamePattern) → slice_get patterns other ≡ Some rival → place < other → rank_of rival ≡ rank_of pattern → meets rival name ≡ false

-- the place is that of a name, which a pattern wins
pub record IsKept (names : List (List ℕ)) (patterns : List NamePattern) (place : ℕ) : Type 0 where
  pub below : place < length names
  pub name : List ℕ
  pub stands : slice_get names place ≡ Some name
  pub winning : ℕ
  pub is_winner : winner patterns name ≡ Some winning
  pub wins : IsWinner patterns name winning

-- each place that KEEP leaves is that of a name that a pattern wins
abbrev pub KeptAreWon : List (List ℕ) → List NamePattern → Type 0
KeptAreWon names patterns = All (IsKept names patterns) (keep_places names patterns)

-- how often the place is among the others
abbrev pub count_of : ℕ → List ℕ → ℕ
count_of place [] = 0
count_of place (other ∷ others) = (if other == place then 1 else 0) + count_of place others

-- KEEP leaves each name that some pattern meets once, and no other
abbrev pub KeptOnce : List (List ℕ) → List NamePattern → Type 0
KeptOnce names patterns =
    (place : ℕ) (name : List ℕ) → slice_get names place ≡ Some name → count_of place (keep_places names patterns) ≡ (if is_met patterns name then 1 else 0)

-- the places that KEEP leaves differ
abbrev pub KeptDiffer : List (List ℕ) → List NamePattern → Type 0
KeptDiffer names patterns = IsDistinct (λ place other. place == other) (keep_places names patterns)

abbrev pub names_of : List Renaming → List (List ℕ)
names_of these = map (λ (renaming : Renaming). renaming.name) these

-- where names differ, the names that RENAME leaves do
abbrev pub RenamedDiffer : List (List ℕ) → List RenamePair → Type 0
RenamedDiffer names pairs = IsDistinct bytes_eq names → IsDistinct bytes_eq (names_of (renamings names pairs))
