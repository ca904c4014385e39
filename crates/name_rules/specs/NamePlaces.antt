-- Places counted from a first one, and why KEEP, DROP and RENAME are refused.
use Rattle.std.specs.Prelude.{◌≡◌, ℕ, ◌+◌, Bool, true, false, List, [], ◌∷◌, ◌++◌, Some, if◌then◌else◌}
use Rattle.name_rules.specs.declared.kept.NameError.{NameError}
use Rattle.name_rules.specs.declared.kept.NameError.TheVariants.{UnknownColumn, NoMatch, Memory}
use Rattle.name_rules.specs.declared.names.RenameError.{RenameError}
use Rattle.name_rules.specs.declared.names.RenameError.TheVariants.{UnknownColumn as UnknownOld, Memory as WantOfMemory}
use Rattle.esql_ast.specs.declared.query.NamePattern.{NamePattern}
use Rattle.esql_ast.specs.declared.query.RenamePair.{RenamePair}
use Rattle.name_rules.specs.NameRules.{first_unmet, first_missing}

-- a place, if it stays
abbrev pub place_where : Bool → ℕ → List ℕ
place_where stays place = if stays then place ∷ [] else []

-- the places of the items that pass the test, where the first is at a place
abbrev pub places_from : {X : Type 0} → (X → Bool) → ℕ → List X → List ℕ
places_from test place [] = []
places_from test place (item ∷ items) = place_where (test item) place ++ places_from test (place + 1) items

-- KEEP or DROP is refused at the first pattern that no name meets: UnknownColumn at a full name, NoMatch at a pattern with `*`
abbrev pub IsNameRefusal : List (List ℕ) → List NamePattern → NameError → Type 0
IsNameRefusal names patterns (UnknownColumn span) =
    (pattern : NamePattern) × (first_unmet names patterns ≡ Some pattern) × (pattern.wild ≡ false) × (pattern.span ≡ span)
IsNameRefusal names patterns (NoMatch span) =
    (pattern : NamePattern) × (first_unmet names patterns ≡ Some pattern) × (pattern.wild ≡ true) × (pattern.span ≡ span)
IsNameRefusal names patterns (Memory error) = Unit {0}

-- RENAME is refused at the first pair whose old name is not there at its turn
abbrev pub IsRenameRefusal : List (List ℕ) → List RenamePair → RenameError → Type 0
IsRenameRefusal names pairs (UnknownOld span) = (pair : RenamePair) × (first_missing names pairs ≡ Some pair) × (pair.before.span ≡ span)
IsRenameRefusal names pairs (WantOfMemory error) = Unit {0}

abbrev pub IsWantOfNames : NameError → Type 0
IsWantOfNames (UnknownColumn span) = ⊥
IsWantOfNames (NoMatch span) = ⊥
IsWantOfNames (Memory error) = Unit {0}

abbrev pub IsWantOfRenames : RenameError → Type 0
IsWantOfRenames (UnknownOld span) = ⊥
IsWantOfRenames (WantOfMemory error) = Unit {0}
