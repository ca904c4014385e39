-- The lines of a file.
use Rattle.std.specs.Prelude.{◌≡◌, ◌⊎◌, ℕ, ◌==◌, List, [], ◌∷◌, ◌++◌, All, not, true}
use Rattle.std.specs.List.{list_all}

-- each line with a line feed after it
abbrev pub with_ends : List (List ℕ) → List ℕ
with_ends [] = []
with_ends (line ∷ lines) = line ++ 10 ∷ with_ends lines

-- the bytes are these lines, each with a line feed after it, but that the last may stand without one
abbrev pub AreLines : List ℕ → List (List ℕ) → Type 0
AreLines bytes lines = (with_ends lines ≡ bytes) ⊎ (with_ends lines ≡ bytes ++ 10 ∷ [])

-- no line has a line feed in it
abbrev pub HasNoEnd : List (List ℕ) → Type 0
HasNoEnd lines = All (λ line. list_all (λ b. not (b == 10)) line ≡ true) lines
