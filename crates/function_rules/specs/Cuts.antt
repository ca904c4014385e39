-- Where a text is cut by a delimiter.
use Rattle.std.specs.Prelude.{◌≡◌, ℕ, ◌<◌, ◌≤◌, List, [], ◌∷◌, ◌++◌, length}
use Rattle.std.specs.Str.Pattern.{LacksTextAt}

-- the delimiter occurs nowhere in the text
abbrev pub Lacks : List ℕ → List ℕ → Type 0
Lacks delimiter text = (i : ℕ) → i ≤ length text → LacksTextAt delimiter text i

-- the text is the front, the first occurrence of the delimiter, and the back
abbrev pub IsCut : List ℕ → List ℕ → List ℕ → List ℕ → Type 0
IsCut delimiter text front back = (text ≡ front ++ (delimiter ++ back)) × ((i : ℕ) → i < length front → LacksTextAt delimiter text i)

-- the pieces of the text between the occurrences of the delimiter from the left: at least one, and the last lacks it
abbrev pub ArePieces : List ℕ → List ℕ → List (List ℕ) → Type 0
ArePieces delimiter text [] = ⊥
ArePieces delimiter text (last ∷ []) = (last ≡ text) × Lacks delimiter text
ArePieces delimiter text (front ∷ next ∷ rest) = (back : List ℕ) × IsCut delimiter text front back × ArePieces delimiter back (next ∷ rest)
