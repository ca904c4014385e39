-- A list that is cut into pieces, each of which begins where the one before it ends.
use Rattle.std.specs.Prelude.{ℕ, ◌≡◌, ◌<◌, ◌≤◌, Bool, List, [], ◌∷◌, length, slice_index, nat_lt}
use Rattle.std.specs.List.{slice_range}
use Rattle.std.specs.Str.{IsCharBoundary}

-- the pieces between the ends, the first of which begins at `from`
abbrev pub pieces : {X : Type 0} → List X → ℕ → List ℕ → List (List X)
pieces xs from [] = []
pieces xs from (end ∷ ends) = slice_range xs from end ∷ pieces xs end ends

-- where the last piece ends
abbrev pub last_end : ℕ → List ℕ → ℕ
last_end from [] = from
last_end from (end ∷ ends) = last_end end ends

-- no end is before the one before it, and none is past `to`
abbrev pub Rises : ℕ → List ℕ → ℕ → Type 0
Rises from [] to = from ≤ to
Rises from (end ∷ ends) to = (from ≤ end) × Rises end ends to

-- a text is cut into texts: the last ends where it does, and each where a character does
pub record IsCutText (bytes ends : List ℕ) : Type 0 where
  pub rises : Rises 0 ends (length bytes)
  pub whole : last_end 0 ends ≡ length bytes
  pub between_characters : (k : ℕ) → k < length ends → IsCharBoundary bytes (slice_index ends k)

-- which pieces are not empty
abbrev pub filled : ℕ → List ℕ → List Bool
filled from [] = []
filled from (end ∷ ends) = nat_lt from end ∷ filled end ends
