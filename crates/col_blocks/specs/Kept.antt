-- Cells that are kept by a mask, and cells that are put at the places of one.
use Rattle.std.specs.Prelude.{Bool, true, false, List, [], ◌∷◌}
use Rattle.esql_types.specs.declared.value.Value.{Value}

-- the items at the places that are set
abbrev pub kept_by : {X : Type 0} → List Bool → List X → List X
kept_by [] xs = []
kept_by (keep ∷ keeps) [] = []
kept_by (true ∷ keeps) (x ∷ xs) = x ∷ kept_by keeps xs
kept_by (false ∷ keeps) (x ∷ xs) = kept_by keeps xs

-- the cells at the set places in order, null at the others
abbrev pub scattered : List Bool → List (List Value) → List (List Value)
scattered [] cells = []
scattered (false ∷ places) cells = [] ∷ scattered places cells
scattered (true ∷ places) [] = [] ∷ scattered places []
scattered (true ∷ places) (cell ∷ cells) = cell ∷ scattered places cells
