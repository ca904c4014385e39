-- Steps that are taken in turn, up to the first that halts.
use Rattle.std.specs.Prelude.{ℕ, List, [], ◌∷◌, Result, Ok, Err}
use Rattle.table_files.specs.Halts.{Halt}

-- what is reached from a state by one step for each item in turn, or where the first step that halts does
pub data InTurn {S X : Type 0} (Step : S → X → Result S Halt → Type 0) : S → List X → Result S Halt → Type 0 where
  no_items : (state : S) → InTurn Step state [] (Ok state)
  halts : (state : S) (item : X) (items : List X) (halt : Halt) → Step state item (Err halt) → InTurn Step state (item ∷ items) (Err halt)
  goes_on : (state : S) (item : X) (items : List X) (next : S) (result : Result S Halt) → Step state item (Ok next) → InTurn Step next items result → InTurn Step state (item ∷ items) result

-- what is asked for by the first step, and behind it by those after it, where the first does not halt
pub data AskedInTurn {S X : Type 0} (Step : S → X → Result S Halt → Type 0) (Asks : S → X → List ℕ → Type 0) : S → List X → List ℕ → Type 0 where
  first : (state : S) (item : X) (items : List X) (file : List ℕ) → Asks state item file → AskedInTurn Step Asks state (item ∷ items) file
  behind : (state : S) (item : X) (items : List X) (next : S) (file : List ℕ) → Step state item (Ok next) → AskedInTurn Step Asks next items file → AskedInTurn Step Asks state (item ∷ items) file
