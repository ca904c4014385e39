-- What a sink has taken, where it tells that.
use Rattle.std.specs.Prelude.{◌≡◌, ℕ, List, ◌++◌, Option, option_map}

-- The bytes that a sink took with these after them. A sink that does not tell what it took still does not tell it.
abbrev pub with_more : Option (List ℕ) → List ℕ → Option (List ℕ)
with_more taken bytes = option_map (λ before. before ++ bytes) taken

-- the sink took a front of the bytes
abbrev pub TookFront : Option (List ℕ) → Option (List ℕ) → List ℕ → Type 0
TookFront old new bytes = (front : List ℕ) × (rest : List ℕ) × (bytes ≡ front ++ rest) × (new ≡ with_more old front)
