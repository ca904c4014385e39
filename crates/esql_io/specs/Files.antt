-- What files hold, where they tell it, and what is left to read of the file that is open.
use Rattle.std.specs.Prelude.{◌≡◌, ℕ, ◌≤◌, ◌<◌, Bool, List, [], ◌++◌, take, drop, length, Option, option_map, unwrap_or, is_some, IfSome}

-- The bytes of each name that is held: a finite map, or None where the files do not tell what they hold.
abbrev pub Held : Type 0
Held = Option (List ℕ → Option (List ℕ))

-- what is left of a file that is read from its first byte: nothing where the name is not held
abbrev pub whole_of : Held → List ℕ → Option (List ℕ)
whole_of held name = option_map (λ (bytes_of : List ℕ → Option (List ℕ)). unwrap_or (bytes_of name) []) held

-- nothing is left, as where no file is open
abbrev pub nothing_left : Held → Option (List ℕ)
nothing_left held = option_map (λ _. []) held

-- a name is found exactly where it is held
abbrev pub IsFound : Held → List ℕ → Bool → Type 0
IsFound held name found = IfSome held (λ bytes_of. found ≡ is_some (bytes_of name))

-- The piece begins with the next bytes of what is left, as many as were read, and is else as before. For a piece that
-- is not empty none are read exactly where nothing is left.
pub record ReadsNext (left : List ℕ) (count : ℕ) (old new : List ℕ) : Type 0 where
  pub within : count ≤ length left
  pub bytes : new ≡ take count left ++ drop count old
  pub some : 0 < length old → count ≡ 0 → left ≡ []
