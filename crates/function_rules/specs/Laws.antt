-- What is known of LIKE patterns.
use Rattle.std.specs.Prelude.{◌≡◌, ℕ, ◌==◌, ◌&&◌, not, Bool, true, false, List, [], ◌∷◌, ◌++◌}
use Rattle.function_rules.specs.Wildcards.{Wildcard, stands_for}

-- a character that is neither `*` nor `?` nor a backslash
abbrev pub is_plain : ℕ → Bool
is_plain character = not (character == 42) && (not (character == 63) && not (character == 92))

-- the characters end in a lone backslash, where one waited before them for a character or none did
abbrev pub end_open : Bool → List ℕ → Bool
end_open waits [] = waits
end_open true (character ∷ rest) = end_open false rest
end_open false (character ∷ rest) = end_open (character == 92) rest

-- the characters are some that the parts before stand for, a run, and some that the parts behind stand for
pub record IsCut (before behind : List Wildcard) (characters : List ℕ) : Type 0 where
  pub first : List ℕ
  pub run : List ℕ
  pub last : List ℕ
  pub characters_are : characters ≡ first ++ (run ++ last)
  pub first_stands : stands_for before first ≡ true
  pub last_stands : stands_for behind last ≡ true
