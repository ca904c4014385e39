-- LIKE: patterns with wildcards.
use Rattle.std.specs.Prelude.{ℕ, ◌==◌, ◌&&◌, Bool, true, false, List, [], ◌∷◌, if◌then◌else◌}
use Rattle.std.specs.List.{list_any}
use Rattle.std.specs.Str.{chars}

-- a part of a pattern: any run of characters, any one character, or a character itself
pub data Wildcard : Type 0 where
  any_run : Wildcard
  any_one : Wildcard
  itself : ℕ → Wildcard

-- what a character is that no backslash stands before
abbrev pub wildcard_of : ℕ → Wildcard
wildcard_of character = if character == 42 then any_run else (if character == 63 then any_one else itself character)

-- The parts of a pattern's characters, where a backslash stood before them or none. `*` is any run, `?` any one character, a
-- backslash makes the next character stand for itself, and a last lone backslash stands for itself.
abbrev pub wildcards_behind : Bool → List ℕ → List Wildcard
wildcards_behind true [] = itself 92 ∷ []
wildcards_behind true (character ∷ rest) = itself character ∷ wildcards_behind false rest
wildcards_behind false [] = []
wildcards_behind false (character ∷ rest) =
    if character == 92 then wildcards_behind true rest else wildcard_of character ∷ wildcards_behind false rest

abbrev pub wildcards : List ℕ → List Wildcard
wildcards pattern = wildcards_behind false (chars pattern)

-- a list and what is left of it behind each of its items
abbrev pub tails : List ℕ → List (List ℕ)
tails [] = [] ∷ []
tails (item ∷ items) = (item ∷ items) ∷ tails items

-- the characters are what the parts stand for, one after another
abbrev pub stands_for : List Wildcard → List ℕ → Bool
stands_for [] [] = true
stands_for [] (character ∷ characters) = false
stands_for (any_run ∷ parts) characters = list_any (stands_for parts) (tails characters)
stands_for (any_one ∷ parts) [] = false
stands_for (any_one ∷ parts) (character ∷ characters) = stands_for parts characters
stands_for (itself own ∷ parts) [] = false
stands_for (itself own ∷ parts) (character ∷ characters) = own == character && stands_for parts characters

-- LIKE: the pattern stands for the whole text
abbrev pub is_like : List ℕ → List ℕ → Bool
is_like pattern text = stands_for (wildcards pattern) (chars text)
