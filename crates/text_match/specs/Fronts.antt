-- The parts of a LIKE pattern before its first run.
use Rattle.std.specs.Prelude.{◌≡◌, ℕ, Bool, true, false, List, [], ◌∷◌, ◌++◌}
use Rattle.std.specs.List.{list_any}
use Rattle.std.specs.Str.{chars}
use Rattle.function_rules.specs.Wildcards.{Wildcard, any_run, any_one, itself, wildcards, stands_for, tails}
use Rattle.text_match.specs.declared.parts.Part.{Part}
use Rattle.text_match.specs.declared.parts.Part.TheVariants.{AnyRun, AnyOne, Itself}
use Rattle.text_match.specs.declared.wildcards.Front.{Front}
use Rattle.text_match.specs.declared.wildcards.Front.TheVariants.{Whole, Differs, Run}

-- the part of the definition that a part of a pattern is
abbrev pub wildcard_in : Part → Wildcard
wildcard_in AnyRun = any_run
wildcard_in AnyOne = any_one
wildcard_in (Itself own) = itself own

-- the parts stand for some end of the characters
abbrev pub stand_for_end : List Wildcard → List ℕ → Bool
stand_for_end parts characters = list_any (stands_for parts) (tails characters)

-- no pattern that begins with the part stands for an end of the characters
abbrev pub NoEnd : Wildcard → List ℕ → Type 0
NoEnd part characters = (parts : List Wildcard) → stand_for_end (part ∷ parts) characters ≡ false

-- a pattern that begins with the part stands for an end of the characters exactly where it does for one of the others
abbrev pub SameEnds : Wildcard → List ℕ → List ℕ → Type 0
SameEnds part characters others = (parts : List Wildcard) → stand_for_end (part ∷ parts) characters ≡ stand_for_end (part ∷ parts) others

-- none of the parts is a run
abbrev pub have_no_run : List Wildcard → Bool
have_no_run [] = true
have_no_run (any_run ∷ parts) = false
have_no_run (any_one ∷ parts) = have_no_run parts
have_no_run (itself own ∷ parts) = have_no_run parts

-- parts without a run stand for some characters, and these parts and characters are what is before others
pub record Stood (parts : List Wildcard) (characters : List ℕ) (parts_left : List Wildcard) (left : List ℕ) : Type 0 where
  pub fixed : List Wildcard
  pub taken : List ℕ
  pub no_run : have_no_run fixed ≡ true
  pub stands : stands_for fixed taken ≡ true
  pub parts_are : parts ≡ fixed ++ parts_left
  pub characters_are : characters ≡ taken ++ left

-- what the parts before the first run say of the characters
abbrev pub FrontIs : List Wildcard → List ℕ → Front → Type 0
FrontIs parts characters Whole = stands_for parts characters ≡ true
FrontIs parts characters Differs = stands_for parts characters ≡ false
FrontIs parts characters (Run pattern text) = Stood parts characters (any_run ∷ wildcards pattern.now) (chars text.now)
