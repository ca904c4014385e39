-- The parts of a pattern of names before its first run.
use Rattle.std.specs.Prelude.{◌≡◌, ℕ, Bool, true, false, List, [], ◌∷◌, ◌++◌}
use Rattle.std.specs.List.{list_any}
use Rattle.std.specs.Str.{chars}
use Rattle.name_rules.specs.NameRules.{NamePart, any_run, itself, parts_of, stands_for, tails}
use Rattle.name_rules.specs.declared.like.Front.{Front}
use Rattle.name_rules.specs.declared.like.Front.TheVariants.{Whole, Differs, Run}

-- the parts stand for some end of the characters
abbrev pub stand_for_end : List NamePart → List ℕ → Bool
stand_for_end parts characters = list_any (stands_for parts) (tails characters)

-- none of the parts is a run
abbrev pub have_no_run : List NamePart → Bool
have_no_run [] = true
have_no_run (any_run ∷ parts) = false
have_no_run (itself own ∷ parts) = have_no_run parts

-- parts without a run stand for some characters, and these parts and characters are what is before others
pub record Stood (parts : List NamePart) (characters : List ℕ) (parts_left : List NamePart) (left : List ℕ) : Type 0 where
  pub fixed : List NamePart
  pub taken : List ℕ
  pub no_run : have_no_run fixed ≡ true
  pub stands : stands_for fixed taken ≡ true
  pub parts_are : parts ≡ fixed ++ parts_left
  pub characters_are : characters ≡ taken ++ left

-- what the parts before the first run say of the characters
abbrev pub FrontIs : List NamePart → List ℕ → Front → Type 0
FrontIs parts characters Whole = stands_for parts characters ≡ true
FrontIs parts characters Differs = stands_for parts characters ≡ false
FrontIs parts characters (Run pattern name) = Stood parts characters (any_run ∷ parts_of pattern.now) (chars name.now)
