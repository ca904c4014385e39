-- One more character for which the next part stands, and what is known at a run and at the end.
use Rattle.std.proofs.Common.{◌≡◌, ◌≢◌, ℕ, ◌==◌, ◌<◌, ◌+◌, ◌||◌, true, false, List, [], ◌∷◌, ◌++◌, length, refl, sym, ap, ap₂, ◌∙◌, arith, map}
use Rattle.std.proofs.lemmas.Bool.{and_left, ne_eqb, or_left}
use Rattle.std.specs.Str.{chars, encode_utf8_all, IsUtf8}
use Rattle.std.proofs.lemmas.Str.{chars-nil, encodes-chars}
use Rattle.std.proofs.lemmas.List.{append_assoc, length-append, nil_from_length}
use Rattle.name_rules.specs.NameRules.{NamePart, any_run, itself, part_of, parts_of, stands_for}
use Rattle.name_rules.specs.NameFronts.{stand_for_end, have_no_run, Stood}
use Rattle.name_rules.proofs.NameTails.{nothing_left}
use Rattle.name_rules.proofs.NameRuns.{behind_fixed, first_suffices}

no_run_then : (fixed : List NamePart) (part : NamePart) → have_no_run fixed ≡ true → have_no_run (part ∷ []) ≡ true →
    have_no_run (fixed ++ part ∷ []) ≡ true
no_run_then [] part no_run one = one
no_run_then (any_run ∷ fixed) part no_run one = absurd cc
no_run_then (itself own ∷ fixed) part no_run one = no_run_then fixed part no_run one

pub nothing_stood : (parts : List NamePart) (characters : List ℕ) → Stood parts characters parts characters
nothing_stood parts characters = record {
  fixed = [];
  taken = [];
  no_run = refl;
  stands = refl;
  parts_are = refl;
  characters_are = refl;
}

-- the first part of a pattern whose first character is known
pub run_first : (pattern rest : List ℕ) (own : ℕ) → chars pattern ≡ own ∷ chars rest → own ≡ 42 → parts_of pattern ≡ any_run ∷ parts_of rest
run_first pattern rest own is same = grind arith

pub itself_first : (pattern rest : List ℕ) (own : ℕ) → chars pattern ≡ own ∷ chars rest → own ≢ 42 → parts_of pattern ≡ itself own ∷ parts_of rest
itself_first pattern rest own is other = grind arith

module _ (parts : List NamePart) (characters : List ℕ) where
  pub itself_stood : (ps rest : List NamePart) (cs left : List ℕ) (own character : ℕ) → ps ≡ itself own ∷ rest → cs ≡ character ∷ left →
      character ≡ own → Stood parts characters ps cs → Stood parts characters rest left
  itself_stood ps rest cs left own character e f same stood = record {
    fixed = stood.fixed ++ itself own ∷ [];
    taken = stood.taken ++ character ∷ [];
    no_run = no_run_then stood.fixed (itself own) stood.no_run refl;
    stands = behind_fixed stood.fixed (itself own ∷ []) stood.taken (character ∷ []) stood.no_run stood.stands ∙ grind arith;
    parts_are = stood.parts_are ∙ ap (λ left. stood.fixed ++ left) e ∙ sym (append_assoc stood.fixed (itself own ∷ []) rest);
    characters_are = stood.characters_are ∙ ap (λ left. stood.taken ++ left) f ∙ sym (append_assoc stood.taken (character ∷ []) left);
  }

  pub run_stood : (ps rest : List NamePart) (cs : List ℕ) → ps ≡ any_run ∷ rest → Stood parts characters ps cs → Stood parts characters (any_run ∷ rest) cs
  run_stood ps rest cs e stood = rw e at stood

  pub stood_same : (ps : List NamePart) (cs : List ℕ) → Stood parts characters ps cs → stands_for parts characters ≡ stands_for ps cs
  stood_same ps cs stood =
      ap₂ stands_for stood.parts_are stood.characters_are ∙ behind_fixed stood.fixed ps stood.taken cs stood.no_run stood.stands

  pub stood_some : (ps : List NamePart) (cs : List ℕ) → Stood parts characters (any_run ∷ ps) cs →
      stand_for_end parts characters ≡ stand_for_end ps cs
  stood_some ps cs stood =
      ap₂ stand_for_end stood.parts_are stood.characters_are
      ∙ first_suffices stood.fixed ps stood.taken cs stood.no_run stood.stands

  pub stood_shorter : (ps : List NamePart) (cs : List ℕ) → Stood parts characters (any_run ∷ ps) cs →
      length ps + length cs < length parts + length characters
  stood_shorter ps cs stood =
      let parts_length = ap length stood.parts_are ∙ length-append stood.fixed (any_run ∷ ps) in
      let characters_length = ap length stood.characters_are ∙ length-append stood.taken cs in
      omega (arith, parts_length, characters_length)

-- behind a run, an empty pattern
pub none_behind : (parts : List NamePart) (characters : List ℕ) → parts ≡ [] → stand_for_end parts characters ≡ true
none_behind parts characters none = ap (λ all. stand_for_end all characters) none ∙ nothing_left characters

-- parts that stand for the whole name stand for an end of it
pub whole_is_end : (parts : List NamePart) (characters : List ℕ) → stands_for parts characters ≡ true → stand_for_end parts characters ≡ true
whole_is_end parts [] stands = or_left _ _ stands
whole_is_end parts (character ∷ characters) stands = or_left _ _ stands

-- parts that do not stand for the whole name stand for an end of it where they do for an end of what is behind a character
pub end_behind : (parts : List NamePart) (characters : List ℕ) (character : ℕ) (rest : List ℕ) → stands_for parts characters ≡ false →
    characters ≡ character ∷ rest → stand_for_end parts characters ≡ stand_for_end parts rest
end_behind parts characters character rest differs is =
    ap (stand_for_end parts) is ∙ ap (λ first. first || stand_for_end parts rest) (ap (stands_for parts) (sym is) ∙ differs)

pub no_end : (parts : List NamePart) (characters : List ℕ) → stands_for parts characters ≡ false → characters ≡ [] → stand_for_end parts characters ≡ false
no_end parts characters differs none =
    ap (stand_for_end parts) none ∙ ap (λ first. first || false) (ap (stands_for parts) (sym none) ∙ differs)

no_characters : (text : List ℕ) → IsUtf8 text → chars text ≡ [] → text ≡ []
no_characters text utf8 none = sym (encodes-chars text utf8) ∙ ap encode_utf8_all none

not_empty : (text : List ℕ) → IsUtf8 text → length text ≢ 0 → (characters : List ℕ) → characters ≡ chars text → stands_for [] characters ≡ false
not_empty text utf8 some [] same = absurd (some (ap length (no_characters text utf8 (sym same))))
not_empty text utf8 some (character ∷ characters) same = refl

-- an empty text has no parts
pub no_parts : (text : List ℕ) → length text ≡ 0 → parts_of text ≡ []
no_parts text empty = ap parts_of (nil_from_length text empty) ∙ ap (map part_of) chars-nil

pub no_parts_left : (text : List ℕ) → chars text ≡ [] → parts_of text ≡ []
no_parts_left text none = ap (map part_of) none

-- no part is left
pub at_end : (parts : List NamePart) (text : List ℕ) → parts ≡ [] → length text ≡ 0 → stands_for parts (chars text) ≡ true
at_end parts text none empty = ap₂ stands_for none (ap chars (nil_from_length text empty) ∙ chars-nil)

pub before_end : (parts : List NamePart) (text : List ℕ) → IsUtf8 text → parts ≡ [] → length text ≢ 0 → stands_for parts (chars text) ≡ false
before_end parts text utf8 none some = ap (λ all. stands_for all (chars text)) none ∙ not_empty text utf8 some (chars text) refl

-- the next part does not stand for the next character
pub none_differs : (parts rest : List NamePart) (characters : List ℕ) (own : ℕ) → parts ≡ itself own ∷ rest → characters ≡ [] →
    stands_for parts characters ≡ false
none_differs parts rest characters own e none = ap₂ stands_for e none

pub other_differs : (parts rest : List NamePart) (characters left : List ℕ) (own character : ℕ) → parts ≡ itself own ∷ rest →
    characters ≡ character ∷ left → character ≢ own → stands_for parts characters ≡ false
other_differs parts rest characters left own character e f other =
    ap₂ stands_for e f ∙ and_left (own == character) _ (ne_eqb own character (λ same. other (sym same)))
