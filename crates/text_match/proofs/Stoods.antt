-- One more character for which the next part stands, and what is known at a run and at the end.
use Rattle.std.proofs.Common.{◌≡◌, ◌≢◌, ℕ, ◌==◌, ◌&&◌, ◌<◌, ◌+◌, ◌||◌, true, false, List, [], ◌∷◌, ◌++◌, length, refl, sym, ap, ap₂, ◌∙◌, arith}
use Rattle.std.proofs.lemmas.Bool.{and_left, ne_eqb}
use Rattle.std.specs.Str.{chars, encode_utf8_all, IsUtf8}
use Rattle.std.proofs.lemmas.Str.{chars-nil, encodes-chars}
use Rattle.std.proofs.lemmas.List.{append_assoc, length-append, nil_from_length}
use Rattle.function_rules.specs.Wildcards.{Wildcard, any_run, any_one, itself, stands_for}
use Rattle.function_rules.proofs.Tails.{nothing_left}
use Rattle.text_match.specs.Fronts.{wildcard_in, stand_for_end, NoEnd, SameEnds, have_no_run, Stood}
use Rattle.text_match.specs.declared.parts.Part.{Part}
use Rattle.text_match.proofs.Runs.{behind_fixed, first_suffices}

no_run_then : (fixed : List Wildcard) (part : Wildcard) → have_no_run fixed ≡ true → have_no_run (part ∷ []) ≡ true →
    have_no_run (fixed ++ part ∷ []) ≡ true
no_run_then [] part no_run one = one
no_run_then (any_run ∷ fixed) part no_run one = absurd cc
no_run_then (any_one ∷ fixed) part no_run one = no_run_then fixed part no_run one
no_run_then (itself own ∷ fixed) part no_run one = no_run_then fixed part no_run one

pub nothing_stood : (parts : List Wildcard) (characters : List ℕ) → Stood parts characters parts characters
nothing_stood parts characters = record {
  fixed = [];
  taken = [];
  no_run = refl;
  stands = refl;
  parts_are = refl;
  characters_are = refl;
}

module _ (parts : List Wildcard) (characters : List ℕ) where
  one_more : (part : Wildcard) (rest : List Wildcard) (character : ℕ) (left : List ℕ) → have_no_run (part ∷ []) ≡ true →
      stands_for (part ∷ []) (character ∷ []) ≡ true → Stood parts characters (part ∷ rest) (character ∷ left) → Stood parts characters rest left
  one_more part rest character left no_run one stood = record {
    fixed = stood.fixed ++ part ∷ [];
    taken = stood.taken ++ character ∷ [];
    no_run = no_run_then stood.fixed part stood.no_run no_run;
    stands = behind_fixed stood.fixed (part ∷ []) stood.taken (character ∷ []) stood.no_run stood.stands ∙ one;
    parts_are = stood.parts_are ∙ sym (append_assoc stood.fixed (part ∷ []) rest);
    characters_are = stood.characters_are ∙ sym (append_assoc stood.taken (character ∷ []) left);
  }

  pub any_stood : (ps rest : List Wildcard) (cs left : List ℕ) (character : ℕ) → ps ≡ any_one ∷ rest → cs ≡ character ∷ left →
      Stood parts characters ps cs → Stood parts characters rest left
  any_stood ps rest cs left character e f stood = one_more any_one rest character left refl refl (rw (e, f) at stood)

  pub itself_stood : (ps rest : List Wildcard) (cs left : List ℕ) (own character : ℕ) → ps ≡ itself own ∷ rest → cs ≡ character ∷ left →
      character ≡ own → Stood parts characters ps cs → Stood parts characters rest left
  itself_stood ps rest cs left own character e f same stood =
      one_more (itself own) rest character left refl (grind arith) (rw (e, f) at stood)

  pub stood_same : (ps : List Wildcard) (cs : List ℕ) → Stood parts characters ps cs → stands_for parts characters ≡ stands_for ps cs
  stood_same ps cs stood =
      ap₂ stands_for stood.parts_are stood.characters_are ∙ behind_fixed stood.fixed ps stood.taken cs stood.no_run stood.stands

  pub stood_some : (ps : List Wildcard) (cs : List ℕ) → Stood parts characters (any_run ∷ ps) cs →
      stand_for_end parts characters ≡ stand_for_end ps cs
  stood_some ps cs stood =
      ap₂ stand_for_end stood.parts_are stood.characters_are
      ∙ first_suffices stood.fixed ps stood.taken cs stood.no_run stood.stands

  pub stood_shorter : (ps : List Wildcard) (cs : List ℕ) → Stood parts characters (any_run ∷ ps) cs →
      length ps + length cs < length parts + length characters
  stood_shorter ps cs stood =
      let parts_length = ap length stood.parts_are ∙ length-append stood.fixed (any_run ∷ ps) in
      let characters_length = ap length stood.characters_are ∙ length-append stood.taken cs in
      omega (arith, parts_length, characters_length)

-- the next part, where it is known which one it is
pub next_is : (parts rest : List Wildcard) (part known : Part) → parts ≡ wildcard_in part ∷ rest → part ≡ known → parts ≡ wildcard_in known ∷ rest
next_is parts rest part known e same = e ∙ ap (λ first. wildcard_in first ∷ rest) same

pub from_place : (parts rest : List Wildcard) (part : Wildcard) (characters others : List ℕ) → parts ≡ part ∷ rest →
    SameEnds part characters others → stand_for_end parts characters ≡ stand_for_end parts others
from_place parts rest part characters others e same =
    ap (λ all. stand_for_end all characters) e ∙ same rest ∙ ap (λ all. stand_for_end all others) (sym e)

-- behind a run, an empty pattern
pub none_behind : (parts : List Wildcard) (characters : List ℕ) → parts ≡ [] → stand_for_end parts characters ≡ true
none_behind parts characters none = ap (λ all. stand_for_end all characters) none ∙ nothing_left characters

-- the search for a character
pub passes_other : (own character : ℕ) (characters rest : List ℕ) → characters ≡ character ∷ rest → character ≢ own →
    SameEnds (itself own) characters rest
passes_other own character characters rest e other parts =
    ap (stand_for_end (itself own ∷ parts)) e
    ∙ ap (λ first. (first && stands_for parts rest) || stand_for_end (itself own ∷ parts) rest) (ne_eqb own character (λ same. other (sym same)))

pub none_found : (own : ℕ) (characters others : List ℕ) → SameEnds (itself own) characters others → others ≡ [] → NoEnd (itself own) characters
none_found own characters others same none parts = same parts ∙ ap (stand_for_end (itself own ∷ parts)) none

no_characters : (text : List ℕ) → IsUtf8 text → chars text ≡ [] → text ≡ []
no_characters text utf8 none = sym (encodes-chars text utf8) ∙ ap encode_utf8_all none

not_empty : (text : List ℕ) → IsUtf8 text → length text ≢ 0 → (characters : List ℕ) → characters ≡ chars text → stands_for [] characters ≡ false
not_empty text utf8 some [] same = absurd (some (ap length (no_characters text utf8 (sym same))))
not_empty text utf8 some (character ∷ characters) same = refl

-- no part is left
pub at_end : (parts : List Wildcard) (text : List ℕ) → parts ≡ [] → length text ≡ 0 → stands_for parts (chars text) ≡ true
at_end parts text none empty = ap₂ stands_for none (ap chars (nil_from_length text empty) ∙ chars-nil)

pub before_end : (parts : List Wildcard) (text : List ℕ) → IsUtf8 text → parts ≡ [] → length text ≢ 0 → stands_for parts (chars text) ≡ false
before_end parts text utf8 none some = ap (λ all. stands_for all (chars text)) none ∙ not_empty text utf8 some (chars text) refl

-- the next part does not stand for the next character
pub any_differs : (parts rest : List Wildcard) (characters : List ℕ) → parts ≡ any_one ∷ rest → characters ≡ [] → stands_for parts characters ≡ false
any_differs parts rest characters e none = ap₂ stands_for e none

pub none_differs : (parts rest : List Wildcard) (characters : List ℕ) (own : ℕ) → parts ≡ itself own ∷ rest → characters ≡ [] →
    stands_for parts characters ≡ false
none_differs parts rest characters own e none = ap₂ stands_for e none

pub other_differs : (parts rest : List Wildcard) (characters left : List ℕ) (own character : ℕ) → parts ≡ itself own ∷ rest →
    characters ≡ character ∷ left → character ≢ own → stands_for parts characters ≡ false
other_differs parts rest characters left own character e f other =
    ap₂ stands_for e f ∙ and_left (own == character) _ (ne_eqb own character (λ same. other (sym same)))
