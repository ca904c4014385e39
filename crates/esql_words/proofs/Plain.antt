-- A word that does not begin with `-` is the operand, where it stands alone.
use Rattle.std.proofs.Common.{◌≡◌, ◌≢◌, ◌∙◌, ℕ, Bool, true, false, cond, List, [], ◌∷◌, ◌==◌, ◌&&◌, Option, Some, None, is_some, option_and_then, refl, ap, ap₂, slice_index}
use Rattle.std.specs.Option.{option_map_or}
use Rattle.std.specs.Str.{bytes_eq}
use Rattle.std.proofs.lemmas.Bool.Decides.{Decides-eqb}
use Rattle.clap.specs.Words.{Kinds, Rule, Shape, Text, fault_of, matches_of}
use Rattle.clap.specs.Lexer.{long_of, long_of_rest, short_of, short_of_rest, strip_byte}
use Rattle.clap.specs.Kinds.{or_else}
use Rattle.clap.specs.Simple.{App, built, entered}
use Rattle.clap.specs.Walk.{Held, Step, Walk, after_step, arg_by_index, finished, idle, long_or_other, nothing_held, rows_after, settled, short_or_plain, to_positional, trailing, value, walk, walk_from, walked, word_met}
use Rattle.clap.specs.Faults.{built_fault, bundle_fault, check_fault, defaults_fault, entered_fault, flag_word_fault, settle_fault, step_fault, walk_fault, word_fault}
use Rattle.clap.proofs.OnLiterals.{clap_on_literals}
use Rattle.esql_words.specs.Command.{Given, esql_app, given_in, given_of, given_unless}
use Rattle.esql_words.specs.Words.{options_alone, options_in, options_of}

record IsPlain (word : Text) : Type 0 where
  long : long_of word ≡ None
  short : short_of word ≡ None
  other : bytes_eq word (45 ∷ 45 ∷ []) ≡ false

eqb-differs : (b : Bool) → (b ≡ true → ⊥) → b ≡ false
eqb-differs true differs = absurd (differs refl)
eqb-differs false differs = refl

plain-by : (c : ℕ) (cs : Text) → (c == 45) ≡ false → IsPlain (c ∷ cs)
plain-by c cs e =
    let strip : strip_byte 45 (c ∷ cs) ≡ None = ap (λ (b : Bool). cond b (Some cs) None) e in
    record {
      long = ap (λ (o : Option Text). option_and_then long_of_rest (option_and_then (strip_byte 45) o)) strip;
      short = ap (λ (o : Option Text). option_and_then short_of_rest o) strip;
      other = ap (λ (b : Bool). b && bytes_eq cs (45 ∷ [])) e;
    }

plain : (word : Text) → slice_index word 0 ≢ 45 → IsPlain word
plain [] differs = record { long = refl; short = refl; other = refl }
plain (c ∷ cs) differs = plain-by c cs (eqb-differs (c == 45) (λ e. differs ((Decides-eqb c 45).0 e)))

-- ---- the walk over the word

met-plain : (c : List Rule) (h : Held) (word : Text) → IsPlain word → word_met c [] false idle 1 word h ≡ (h, value)
met-plain c h word is =
    ap (λ (b : Bool). cond b (h, trailing 1) (long_or_other c idle word (long_of word) h)) is.other
    ∙ ap (λ (l : Option (Text × Option Text)). long_or_other c idle word l h) is.long
    ∙ ap (λ (s : Option Text). short_or_plain c idle word s h) is.short

fault-plain : (s : Shape) (h : Held) (word : Text) → IsPlain word → word_fault s [] false idle word h ≡ []
fault-plain s h word is =
    let again = s.args_override_self in
    ap (λ (b : Bool). cond b [] (flag_word_fault s.rules again (long_of word) word h)) is.other
    ∙ ap (λ (l : Option (Text × Option Text)). flag_word_fault s.rules again l word h) is.long
    ∙ ap (λ (f : Option Text). option_map_or (λ flags. bundle_fault s.rules again flags h) f []) is.short

-- the walk after the word, and its faults
end_of : List Rule → Text → Walk
end_of c word = to_positional c (arg_by_index c 1) word (walk_from nothing_held) nothing_held

faults_at : Shape → Kinds
faults_at s = or_else (or_else [] (step_fault s 1 nothing_held value)) []

walk-plain : (c : List Rule) (word : Text) → IsPlain word → walk c [] nothing_held (word ∷ []) ≡ end_of c word
unfolding walked end_of
walk-plain c word is = ap (λ (met : Held × Step). after_step c word (walk_from nothing_held) met.0 met.1) (met-plain c nothing_held word is)

walk_fault-plain : (s : Shape) (word : Text) → IsPlain word → walk_fault s [] (walk_from nothing_held) (word ∷ []) ≡ faults_at s
unfolding walk_fault faults_at
walk_fault-plain s word is =
    ap₂ (λ (faults : Kinds) (met : Held × Step). or_else (or_else faults (step_fault s 1 met.0 met.1)) [])
    (fault-plain s nothing_held word is) (met-plain s.rules nothing_held word is)

abbrev leaf : Shape → App
leaf s = record { top = s; subs = [] }

-- the faults of a command without subcommands, by its walk and what is wrong on the way
level : Shape → Walk → Kinds → Kinds
level s w faults =
    or_else faults (or_else (entered_fault (leaf s) w.stopped)
    (or_else (settle_fault s.rules s.args_override_self w.held)
    (or_else (defaults_fault (settled s.rules w.held).rows s.rules)
    (check_fault s (finished s.rules w.held) (is_some (entered (leaf s) w.stopped))))))

built_fault-plain : (s : Shape) (word : Text) → IsPlain word → built_fault (leaf s) nothing_held (word ∷ []) ≡ level s (end_of s.rules word) (faults_at s)
unfolding level
built_fault-plain s word is = ap₂ (level s) (walk-plain s.rules word is) (walk_fault-plain s word is)

rows-plain : (c : List Rule) (word : Text) → IsPlain word → rows_after c [] (word ∷ []) ≡ finished c (end_of c word).held
rows-plain c word is = ap (λ (w : Walk). finished c w.held) (walk-plain c word is)

-- ---- the command

top : Shape
top = (built esql_app).top

given_alone : Text → Given
given_alone word = record { folder = None; page_size = None; format = None; generate = None; explain = false; query = Some word }

faultless : (word : Text) → level top (end_of top.rules word) (faults_at top) ≡ []
unfolding level end_of faults_at top esql_app clap_on_literals
faultless word = refl

found : (word : Text) → given_in (finished top.rules (end_of top.rules word).held) ≡ given_alone word
unfolding end_of top given_alone esql_app clap_on_literals
found word = refl

fault_of-plain : (word : Text) → IsPlain word → fault_of esql_app (word ∷ []) ≡ []
unfolding top esql_app
fault_of-plain word is = built_fault-plain top word is ∙ faultless word

matches_of-plain : (word : Text) → IsPlain word → matches_of esql_app (word ∷ []) ≡ finished top.rules (end_of top.rules word).held
unfolding top esql_app
matches_of-plain word is = rows-plain top.rules word is

given_of-plain : (word : Text) → IsPlain word → given_of esql_app (word ∷ []) ≡ Some (given_alone word)
unfolding given_of
given_of-plain word is =
    ap₂ given_unless (fault_of-plain word is) (matches_of-plain word is) ∙ ap (λ (given : Given). Some given) (found word)

pub options_of-plain : (word : Text) → slice_index word 0 ≢ 45 → options_of (word ∷ []) ≡ Some (options_alone word)
unfolding options_of given_alone
options_of-plain word differs = ap (option_and_then options_in) (given_of-plain word (plain word differs))
