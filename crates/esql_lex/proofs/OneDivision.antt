-- A text has at most one list of tokens, or one fault.
use Rattle.std.proofs.Common.{◌≡◌, Result, Ok, Err, ℕ, ◌+◌, ◌<◌, List, [], ◌∷◌, ◌++◌, length, Option, Some, None, refl, sym, ap, ◌∙◌, subst, inl, inr, arith, length-append}
use Rattle.std.proofs.lemmas.Bool.{false≢true}
use Rattle.std.proofs.lemmas.List.{append-nil}
use Rattle.esql_lex.specs.declared.error.LexError.{LexError}
use Rattle.esql_lex.specs.declared.error.LexError.TheVariants.{BadCharacter, OpenString, BadEscape, OpenComment, WideNumber, Memory}
use Rattle.esql_lex.specs.declared.mode.Mode.{Mode}
use Rattle.esql_lex.specs.declared.mode.Mode.TheVariants.{Plain, Source, Pattern}
use Rattle.esql_lex.specs.declared.mode.State.{State}
use Rattle.esql_lex.specs.declared.mode.State.TheVariants.{First}
use Rattle.esql_lex.specs.declared.token.Token.{Token}
use Rattle.esql_lex.specs.declared.token.TokenKind.{TokenKind}
use Rattle.esql_lex.specs.Forms.{form_at}
use Rattle.esql_lex.specs.Gaps.{SplitsGap}
use Rattle.esql_lex.specs.Modes.{mode_of}
use Rattle.esql_lex.specs.Tokens.{BeginsWithSlice, BeginsWith, Divides, Tokens, LexFault, IsFaultAt, IsInRange, end_at, state_past, Lexes, IsTokensOrMemory, IsFaultOrMemory}
use Rattle.esql_lex.proofs.Lists.{fronts}
use Rattle.esql_lex.proofs.Pieces.{gap_same}
use Rattle.esql_lex.proofs.Opened.{bad_escape_no_slice, bad_escape_opens, opens_no_comment, comment_no_form, open_comment_begins}
use Rattle.esql_lex.proofs.Slices.{slice_length}

-- two descriptions of what a text begins with are one
pub record SameSlice (slice slice' : List ℕ) (kind kind' : TokenKind) (after after' : List ℕ) : Type 0 where
  pub slices : slice ≡ slice'
  pub kinds : kind ≡ kind'
  pub afters : after ≡ after'

longer_same : (f : List ℕ → Option TokenKind) (text s s' more a a' : List ℕ) (k k' : TokenKind) → BeginsWithSlice f text s k a → BeginsWithSlice f text s' k' a'
    → s' ≡ s ++ more → a ≡ more ++ a' → SameSlice s s' k k' a a'
longer_same form text s s' more a a' k k' b b' e f =
    let none : more ≡ [] = b.longest more a' k' f (sym (ap form e) ∙ b'.has_form) in
    let same : s ≡ s' = sym (e ∙ ap (λ m. s ++ m) none ∙ append-nil s) in
    let kinds : Some k ≡ Some k' = sym b.has_form ∙ ap form same ∙ b'.has_form in
    record { slices = same; kinds = cc; afters = f ∙ ap (λ m. m ++ a') none }

slice_same : (f : List ℕ → Option TokenKind) (text s s' a a' : List ℕ) (k k' : TokenKind) → BeginsWithSlice f text s k a → BeginsWithSlice f text s' k' a' → SameSlice s s' k k' a a'
slice_same form text s s' a a' k k' b b' =
    elim (fronts s s' a a' (sym b.cut ∙ b'.cut)) [
      | inl m ↦ longer_same form text s s' m.0 a a' k k' b b' m.1 m.2
      | inr m ↦ (let other : SameSlice s' s k' k a' a = longer_same form text s' s m.0 a' a k' k b' b m.1 m.2 in
          record { slices = sym other.slices; kinds = sym other.kinds; afters = sym other.afters })
    ]

token_same : (t u : Token) → t.kind ≡ u.kind → t.span.from ≡ u.span.from → t.span.to ≡ u.span.to → t ≡ u
token_same t u e f g =
    let first : record { kind = t.kind; span = record { from = t.span.from; to = t.span.to } } ≡ record { kind = u.kind; span = record { from = t.span.from; to = t.span.to } } = ap (λ k. record { kind = k; span = record { from = t.span.from; to = t.span.to } }) e in
    let second : record { kind = u.kind; span = record { from = t.span.from; to = t.span.to } } ≡ record { kind = u.kind; span = record { from = u.span.from; to = t.span.to } } = ap (λ n. record { kind = u.kind; span = record { from = n; to = t.span.to } }) f in
    let third : record { kind = u.kind; span = record { from = u.span.from; to = t.span.to } } ≡ record { kind = u.kind; span = record { from = u.span.from; to = u.span.to } } = ap (λ n. record { kind = u.kind; span = record { from = u.span.from; to = n } }) g in
    first ∙ second ∙ third

begins_same : (mode : Mode) (at : ℕ) (text a a' : List ℕ) (t u : Token) → BeginsWith mode at text t a → BeginsWith mode at text u a' → (t ≡ u) × (a ≡ a')
begins_same mode at text a a' t u b b' =
    let same : SameSlice b.slice b'.slice t.kind u.kind a a' = slice_same (form_at mode text) text b.slice b'.slice a a' t.kind u.kind b.begins b'.begins in
    (token_same t u same.kinds (b.from ∙ sym b'.from) (b.to ∙ ap (λ s. at + length s) same.slices ∙ sym b'.to), same.afters)

-- no token follows
abbrev Stops : Mode → List ℕ → Type 0
Stops mode rest = (gap back after : List ℕ) (place : ℕ) (token : Token) → SplitsGap rest gap back → BeginsWith mode place back token after → ⊥

-- two divisions that no token follows are one
record SameDivision (ts us : List Token) (last last' : State) (to to' : ℕ) (rest rest' : List ℕ) : Type 0 where
  tokens : ts ≡ us
  lasts : last ≡ last'
  tos : to ≡ to'
  rests : rest ≡ rest'

one_division : (ts us : List Token) (state : State) (at : ℕ) (last last' : State) (to to' : ℕ) (text rest rest' : List ℕ) → Divides ts state at text last to rest → Divides us state at text last' to' rest'
    → Stops (mode_of last) rest → Stops (mode_of last') rest' → SameDivision ts us last last' to to' rest rest'
one_division [] [] state at last last' to to' text rest rest' d d' s s' = record { tokens = refl; lasts = d.0 ∙ sym d'.0; tos = d.1 ∙ sym d'.1; rests = d.2 ∙ sym d'.2 }
one_division [] (u ∷ us) state at last last' to to' text rest rest' d d' s s' =
    absurd (s d'.0 d'.1 d'.2 (at + length d'.0) u (subst (λ xs. SplitsGap xs d'.0 d'.1) (sym d.2) d'.3) (subst (λ st. BeginsWith (mode_of st) (at + length d'.0) d'.1 u d'.2) (sym d.0) d'.4))
one_division (t ∷ ts) [] state at last last' to to' text rest rest' d d' s s' =
    absurd (s' d.0 d.1 d.2 (at + length d.0) t (subst (λ xs. SplitsGap xs d.0 d.1) (sym d'.2) d.3) (subst (λ st. BeginsWith (mode_of st) (at + length d.0) d.1 t d.2) (sym d'.0) d.4))
one_division (t ∷ ts) (u ∷ us) state at last last' to to' text rest rest' d d' s s' =
    let gaps : (d.0 ≡ d'.0) × (d.1 ≡ d'.1) = gap_same text d.0 d'.0 d.1 d'.1 d.3 d'.3 in
    let begins : BeginsWith (mode_of state) (at + length d.0) d.1 u d'.2 =
    subst (λ n. BeginsWith (mode_of state) n d.1 u d'.2) (ap (λ g. at + length g) (sym gaps.0)) (subst (λ xs. BeginsWith (mode_of state) (at + length d'.0) xs u d'.2) (sym gaps.1) d'.4) in
    let same : (t ≡ u) × (d.2 ≡ d'.2) = begins_same (mode_of state) (at + length d.0) d.1 d.2 d'.2 t u d.4 begins in
    let states : state_past state u d'.1 ≡ state_past state t d.1 = ap (λ v. state_past state v d'.1) (sym same.0) ∙ ap (state_past state t) (sym gaps.1) in
    let other : Divides us (state_past state t d.1) t.span.to d.2 last' to' rest' =
    subst (λ st. Divides us st t.span.to d.2 last' to' rest') states
    (subst (λ n. Divides us (state_past state u d'.1) n d.2 last' to' rest') (ap (λ v. v.span.to) (sym same.0)) (subst (λ xs. Divides us (state_past state u d'.1) u.span.to xs last' to' rest') (sym same.1) d'.5)) in
    let more : SameDivision ts us last last' to to' rest rest' = one_division ts us (state_past state t d.1) t.span.to last last' to to' d.2 rest rest' d.5 other s s' in
    record { tokens = ap (λ v. v ∷ ts) same.0 ∙ ap (λ vs. u ∷ vs) more.tokens; lasts = more.lasts; tos = more.tos; rests = more.rests }

no_slice_at_end : (mode : Mode) (place : ℕ) (token : Token) (after : List ℕ) → BeginsWith mode place [] token after → ⊥
no_slice_at_end mode place token after b =
    let some : 0 < length b.slice = slice_length mode [] b.slice token.kind b.begins.has_form in
    let none : length b.slice + length after ≡ 0 = sym (ap length b.begins.cut ∙ length-append b.slice after) in
    omega (arith, some, none)

-- what stands after a gap that runs to the end
gap_to_end : (rest gap back : List ℕ) → SplitsGap rest rest [] → SplitsGap rest gap back → back ≡ []
gap_to_end rest gap back e s = sym (gap_same rest rest gap [] back e s).1

gap_stops : (mode : Mode) (rest : List ℕ) → SplitsGap rest rest [] → Stops mode rest
gap_stops mode rest e gap back after place token s b =
    no_slice_at_end mode place token after (subst (λ xs. BeginsWith mode place xs token after) (gap_to_end rest gap back e s) b)

fault_excludes : (mode : Mode) (place : ℕ) (text after : List ℕ) (fault : LexError) (place' : ℕ) (token : Token) → IsFaultAt mode place text fault → BeginsWith mode place' text token after → ⊥
fault_excludes mode place text after (BadCharacter at) place' token f b = f.2 b.slice after token.kind b.begins.cut b.begins.has_form
fault_excludes mode place text after (WideNumber at) place' token f b =
    let same : SameSlice b.slice f.1.0 token.kind f.1.1 after f.1.2 = slice_same (form_at mode text) text b.slice f.1.0 after f.1.2 token.kind f.1.1 b.begins f.1.3 in
    f.1.4 (subst IsInRange same.kinds b.in_range)
fault_excludes mode place text after (OpenString at) place' token f b = f.1 b.slice after token.kind b.begins.cut b.begins.has_form
fault_excludes mode place text after (BadEscape at) place' token f b = bad_escape_no_slice mode text f.0 f.1 b.slice after token.kind b.begins.cut b.begins.has_form
fault_excludes mode place text after (OpenComment at) place' token f b = comment_no_form mode text b.slice token.kind (open_comment_begins text f.1) b.begins.has_form
fault_excludes mode place text after (Memory error) place' token f b = f

fault_stops : (mode : Mode) (rest gap back : List ℕ) (place : ℕ) (fault : LexError) → SplitsGap rest gap back → IsFaultAt mode place back fault → Stops mode rest
fault_stops mode rest gap back place fault s f gap' back' after place' token s' b =
    let same : (gap ≡ gap') × (back ≡ back') = gap_same rest gap gap' back back' s s' in
    fault_excludes mode place back after fault place' token f (subst (λ xs. BeginsWith mode place' xs token after) (sym same.1) b)

-- a text has one list of tokens
pub one_list : (text : List ℕ) (ts us : List Token) → Tokens text ts → Tokens text us → ts ≡ us
one_list text ts us t u =
    let same : SameDivision t.front u.front t.last u.last t.to u.to t.rest u.rest = one_division t.front u.front First 0 t.last u.last t.to u.to text t.rest u.rest t.divides u.divides (gap_stops (mode_of t.last) t.rest t.ends) (gap_stops (mode_of u.last) u.rest u.ends) in
    t.whole ∙ ap (λ vs. vs ++ end_at (t.to + length t.rest) ∷ []) same.tokens ∙ ap (λ n. u.front ++ end_at (n + length t.rest) ∷ []) same.tos
    ∙ ap (λ xs. u.front ++ end_at (u.to + length xs) ∷ []) same.rests ∙ sym u.whole

none_some : (n : ℕ) → ◌≡◌ {A = Option ℕ} None (Some n) → ⊥
none_some n e = cc

-- at one place stands one fault
one_fault_at : (mode : Mode) (place : ℕ) (text : List ℕ) (e f : LexError) → IsFaultAt mode place text e → IsFaultAt mode place text f → e ≡ f
one_fault_at mode place text (BadCharacter a) (BadCharacter b) e f = ap BadCharacter (e.0 ∙ sym f.0)
one_fault_at mode place text (BadCharacter a) (OpenString b) e f = absurd (false≢true (sym e.4 ∙ f.2))
one_fault_at mode place text (BadCharacter a) (BadEscape b) e f = absurd (false≢true (sym e.4 ∙ bad_escape_opens mode text f.0 f.1))
one_fault_at mode place text (BadCharacter a) (OpenComment b) e f = absurd (false≢true (sym e.3 ∙ open_comment_begins text f.1))
one_fault_at mode place text (BadCharacter a) (WideNumber b) e f = absurd (e.2 f.1.0 f.1.2 f.1.1 f.1.3.cut f.1.3.has_form)
one_fault_at mode place text (BadCharacter a) (Memory b) e f = absurd f
one_fault_at mode place text (OpenString a) (BadCharacter b) e f = absurd (false≢true (sym f.4 ∙ e.2))
one_fault_at mode place text (OpenString a) (OpenString b) e f = ap OpenString (e.0 ∙ sym f.0)
one_fault_at mode place text (OpenString a) (BadEscape b) e f = absurd (none_some f.0 (sym e.3 ∙ f.1))
one_fault_at mode place text (OpenString a) (OpenComment b) e f = absurd (false≢true (sym (opens_no_comment mode text e.2) ∙ open_comment_begins text f.1))
one_fault_at mode place text (OpenString a) (WideNumber b) e f = absurd (e.1 f.1.0 f.1.2 f.1.1 f.1.3.cut f.1.3.has_form)
one_fault_at mode place text (OpenString a) (Memory b) e f = absurd f
one_fault_at mode place text (BadEscape a) (BadCharacter b) e f = absurd (false≢true (sym f.4 ∙ bad_escape_opens mode text e.0 e.1))
one_fault_at mode place text (BadEscape a) (OpenString b) e f = absurd (none_some e.0 (sym f.3 ∙ e.1))
one_fault_at mode place text (BadEscape a) (BadEscape b) e f = let some : Some e.0 ≡ Some f.0 = sym e.1 ∙ f.1 in let same : e.0 ≡ f.0 = cc in ap BadEscape (e.2 ∙ ap (λ n. place + n) same ∙ sym f.2)
one_fault_at mode place text (BadEscape a) (OpenComment b) e f = absurd (false≢true (sym (opens_no_comment mode text (bad_escape_opens mode text e.0 e.1)) ∙ open_comment_begins text f.1))
one_fault_at mode place text (BadEscape a) (WideNumber b) e f = absurd (bad_escape_no_slice mode text e.0 e.1 f.1.0 f.1.2 f.1.1 f.1.3.cut f.1.3.has_form)
one_fault_at mode place text (BadEscape a) (Memory b) e f = absurd f
one_fault_at mode place text (OpenComment a) (BadCharacter b) e f = absurd (false≢true (sym f.3 ∙ open_comment_begins text e.1))
one_fault_at mode place text (OpenComment a) (OpenString b) e f = absurd (false≢true (sym (opens_no_comment mode text f.2) ∙ open_comment_begins text e.1))
one_fault_at mode place text (OpenComment a) (BadEscape b) e f = absurd (false≢true (sym (opens_no_comment mode text (bad_escape_opens mode text f.0 f.1)) ∙ open_comment_begins text e.1))
one_fault_at mode place text (OpenComment a) (OpenComment b) e f = ap OpenComment (e.0 ∙ sym f.0)
one_fault_at mode place text (OpenComment a) (WideNumber b) e f = absurd (comment_no_form mode text f.1.0 f.1.1 (open_comment_begins text e.1) f.1.3.has_form)
one_fault_at mode place text (OpenComment a) (Memory b) e f = absurd f
one_fault_at mode place text (WideNumber a) (BadCharacter b) e f = absurd (f.2 e.1.0 e.1.2 e.1.1 e.1.3.cut e.1.3.has_form)
one_fault_at mode place text (WideNumber a) (OpenString b) e f = absurd (f.1 e.1.0 e.1.2 e.1.1 e.1.3.cut e.1.3.has_form)
one_fault_at mode place text (WideNumber a) (BadEscape b) e f = absurd (bad_escape_no_slice mode text f.0 f.1 e.1.0 e.1.2 e.1.1 e.1.3.cut e.1.3.has_form)
one_fault_at mode place text (WideNumber a) (OpenComment b) e f = absurd (comment_no_form mode text e.1.0 e.1.1 (open_comment_begins text f.1) e.1.3.has_form)
one_fault_at mode place text (WideNumber a) (WideNumber b) e f = ap WideNumber (e.0 ∙ sym f.0)
one_fault_at mode place text (WideNumber a) (Memory b) e f = absurd f
one_fault_at mode place text (Memory a) other e f = absurd e

-- a text has one first fault
pub one_fault : (text : List ℕ) (e f : LexError) → LexFault text e → LexFault text f → e ≡ f
one_fault text e f l m =
    let same : SameDivision l.front m.front l.last m.last l.to m.to l.rest m.rest = one_division l.front m.front First 0 l.last m.last l.to m.to text l.rest m.rest l.divides m.divides
    (fault_stops (mode_of l.last) l.rest l.gap l.back (l.to + length l.gap) e l.splits l.stands) (fault_stops (mode_of m.last) m.rest m.gap m.back (m.to + length m.gap) f m.splits m.stands) in
    let gaps : (l.gap ≡ m.gap) × (l.back ≡ m.back) = gap_same l.rest l.gap m.gap l.back m.back l.splits (subst (λ xs. SplitsGap xs m.gap m.back) (sym same.rests) m.splits) in
    let place : l.to + length l.gap ≡ m.to + length m.gap = ap (λ n. n + length l.gap) same.tos ∙ ap (λ g. m.to + length g) gaps.0 in
    one_fault_at (mode_of m.last) (m.to + length m.gap) m.back e f
    (subst (λ st. IsFaultAt (mode_of st) (m.to + length m.gap) m.back e) same.lasts (subst (λ xs. IsFaultAt (mode_of l.last) (m.to + length m.gap) xs e) gaps.1 (subst (λ n. IsFaultAt (mode_of l.last) n l.back e) place l.stands))) m.stands

fault_past_end : (mode : Mode) (place : ℕ) (fault : LexError) → IsFaultAt mode place [] fault → ⊥
fault_past_end mode place (BadCharacter at) f = f.1 refl
fault_past_end mode place (WideNumber at) f =
    let some : 0 < length f.1.0 = slice_length mode [] f.1.0 f.1.1 f.1.3.has_form in
    let none : length f.1.0 + length f.1.2 ≡ 0 = sym (ap length f.1.3.cut ∙ length-append f.1.0 f.1.2) in
    omega (arith, some, none)
fault_past_end Plain place (OpenString at) f = false≢true f.2
fault_past_end Source place (OpenString at) f = false≢true f.2
fault_past_end Pattern place (OpenString at) f = false≢true f.2
fault_past_end Plain place (BadEscape at) f = none_some f.0 f.1
fault_past_end Source place (BadEscape at) f = none_some f.0 f.1
fault_past_end Pattern place (BadEscape at) f = none_some f.0 f.1
fault_past_end mode place (OpenComment at) f = false≢true f.1
fault_past_end mode place (Memory error) f = f

-- a text of tokens has no fault
pub not_both : (text : List ℕ) (ts : List Token) (e : LexError) → Tokens text ts → LexFault text e → ⊥
not_both text ts e t l =
    let same : SameDivision t.front l.front t.last l.last t.to l.to t.rest l.rest = one_division t.front l.front First 0 t.last l.last t.to l.to text t.rest l.rest t.divides l.divides
    (gap_stops (mode_of t.last) t.rest t.ends) (fault_stops (mode_of l.last) l.rest l.gap l.back (l.to + length l.gap) e l.splits l.stands) in
    let ends : SplitsGap l.rest l.rest [] = subst (λ xs. SplitsGap xs xs []) same.rests t.ends in
    fault_past_end (mode_of l.last) (l.to + length l.gap) e (subst (λ xs. IsFaultAt (mode_of l.last) (l.to + length l.gap) xs e) (gap_to_end l.rest l.gap l.back ends l.splits) l.stands)

-- where the answer is the tokens or the fault, nothing else is right
pub only_tokens : (text : List ℕ) (result : Result (List Token) LexError) (tokens : List Token)
    → Lexes text result → Tokens text tokens → IsTokensOrMemory result tokens
only_tokens text (Ok answered) tokens right t = one_list text answered tokens right t
only_tokens text (Err error) tokens (inl refused) t = refused
only_tokens text (Err error) tokens (inr fault) t = absurd (not_both text tokens error t fault)

pub only_fault : (text : List ℕ) (result : Result (List Token) LexError) (fault : LexError)
    → Lexes text result → LexFault text fault → IsFaultOrMemory result fault
only_fault text (Ok answered) fault right f = absurd (not_both text answered fault right f)
only_fault text (Err error) fault (inl refused) f = inr refused
only_fault text (Err error) fault (inr right) f = inl (one_fault text error fault right f)
