-- A division of a text, one token further.
use Rattle.std.proofs.Common.{◌≡◌, ℕ, ◌+◌, ◌-◌, ◌<◌, ◌≤◌, List, [], ◌∷◌, ◌++◌, take, drop, length, refl, sym, ap, ◌∙◌, subst, arith, length-append, length-drop}
use Rattle.std.proofs.lemmas.List.{drop-drop, append-nil, length-take-le}
use Rattle.esql_lex.specs.declared.token.Token.{Token}
use Rattle.esql_lex.specs.declared.error.LexError.{LexError}
use Rattle.esql_lex.specs.declared.mode.Mode.{Mode}
use Rattle.esql_lex.specs.declared.mode.State.{State}
use Rattle.esql_lex.specs.declared.mode.State.TheVariants.{First}
use Rattle.esql_lex.specs.Gaps.{SplitsGap}
use Rattle.esql_lex.specs.Modes.{mode_of, state_after}
use Rattle.esql_lex.specs.Tokens.{BeginsWith, Divides, Tokens, LexFault, IsFaultAt, end_at, state_past}
use Rattle.esql_lex.proofs.Slices.{slice_length}

-- one more token after a division
divides_push : (front : List Token) (token : Token) (state last : State) (at to : ℕ) (text rest gap back after : List ℕ) → Divides front state at text last to rest
    → SplitsGap rest gap back → BeginsWith (mode_of last) (to + length gap) back token after → Divides (front ++ token ∷ []) state at text (state_past last token back) token.span.to after
divides_push [] token state last at to text rest gap back after d s b = (
  gap,
  back,
  after,
  subst (λ xs. SplitsGap xs gap back) d.2 s,
  subst (λ n. BeginsWith (mode_of state) (n + length gap) back token after) d.1 (subst (λ st. BeginsWith (mode_of st) (to + length gap) back token after) d.0 b),
  (ap (λ st. state_past st token back) d.0, refl, refl),
)
divides_push (t ∷ front) token state last at to text rest gap back after d s b =
    (d.0, d.1, d.2, d.3, d.4, divides_push front token (state_past state t d.1) last t.span.to to d.2 rest gap back after d.5 s b)

-- a gap of so many bytes stands at the place
abbrev pub GapAt : List ℕ → ℕ → ℕ → Type 0
GapAt text at len = (len ≤ length (drop at text)) × SplitsGap (drop at text) (take len (drop at text)) (drop len (drop at text))

-- the gap at a place of the text
gap_at : (text : List ℕ) (at len : ℕ) → GapAt text at len
    → (gap : List ℕ) × SplitsGap (drop at text) gap (drop (at + len) text) × (at + len ≡ at + length gap)
gap_at text at len g =
    let rest : List ℕ = drop at text in
    let back : drop len rest ≡ drop (at + len) text = drop-drop len at text in
    let size : length (take len rest) ≡ len = length-take-le len rest g.0 in
    (take len rest, subst (SplitsGap rest (take len rest)) back g.1, ap (λ n. at + n) (sym size))

-- a token's end, and that it is past its start
pub token_size : (mode : Mode) (at : ℕ) (text : List ℕ) (token : Token) (after : List ℕ) → BeginsWith mode at text token after
    → (at < token.span.to) × (token.span.to + length after ≡ at + length text)
token_size mode at text token after b =
    let some : 0 < length b.slice = slice_length mode text b.slice token.kind b.begins.has_form in
    let whole : length text ≡ length b.slice + length after = ap length b.begins.cut ∙ length-append b.slice after in
    let to : token.span.to ≡ at + length b.slice = b.to in
    (omega (arith, some, to), omega (arith, whole, to))

-- one more token of the text
pub turn : (front : List Token) (token : Token) (text : List ℕ) (at len : ℕ) (state : State) → Divides front First 0 text state at (drop at text)
    → GapAt text at len → BeginsWith (mode_of state) (at + len) (drop (at + len) text) token (drop (token.span.to - (at + len)) (drop (at + len) text))
    → Divides (front ++ token ∷ []) First 0 text (state_past state token (drop (at + len) text)) token.span.to (drop token.span.to text)
turn front token text at len state d e b =
    let g : (gap : List ℕ) × SplitsGap (drop at text) gap (drop (at + len) text) × (at + len ≡ at + length gap) = gap_at text at len e in
    let past : at + len < token.span.to = (token_size (mode_of state) (at + len) (drop (at + len) text) token _ b).0 in
    let to : (at + len) + (token.span.to - (at + len)) ≡ token.span.to = omega (arith, past) in
    let rest : drop (token.span.to - (at + len)) (drop (at + len) text) ≡ drop token.span.to text = drop-drop (token.span.to - (at + len)) (at + len) text ∙ ap (λ n. drop n text) to in
    divides_push front token First state 0 at text (drop at text) g.0 (drop (at + len) text) (drop token.span.to text) d g.1
    (subst (λ n. BeginsWith (mode_of state) n (drop (at + len) text) token (drop token.span.to text)) g.2 (subst (BeginsWith (mode_of state) (at + len) (drop (at + len) text) token) rest b))

-- where only a gap is left, the tokens are whole
pub whole : (front : List Token) (text : List ℕ) (at len : ℕ) (state : State) → Divides front First 0 text state at (drop at text)
    → GapAt text at len → drop (at + len) text ≡ [] → Tokens text (front ++ end_at (at + len) ∷ [])
whole front text at len state d e none =
    let g : (gap : List ℕ) × SplitsGap (drop at text) gap (drop (at + len) text) × (at + len ≡ at + length gap) = gap_at text at len e in
    let rest : g.0 ≡ drop at text = sym (append-nil g.0) ∙ ap (λ xs. g.0 ++ xs) (sym none) ∙ sym g.1.cut in
    record {
      front = front;
      last = state;
      to = at;
      rest = drop at text;
      divides = d;
      ends = subst (λ xs. SplitsGap (drop at text) xs []) rest (subst (SplitsGap (drop at text) g.0) none g.1);
      whole = ap (λ n. front ++ end_at n ∷ []) (g.2 ∙ ap (λ xs. at + length xs) rest);
    }

-- a fault after a division is the text's
pub faulted : (front : List Token) (text : List ℕ) (at len : ℕ) (state : State) (fault : LexError) → Divides front First 0 text state at (drop at text)
    → GapAt text at len → IsFaultAt (mode_of state) (at + len) (drop (at + len) text) fault → LexFault text fault
faulted front text at len state fault d e f =
    let g : (gap : List ℕ) × SplitsGap (drop at text) gap (drop (at + len) text) × (at + len ≡ at + length gap) = gap_at text at len e in
    record {
      front = front;
      last = state;
      to = at;
      rest = drop at text;
      gap = g.0;
      back = drop (at + len) text;
      divides = d;
      splits = g.1;
      stands = subst (λ n. IsFaultAt (mode_of state) n (drop (at + len) text) fault) g.2 f;
    }

-- a token ends past the last and in the text
pub token_within : (mode : Mode) (text : List ℕ) (at len : ℕ) (token : Token) (after : List ℕ) → at ≤ length text → GapAt text at len
    → BeginsWith mode (at + len) (drop (at + len) text) token after → (at < token.span.to) × (token.span.to ≤ length text)
token_within mode text at len token after l e b =
    let size : (at + len < token.span.to) × (token.span.to + length after ≡ (at + len) + length (drop (at + len) text)) = token_size mode (at + len) (drop (at + len) text) token after b in
    let run : len ≤ length (drop at text) = e.0 in
    let rest : length (drop at text) ≡ length text - at = length-drop at text in
    let back : length (drop (at + len) text) ≡ length text - (at + len) = length-drop (at + len) text in
    (omega (arith, size.0), omega (arith, size.1, run, rest, back, l))

-- the state after a token, by the place that it ends at
pub past_state : (mode : Mode) (state : State) (at : ℕ) (text : List ℕ) (token : Token) (after : List ℕ) → BeginsWith mode at text token after
    → state_past state token text ≡ state_after state token.kind (take (token.span.to - at) text)
past_state mode state at text token after b = ap (λ n. state_after state token.kind (take (token.span.to - n) text)) b.from

-- the token has room in what stands there
pub token_room : (mode : Mode) (at : ℕ) (text : List ℕ) (token : Token) (after : List ℕ) → BeginsWith mode at text token after → (at ≤ token.span.to) × (token.span.to - at ≤ length text)
token_room mode at text token after b =
    let s : (at < token.span.to) × (token.span.to + length after ≡ at + length text) = token_size mode at text token after b in
    (omega (arith, s.0), omega (arith, s.0, s.1))
