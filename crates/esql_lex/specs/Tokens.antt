-- The tokens of a text, and its first fault.
use Rattle.std.specs.Prelude.{◌≡◌, ◌≢◌, ◌⊎◌, ℕ, ◌+◌, ◌-◌, ◌≤◌, ◌≤ℤ◌, pos, true, false, List, [], ◌∷◌, ◌++◌, length, slice_range, take, drop, All, AllPairs, Option, Some, None, Result, Ok, Err, MatchResult, IsCharBoundary}
use Rattle.esql_lex.specs.declared.error.LexError.{LexError}
use Rattle.esql_lex.specs.declared.error.LexError.TheVariants.{BadCharacter, OpenString, BadEscape, OpenComment, WideNumber, Memory}
use Rattle.esql_lex.specs.declared.token.Token.{Token}
use Rattle.esql_lex.specs.declared.token.TokenKind.{TokenKind}
use Rattle.esql_lex.specs.declared.token.TokenKind.TheVariants.{Name, QuotedName, Pattern, Source, Text, Number, Word, Sign, End}
use Rattle.esql_lex.specs.declared.mode.Mode.{Mode}
use Rattle.esql_lex.specs.declared.mode.State.{State}
use Rattle.esql_lex.specs.declared.mode.State.TheVariants.{First}
use Rattle.esql_lex.specs.Modes.{mode_of, state_after}
use Rattle.esql_lex.specs.Gaps.{SplitsGap, begins_comment, begins_open_comment}
use Rattle.esql_lex.specs.Forms.{form_of, form_at, opens_quote, bad_escape}

-- the bytes of a token
abbrev pub slice_of : List ℕ → Token → List ℕ
slice_of text token = slice_range text token.span.from token.span.to

-- a number is at most 9223372036854775807
abbrev pub IsInRange : TokenKind → Type 0
IsInRange (Number value) = value ≤ℤ pos 9223372036854775807
IsInRange Name = Unit {0}
IsInRange QuotedName = Unit {0}
IsInRange Pattern = Unit {0}
IsInRange Source = Unit {0}
IsInRange Text = Unit {0}
IsInRange (Word word) = Unit {0}
IsInRange (Sign sign) = Unit {0}
IsInRange End = Unit {0}

-- no longer slice from the same place has a form
abbrev pub IsLongest : (List ℕ → Option TokenKind) → List ℕ → List ℕ → Type 0
IsLongest form slice after = (more tail : List ℕ) (kind : TokenKind) → after ≡ more ++ tail → form (slice ++ more) ≡ Some kind → more ≡ []

-- no slice from this place has a form
abbrev pub HasNoSlice : (List ℕ → Option TokenKind) → List ℕ → Type 0
HasNoSlice form text = (slice after : List ℕ) (kind : TokenKind) → text ≡ slice ++ after → form slice ≡ Some kind → ⊥

-- the text begins with the longest slice that has a form, with its kind and what stands after it
pub record BeginsWithSlice (form : List ℕ → Option TokenKind) (text slice : List ℕ) (kind : TokenKind) (after : List ℕ) : Type 0 where
  pub cut : text ≡ slice ++ after
  pub has_form : form slice ≡ Some kind
  pub longest : IsLongest form slice after

-- the token stands at the place where the text begins
pub record BeginsWith (mode : Mode) (at : ℕ) (text : List ℕ) (token : Token) (after : List ℕ) : Type 0 where
  pub slice : List ℕ
  pub begins : BeginsWithSlice (form_at mode text) text slice token.kind after
  pub in_range : IsInRange token.kind
  pub from : token.span.from ≡ at
  pub to : token.span.to ≡ at + length slice

-- the fault stands at the place where the text begins, or in the text in quotes that is opened there
abbrev pub IsFaultAt : Mode → ℕ → List ℕ → LexError → Type 0
IsFaultAt mode place text (BadCharacter at) =
    (at ≡ place) × (text ≢ []) × HasNoSlice (form_at mode text) text × (begins_comment text ≡ false) × (opens_quote mode text ≡ false)
IsFaultAt mode place text (OpenString at) =
    (at ≡ place) × HasNoSlice (form_at mode text) text × (opens_quote mode text ≡ true) × (bad_escape mode text ≡ None)
IsFaultAt mode place text (BadEscape at) = (offset : ℕ) × (bad_escape mode text ≡ Some offset) × (at ≡ place + offset)
IsFaultAt mode place text (OpenComment at) = (at ≡ place) × (begins_open_comment text ≡ true)
IsFaultAt mode place text (WideNumber at) =
    (at ≡ place) × ((slice : List ℕ) × (kind : TokenKind) × (after : List ℕ) × BeginsWithSlice (form_at mode text) text slice kind after × (IsInRange kind → ⊥))
IsFaultAt mode place text (Memory error) = ⊥

-- what stands at the place where the text begins, a token or a fault
abbrev pub Reads : Mode → ℕ → List ℕ → Result Token LexError → Type 0
Reads mode at text (Ok token) = BeginsWith mode at text token (drop (token.span.to - at) text)
Reads mode at text (Err fault) = IsFaultAt mode at text fault

-- the state after a token that stands where the text begins
abbrev pub state_past : State → Token → List ℕ → State
state_past state token text = state_after state token.kind (take (token.span.to - token.span.from) text)

-- the text from a place is gaps and tokens in turn, up to another place and what stands there; each token is of the mode that the earlier ones set
abbrev pub Divides : List Token → State → ℕ → List ℕ → State → ℕ → List ℕ → Type 0
Divides [] state at text last to rest = (last ≡ state) × (to ≡ at) × (rest ≡ text)
Divides (token ∷ tokens) state at text last to rest =
    (gap : List ℕ) × (back : List ℕ) × (after : List ℕ)
    × SplitsGap text gap back × BeginsWith (mode_of state) (at + length gap) back token after
    × Divides tokens (state_past state token back) token.span.to after last to rest

-- the last token, which is empty
abbrev pub end_at : ℕ → Token
end_at at = record { kind = End; span = record { from = at; to = at } }

-- the tokens of a text: it is gaps and tokens in turn, and ends after a gap
pub record Tokens (text : List ℕ) (tokens : List Token) : Type 0 where
  pub front : List Token
  pub last : State
  pub to : ℕ
  pub rest : List ℕ
  pub divides : Divides front First 0 text last to rest
  pub ends : SplitsGap rest rest []
  pub whole : tokens ≡ front ++ end_at (to + length rest) ∷ []

-- the first fault of a text: a front of it is gaps and tokens in turn, and the fault stands after the next gap
pub record LexFault (text : List ℕ) (fault : LexError) : Type 0 where
  pub front : List Token
  pub last : State
  pub to : ℕ
  pub rest : List ℕ
  pub gap : List ℕ
  pub back : List ℕ
  pub divides : Divides front First 0 text last to rest
  pub splits : SplitsGap rest gap back
  pub stands : IsFaultAt (mode_of last) (to + length gap) back fault

-- memory was refused
abbrev pub IsWantOfMemory : LexError → Type 0
IsWantOfMemory (Memory error) = Unit {0}
IsWantOfMemory (BadCharacter at) = ⊥
IsWantOfMemory (OpenString at) = ⊥
IsWantOfMemory (BadEscape at) = ⊥
IsWantOfMemory (OpenComment at) = ⊥
IsWantOfMemory (WideNumber at) = ⊥

-- what is answered is the tokens of the text or its first fault, or memory was refused
abbrev pub Lexes : List ℕ → Result (List Token) LexError → Type 0
Lexes text result = MatchResult result (Tokens text) (λ error. IsWantOfMemory error ⊎ LexFault text error)

-- what is answered is the tokens, or memory was refused
abbrev pub IsTokensOrMemory : Result (List Token) LexError → List Token → Type 0
IsTokensOrMemory result tokens = MatchResult result (λ answered. answered ≡ tokens) IsWantOfMemory

-- what is answered is the fault, or memory was refused
abbrev pub IsFaultOrMemory : Result (List Token) LexError → LexError → Type 0
IsFaultOrMemory result fault = MatchResult result (λ answered. ⊥) (λ error. (error ≡ fault) ⊎ IsWantOfMemory error)

-- the token's span is a part of the text, cut at the starts of characters
pub record IsPartOf (text : List ℕ) (token : Token) : Type 0 where
  pub ordered : token.span.from ≤ token.span.to
  pub within : token.span.to ≤ length text
  pub starts : IsCharBoundary text token.span.from
  pub ends : IsCharBoundary text token.span.to

-- the last token is End, and no other is
pub record EndsOnce (tokens : List Token) : Type 0 where
  pub front : List Token
  pub last : Token
  pub whole : tokens ≡ front ++ last ∷ []
  pub end : last.kind ≡ End
  pub others : All (λ token. token.kind ≢ End) front

-- the tokens stand in the text one after another
pub record FitsText (text : List ℕ) (tokens : List Token) : Type 0 where
  pub parts : All (IsPartOf text) tokens
  pub ordered : AllPairs (λ token later. token.span.to ≤ later.span.from) tokens
  pub ends : EndsOnce tokens
  pub count : length tokens ≤ length text + 1

-- a fault has a place in the text, at the start of a character
abbrev pub HasPlaceIn : List ℕ → LexError → Type 0
HasPlaceIn text (BadCharacter at) = IsCharBoundary text at
HasPlaceIn text (OpenString at) = IsCharBoundary text at
HasPlaceIn text (BadEscape at) = IsCharBoundary text at
HasPlaceIn text (OpenComment at) = IsCharBoundary text at
HasPlaceIn text (WideNumber at) = IsCharBoundary text at
HasPlaceIn text (Memory error) = Unit {0}

-- the gaps and slices of a text from a place on, joined
abbrev pub pieces_of : List ℕ → ℕ → List Token → List ℕ
pieces_of text at [] = []
pieces_of text at (token ∷ tokens) = slice_range text at token.span.from ++ (slice_of text token ++ pieces_of text token.span.to tokens)

-- the token is the end, or its slice is, in a mode, of the form that gives its kind
abbrev pub HasForm : List ℕ → Token → Type 0
HasForm text token = (token.kind ≡ End) ⊎ ((mode : Mode) × (form_of mode (slice_of text token) ≡ Some token.kind))
