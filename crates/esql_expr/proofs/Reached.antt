-- The lexemes that lead to what is being read.
use Rattle.std.specs.Prelude.{◌≡◌, ℕ, ◌≤◌, Bool, List, [], ◌∷◌, ◌++◌}
use Rattle.esql_types.specs.declared.places.Span.{Span}
use Rattle.esql_types.specs.declared.value.Value.{Value}
use Rattle.esql_lex.specs.declared.token.Reserved.TheVariants as word
use Rattle.esql_lex.specs.declared.token.Sign.TheVariants as sign
use Rattle.esql_ast.specs.declared.expr.BinaryOp.{BinaryOp}
use Rattle.esql_ast.specs.declared.expr.Expr.{Expr}
use Rattle.esql_ast.specs.declared.query.NameAt.{NameAt}
use Rattle.esql_phrases.specs.declared.lexeme.Lexeme.{Lexeme}
use Rattle.esql_phrases.specs.declared.lexeme.Lexeme.TheVariants.{Plain, Word, Sign as Mark}
use Rattle.esql_phrases.specs.declared.part.Part.{Part}
use Rattle.esql_expr.specs.declared.machine.Frame.{Frame}
use Rattle.esql_expr.specs.declared.machine.Frame.TheVariants.{Binary, Group, Minus, Not, Call, Within}
use Rattle.esql_expr.specs.declared.machine.Top.{Top}
use Rattle.esql_expr.specs.declared.machine.Top.TheVariants.{Want, Have, Named, Called, Starred, Denied, Among, Matching, Testing, TestingNot, Casting, Listing, Negating, Listed}
use Rattle.esql_expr.specs.declared.machine.Reader.{Reader}
use Rattle.esql_expr.specs.declared.machine.Stepped.{Stepped}
use Rattle.esql_expr.specs.declared.machine.Stepped.TheVariants.{Goes, Ends, Stuck}
use Rattle.esql_phrases.specs.Parts.{line_of, left_of}
use Rattle.esql_phrases.specs.Phrases.{operator, InWords, LikeWords, Literals, Phrase, Items}
use Rattle.esql_expr.specs.Machine.{hole}

-- the items so far, each with its comma
pub data SoFar : List Lexeme → List Expr → ℕ → Type 0 where
  none_yet : SoFar [] [] 0
  so_far : (comma : Span) {w : List Lexeme} {es : List Expr} {d : ℕ} → Items w es d → SoFar (w ++ Mark sign.Comma comma ∷ []) es d

-- the literals so far, each with its comma
pub data LiteralsSoFar : List Lexeme → List Value → Type 0 where
  no_literal : LiteralsSoFar [] []
  some_literals : (comma : Span) {w : List Lexeme} {vs : List Value} → Literals w vs → LiteralsSoFar (w ++ Mark sign.Comma comma ∷ []) vs

-- the lexemes before the open expression
pub data Before : ℕ → List Frame → List Lexeme → Type 0 where
  nothing_open : {least : ℕ} → Before least [] []
  binary_open : (op : BinaryOp) (at : Span) {least : ℕ} {above : List Frame} {u w : List Lexeme} {p : Part}
      → Before least above u → Phrase (left_of op) w p → hole least above ≤ line_of op → Before least (Binary op p ∷ above) (u ++ (w ++ operator op at ∷ []))
  group_open : (opening : Span) {least : ℕ} {above : List Frame} {u : List Lexeme} → Before least above u → Before least (Group opening ∷ above) (u ++ Mark sign.OpenParen opening ∷ [])
  minus_open : (minus : Span) {least : ℕ} {above : List Frame} {u : List Lexeme} → Before least above u → hole least above ≤ 6 → Before least (Minus minus ∷ above) (u ++ Mark sign.Minus minus ∷ [])
  not_open : (not : Span) {least : ℕ} {above : List Frame} {u : List Lexeme} → Before least above u → hole least above ≤ 2 → Before least (Not not ∷ above) (u ++ Word word.Not not ∷ [])
  call_open : (function : NameAt) (opening : Span) {least : ℕ} {above : List Frame} {u m : List Lexeme} {es : List Expr} {d : ℕ}
      → Before least above u → SoFar m es d → Before least (Call function es d ∷ above) (u ++ Plain function ∷ Mark sign.OpenParen opening ∷ m)
  within_open : (opening : Span) {least : ℕ} {n : Bool} {above : List Frame} {u w i m : List Lexeme} {p : Part} {es : List Expr} {d : ℕ}
      → Before least above u → Phrase 4 w p → hole least above ≤ 3 → InWords n i → SoFar m es d → Before least (Within n p es d ∷ above) (u ++ (w ++ (i ++ Mark sign.OpenParen opening ∷ m)))

-- the lexemes that lead to a state
pub data Read : ℕ → List Frame → Top → List Lexeme → Type 0 where
  wants : {least : ℕ} {frames : List Frame} {u : List Lexeme} → Before least frames u → Read least frames Want u
  has : {least : ℕ} {frames : List Frame} {u w : List Lexeme} {p : Part} → Before least frames u → Phrase p.line w p → hole least frames ≤ p.line → Read least frames (Have p) (u ++ w)
  names : (name : NameAt) {least : ℕ} {frames : List Frame} {u : List Lexeme} → Before least frames u → Read least frames (Named name) (u ++ Plain name ∷ [])
  calls : (function : NameAt) (opening : Span) {least : ℕ} {frames : List Frame} {u : List Lexeme}
      → Before least frames u → Read least frames (Called function) (u ++ Plain function ∷ Mark sign.OpenParen opening ∷ [])
  stars : (function : NameAt) (opening star : Span) {least : ℕ} {frames : List Frame} {u : List Lexeme}
      → Before least frames u → Read least frames (Starred function) (u ++ Plain function ∷ Mark sign.OpenParen opening ∷ Mark sign.Star star ∷ [])
  denies : (not : Span) {least : ℕ} {frames : List Frame} {u w : List Lexeme} {p : Part}
      → Before least frames u → Phrase 4 w p → hole least frames ≤ 3 → Read least frames (Denied p) (u ++ (w ++ Word word.Not not ∷ []))
  amongs : {least : ℕ} {frames : List Frame} {n : Bool} {u w i : List Lexeme} {p : Part}
      → Before least frames u → Phrase 4 w p → hole least frames ≤ 3 → InWords n i → Read least frames (Among n p) (u ++ (w ++ i))
  matches : {least : ℕ} {frames : List Frame} {n regex : Bool} {u w i : List Lexeme} {p : Part}
      → Before least frames u → Phrase 4 w p → hole least frames ≤ 3 → LikeWords n regex i → Read least frames (Matching n regex p) (u ++ (w ++ i))
  tests : (is : Span) {least : ℕ} {frames : List Frame} {u w : List Lexeme} {p : Part}
      → Before least frames u → Phrase 4 w p → hole least frames ≤ 3 → Read least frames (Testing p) (u ++ (w ++ Word word.Is is ∷ []))
  tests_not : (is not : Span) {least : ℕ} {frames : List Frame} {u w : List Lexeme} {p : Part}
      → Before least frames u → Phrase 4 w p → hole least frames ≤ 3 → Read least frames (TestingNot p) (u ++ (w ++ Word word.Is is ∷ Word word.Not not ∷ []))
  casts : (cast : Span) {least : ℕ} {frames : List Frame} {u w : List Lexeme} {p : Part}
      → Before least frames u → Phrase 7 w p → hole least frames ≤ 7 → Read least frames (Casting p) (u ++ (w ++ Mark sign.Cast cast ∷ []))
  lists : (opening : Span) {least : ℕ} {frames : List Frame} {u m : List Lexeme} {vs : List Value}
      → Before least frames u → LiteralsSoFar m vs → Read least frames (Listing opening vs) (u ++ Mark sign.OpenBracket opening ∷ m)
  negates : (opening minus : Span) {least : ℕ} {frames : List Frame} {u m : List Lexeme} {vs : List Value}
      → Before least frames u → LiteralsSoFar m vs → Read least frames (Negating opening vs) (u ++ Mark sign.OpenBracket opening ∷ (m ++ Mark sign.Minus minus ∷ []))
  listed : (opening : Span) {least : ℕ} {frames : List Frame} {u m : List Lexeme} {vs : List Value}
      → Before least frames u → Literals m vs → Read least frames (Listed opening vs) (u ++ Mark sign.OpenBracket opening ∷ m)

-- the lexemes lead to a reader
abbrev pub Leads : Reader → List Lexeme → Type 0
Leads reader w = Read reader.least reader.frames reader.top w

-- What one more lexeme makes of an expression that lexemes lead to: they lead on, or they are an expression and it is the next lexeme.
abbrev pub Means : ℕ → List Lexeme → Lexeme → Stepped → Type 0
Means least w x (Goes reader) = Leads reader (w ++ x ∷ [])
Means least w x (Ends p next) = Phrase least w p × (next ≡ x)
Means least w x Stuck = Unit {0}
