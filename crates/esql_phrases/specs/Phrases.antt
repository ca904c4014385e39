-- The grammar of expressions: which lexemes spell which expression.
use Rattle.std.specs.Prelude.{ℕ, ℕ.suc, max, ℤ, Bool, true, false, List, [], ◌∷◌, ◌++◌}
use Rattle.esql_types.specs.declared.places.Span.{Span}
use Rattle.esql_types.specs.declared.value.Value.{Value}
use Rattle.esql_types.specs.declared.value.Value.TheVariants as value
use Rattle.esql_lex.specs.declared.token.Reserved.TheVariants as word
use Rattle.esql_lex.specs.declared.token.Sign.TheVariants as sign
use Rattle.esql_ast.specs.declared.expr.BinaryOp.{BinaryOp}
use Rattle.esql_ast.specs.declared.expr.BinaryOp.TheVariants.{Add, Sub, Mul, Div, Mod, Eq, Ne, Lt, Le, Gt, Ge, And, Or}
use Rattle.esql_ast.specs.declared.expr.Expr.{Expr}
use Rattle.esql_ast.specs.declared.query.NameAt.{NameAt}
use Rattle.esql_ast.specs.declared.query.TextAt.{TextAt}
use Rattle.esql_phrases.specs.declared.lexeme.Lexeme.{Lexeme}
use Rattle.esql_phrases.specs.declared.lexeme.Lexeme.TheVariants.{Plain, Dotted, Quoted, Text, Number, Word, Sign as Mark}
use Rattle.esql_phrases.specs.declared.part.Part.{Part}
use Rattle.esql_phrases.specs.Parts.{number_value, negative_value, constant_part, null_part, list_part, column_part, star_part, call_part, group_part, cast_part, minus_part, not_part, line_of, left_of, right_of, binary_part, within_part, like_part, is_null_part}

-- name = Name | QuotedName
pub data IsName : Lexeme → NameAt → Type 0 where
  plain_name : (name : NameAt) → IsName (Plain name) name
  dotted_name : (name : NameAt) → IsName (Dotted name) name
  quoted_name : (name : NameAt) → IsName (Quoted name) name

-- the name of a kind is no quoted one
pub data IsKindName : Lexeme → NameAt → Type 0 where
  plain_kind : (name : NameAt) → IsKindName (Plain name) name
  dotted_kind : (name : NameAt) → IsKindName (Dotted name) name

-- the word or the sign of an operator
abbrev pub operator : BinaryOp → Span → Lexeme
operator Or span = Word word.Or span
operator And span = Word word.And span
operator Eq span = Mark sign.Equal span
operator Ne span = Mark sign.NotEqual span
operator Lt span = Mark sign.Less span
operator Le span = Mark sign.LessEqual span
operator Gt span = Mark sign.Greater span
operator Ge span = Mark sign.GreaterEqual span
operator Add span = Mark sign.Plus span
operator Sub span = Mark sign.Minus span
operator Mul span = Mark sign.Star span
operator Div span = Mark sign.Slash span
operator Mod span = Mark sign.Percent span

-- lit = Number | "-" Number | Text | TRUE | FALSE
pub data Literal : List Lexeme → Value → Type 0 where
  number_literal : (number : ℤ) (at : Span) → Literal (Number number at ∷ []) (number_value number)
  negative_literal : (minus : Span) (number : ℤ) (at : Span) → Literal (Mark sign.Minus minus ∷ Number number at ∷ []) (negative_value number)
  text_literal : (text : TextAt) → Literal (Text text ∷ []) (value.Text text.text)
  true_literal : (at : Span) → Literal (Word word.True at ∷ []) (value.Bool true)
  false_literal : (at : Span) → Literal (Word word.False at ∷ []) (value.Bool false)

-- lit { "," lit }
pub data Literals : List Lexeme → List Value → Type 0 where
  one_literal : {w : List Lexeme} {v : Value} → Literal w v → Literals w (v ∷ [])
  next_literal : (comma : Span) {u w : List Lexeme} {vs : List Value} {v : Value} → Literals u vs → Literal w v → Literals (u ++ Mark sign.Comma comma ∷ w) (vs ++ v ∷ [])

-- [ NOT ] IN
pub data InWords : Bool → List Lexeme → Type 0 where
  in_word : (at : Span) → InWords false (Word word.In at ∷ [])
  not_in_words : (not at : Span) → InWords true (Word word.Not not ∷ Word word.In at ∷ [])

-- LIKE, or RLIKE by a regular expression
pub data LikeWord : Bool → Lexeme → Type 0 where
  like_word : (at : Span) → LikeWord false (Word word.Like at)
  rlike_word : (at : Span) → LikeWord true (Word word.Rlike at)

-- [ NOT ] ( LIKE | RLIKE )
pub data LikeWords : Bool → Bool → List Lexeme → Type 0 where
  likes : {regex : Bool} {x : Lexeme} → LikeWord regex x → LikeWords false regex (x ∷ [])
  not_likes : (not : Span) {regex : Bool} {x : Lexeme} → LikeWord regex x → LikeWords true regex (Word word.Not not ∷ x ∷ [])

-- IS [ NOT ] NULL, which ends at a span
pub data IsWords : Bool → List Lexeme → Span → Type 0 where
  is_words : (is null : Span) → IsWords false (Word word.Is is ∷ Word word.Null null ∷ []) null
  is_not_words : (is not null : Span) → IsWords true (Word word.Is is ∷ Word word.Not not ∷ Word word.Null null ∷ []) null

-- The lines of the grammar by number: 0 expr, 1 and, 2 not, 3 cmp, 4 add, 5 mul, 6 unary, 7 cast, 8 primary.
mutual
  pub data Phrase : ℕ → List Lexeme → Part → Type 0 where
    -- each line has the phrases of the next
    looser : {n : ℕ} {w : List Lexeme} {p : Part} → Phrase (suc n) w p → Phrase n w p
    number_line : (number : ℤ) (at : Span) → Phrase 8 (Number number at ∷ []) (constant_part (number_value number) at)
    text_line : (text : TextAt) → Phrase 8 (Text text ∷ []) (constant_part (value.Text text.text) text.span)
    true_line : (at : Span) → Phrase 8 (Word word.True at ∷ []) (constant_part (value.Bool true) at)
    false_line : (at : Span) → Phrase 8 (Word word.False at ∷ []) (constant_part (value.Bool false) at)
    null_line : (at : Span) → Phrase 8 (Word word.Null at ∷ []) (null_part at)
    list_line : (opening closing : Span) {w : List Lexeme} {vs : List Value} → Literals w vs → Phrase 8 (Mark sign.OpenBracket opening ∷ (w ++ Mark sign.CloseBracket closing ∷ [])) (list_part opening vs closing)
    name_line : {x : Lexeme} {name : NameAt} → IsName x name → Phrase 8 (x ∷ []) (column_part name)
    group_line : (opening closing : Span) {w : List Lexeme} {p : Part} → Phrase 0 w p → Phrase 8 (Mark sign.OpenParen opening ∷ (w ++ Mark sign.CloseParen closing ∷ [])) (group_part opening p closing)
    -- a function's name is a name without a dot
    empty_line : (function : NameAt) (opening closing : Span) → Phrase 8 (Plain function ∷ Mark sign.OpenParen opening ∷ Mark sign.CloseParen closing ∷ []) (call_part function [] 0 closing)
    star_line : (function : NameAt) (opening star closing : Span) → Phrase 8 (Plain function ∷ Mark sign.OpenParen opening ∷ Mark sign.Star star ∷ Mark sign.CloseParen closing ∷ []) (star_part function closing)
    call_line : (function : NameAt) (opening closing : Span) {w : List Lexeme} {es : List Expr} {d : ℕ} → Items w es d
        → Phrase 8 (Plain function ∷ Mark sign.OpenParen opening ∷ (w ++ Mark sign.CloseParen closing ∷ [])) (call_part function es d closing)
    cast_line : (cast : Span) {w : List Lexeme} {p : Part} {x : Lexeme} {kind : NameAt} → Phrase 7 w p → IsKindName x kind → Phrase 7 (w ++ Mark sign.Cast cast ∷ x ∷ []) (cast_part p kind)
    minus_line : (minus : Span) {w : List Lexeme} {p : Part} → Phrase 6 w p → Phrase 6 (Mark sign.Minus minus ∷ w) (minus_part minus p)
    not_line : (not : Span) {w : List Lexeme} {p : Part} → Phrase 2 w p → Phrase 2 (Word word.Not not ∷ w) (not_part not p)
    binary_line : (op : BinaryOp) (at : Span) {w v : List Lexeme} {p q : Part} → Phrase (left_of op) w p → Phrase (right_of op) v q → Phrase (line_of op) (w ++ operator op at ∷ v) (binary_part op p q)
    in_line : (opening closing : Span) {n : Bool} {m w v : List Lexeme} {p : Part} {es : List Expr} {d : ℕ} → InWords n m → Phrase 4 w p → Items v es d
        → Phrase 3 (w ++ (m ++ Mark sign.OpenParen opening ∷ (v ++ Mark sign.CloseParen closing ∷ []))) (within_part n p es d closing)
    like_line : {n regex : Bool} {m w : List Lexeme} {p : Part} (pattern : TextAt) → LikeWords n regex m → Phrase 4 w p → Phrase 3 (w ++ (m ++ Text pattern ∷ [])) (like_part n regex p pattern)
    is_line : {n : Bool} {m w : List Lexeme} {p : Part} {null : Span} → IsWords n m null → Phrase 4 w p → Phrase 3 (w ++ m) (is_null_part n p null)

  -- expr { "," expr }, with the greatest depth of them
  pub data Items : List Lexeme → List Expr → ℕ → Type 0 where
    one_item : {w : List Lexeme} {p : Part} → Phrase 0 w p → Items w (p.expr ∷ []) p.depth
    next_item : (comma : Span) {w v : List Lexeme} {es : List Expr} {d : ℕ} {p : Part} → Items w es d → Phrase 0 v p → Items (w ++ Mark sign.Comma comma ∷ v) (es ++ p.expr ∷ []) (max d p.depth)
