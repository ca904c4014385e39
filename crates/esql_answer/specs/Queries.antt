-- The query of a text; where a text is no query, and why.
use Rattle.std.specs.Prelude.{◌≡◌, ℕ, ◌≤◌, ◌<◌, List, length, slice_get, Some}
use Rattle.std.specs.Str.{IsCharBoundary}
use Rattle.esql_lex.specs.declared.error.LexError.{LexError}
use Rattle.esql_lex.specs.declared.error.LexError.TheVariants.{BadCharacter, OpenString, BadEscape, OpenComment, WideNumber}
use Rattle.esql_lex.specs.declared.token.Token.{Token}
use Rattle.esql_lex.specs.declared.token.TokenKind.{TokenKind}
use Rattle.esql_lex.specs.declared.token.TokenKind.TheVariants.{End}
use Rattle.esql_lex.specs.Tokens.{Tokens, LexFault}
use Rattle.esql_ast.specs.declared.query.Query.{Query}
use Rattle.esql_parse.specs.declared.error.ParseError.{ParseError}
use Rattle.esql_parse.specs.declared.error.ParseError.TheVariants.{Unexpected, TooDeep, TooMany}
use Rattle.esql_parse.specs.Spells.{Spells, Refuses}
use Rattle.esql_types.specs.declared.places.Span.{Span}
use Rattle.answer_text.specs.declared.refusals.Refusal.{Refusal}
use Rattle.answer_text.specs.declared.refusals.Refusal.TheVariants as refusal
use Rattle.esql_answer.specs.declared.query.QueryError.{QueryError}
use Rattle.esql_answer.specs.declared.query.QueryError.TheVariants.{Refused, Memory}

-- The text is that of a query: it is at most 65,536 bytes long, and its tokens spell the query, in which no expression is
-- deeper than 100 and at most 200 commands stand after the source.
pub record IsQuery (text : List ℕ) (query : Query) : Type 0 where
  pub short : length text ≤ 65536
  pub tokens : List Token
  pub lexed : Tokens text tokens
  pub spelled : Spells text tokens query

-- the first fault of a text that is short enough stands in it
pub record HasFault (text : List ℕ) (error : LexError) : Type 0 where
  pub short : length text ≤ 65536
  pub fault : LexFault text error

-- the tokens of a text that is short enough are refused at a token
pub record HasRefusal (text : List ℕ) (error : ParseError) (number : ℕ) (token : Token) : Type 0 where
  pub short : length text ≤ 65536
  pub tokens : List Token
  pub lexed : Tokens text tokens
  pub refuses : Refuses text tokens error
  pub stands : slice_get tokens number ≡ Some token

-- the end has no text that could be named, any other token has
abbrev pub unexpected_kind : TokenKind → Refusal
unexpected_kind End = refusal.UnexpectedEnd
unexpected_kind _ = refusal.Unexpected

-- the empty part of a text at an offset
abbrev pub point_at : ℕ → Span
point_at at = record { from = at; to = at }

-- The text is no query, and a part of it is refused: it is too long; or it has a first fault; or its tokens leave the
-- queries at a token.
pub data IsNoQuery (text : List ℕ) : Refusal → Span → Type 0 where
  too_long : 65536 < length text → IsNoQuery text refusal.TooLong (point_at 0)
  bad_character : (at : ℕ) → HasFault text (BadCharacter at) → IsNoQuery text refusal.BadCharacter (point_at at)
  open_string : (at : ℕ) → HasFault text (OpenString at) → IsNoQuery text refusal.OpenString (point_at at)
  bad_escape : (at : ℕ) → HasFault text (BadEscape at) → IsNoQuery text refusal.BadEscape (point_at at)
  open_comment : (at : ℕ) → HasFault text (OpenComment at) → IsNoQuery text refusal.OpenComment (point_at at)
  wide_number : (at : ℕ) → HasFault text (WideNumber at) → IsNoQuery text refusal.WideNumber (point_at at)
  unexpected : (number : ℕ) (token : Token) → HasRefusal text (Unexpected number) number token → IsNoQuery text (unexpected_kind token.kind) token.span
  too_deep : (number : ℕ) (token : Token) → HasRefusal text (TooDeep number) number token → IsNoQuery text refusal.TooDeep token.span
  too_many : (number : ℕ) (token : Token) → HasRefusal text (TooMany number) number token → IsNoQuery text refusal.TooMany token.span

-- a part of the text, whose place can be counted
pub record IsPart (text : List ℕ) (span : Span) : Type 0 where
  pub ordered : span.from ≤ span.to
  pub begins : IsCharBoundary text span.from
  pub ends : IsCharBoundary text span.to
  pub short : span.from < 4294967295

-- why there is no query
abbrev pub IsUnread : List ℕ → QueryError → Type 0
IsUnread text (Refused why span) = IsNoQuery text why span × IsPart text span
IsUnread text (Memory error) = Unit {0}
