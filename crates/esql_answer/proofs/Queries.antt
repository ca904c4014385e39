-- A text that is refused is no query, at a part of it.
use Rattle.std.proofs.Common.{◌≡◌, ◌⊎◌, ℕ, ◌≤◌, ◌<◌, List, length, get_or, sym, subst, ⊎_elim, arith}
use Rattle.std.specs.Str.{IsCharBoundary}
use Rattle.std.proofs.lemmas.Option.{slice_get-get_or}
use Rattle.esql_lex.specs.declared.error.LexError.{LexError}
use Rattle.esql_lex.specs.declared.token.Token.{Token}
use Rattle.esql_lex.specs.Tokens.{Tokens, LexFault, FitsText, IsWantOfMemory}
use Rattle.esql_parse.specs.declared.error.ParseError.{ParseError}
use Rattle.esql_parse.specs.Spells.{Refuses}
use Rattle.answer_text.specs.declared.refusals.Refusal.{Refusal}
use Rattle.esql_answer.specs.declared.query.QueryError.{QueryError}
use Rattle.esql_answer.specs.declared.query.QueryError.TheVariants.{Refused}
use Rattle.esql_answer.specs.Queries.{IsNoQuery, IsPart, IsUnread, HasFault, HasRefusal, point_at}

-- a place that can be counted is an empty part
pub point : (text : List ℕ) (at : ℕ) → IsCharBoundary text at → at < 4294967295 → IsPart text (point_at at)
point text at boundary short = record { ordered = omega arith; begins = boundary; ends = boundary; short = short }

-- a place of a short text can be counted
counted : (text : List ℕ) (at : ℕ) → length text ≤ 65536 → IsCharBoundary text at → at < 4294967295
counted text at short boundary = let within = boundary.0 in omega arith

-- a text with such a fault is refused so
pub fault_unread : (text : List ℕ) (unread : QueryError) (error : LexError) (at : ℕ) (refusal : Refusal) → length text ≤ 65536 → (HasFault text error → IsNoQuery text refusal (point_at at)) → (IsWantOfMemory error → ⊥)
    → IsWantOfMemory error ⊎ LexFault text error → IsCharBoundary text at → unread ≡ Refused refusal (point_at at) → IsUnread text unread
fault_unread text unread error at refusal short none other found place refused =
    subst (IsUnread text) (sym refused)
    (none (record { short = short; fault = ⊎_elim (λ want. absurd (other want)) (λ fault. fault) found }), point text at place (counted text at short place))

-- a token of a text is a part of it
token_part : (text : List ℕ) (tokens : List Token) (number : ℕ) (d : Token) → length text ≤ 65536 → FitsText text tokens → number < length tokens → IsPart text (get_or tokens number d).span
token_part text tokens number d short fit within =
    let part = fit.parts number d within in
    record { ordered = part.ordered; begins = part.starts; ends = part.ends; short = counted text (get_or tokens number d).span.from short part.starts }

-- a text whose tokens are refused at one of them is refused so
pub refusal_unread : (text : List ℕ) (tokens : List Token) (unread : QueryError) (error : ParseError) (number : ℕ) (d : Token) (refusal : Refusal) → length text ≤ 65536 → Tokens text tokens → FitsText text tokens
    → (HasRefusal text error number (get_or tokens number d) → IsNoQuery text refusal (get_or tokens number d).span) → number < length tokens → unread ≡ Refused refusal (get_or tokens number d).span
    → Refuses text tokens error → IsUnread text unread
refusal_unread text tokens unread error number d refusal short lexed fit none within refused refuses =
    subst (IsUnread text) (sym refused)
    (none (record { short = short; tokens = tokens; lexed = lexed; refuses = refuses; stands = slice_get-get_or tokens number d within }), token_part text tokens number d short fit within)
