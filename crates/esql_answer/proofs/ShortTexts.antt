-- The texts that are written in a query are no longer than it.
use Rattle.std.proofs.Common.{ℕ, ◌≤◌, ◌-◌, ◌==◌, Bool, true, false, cond, List, [], ◌∷◌, length, take, drop, map, All, get_or, arith, length-take, length-drop}
use Rattle.std.specs.List.{list_any}
use Rattle.std.specs.Io.BufRead.{strip_last, ends_with_byte}
use Rattle.std.proofs.lemmas.List.Elements.{All-map}
use Rattle.esql_types.specs.declared.places.Span.{Span}
use Rattle.esql_lex.specs.declared.token.Token.{Token}
use Rattle.esql_lex.specs.declared.token.TokenKind.{TokenKind}
use Rattle.esql_lex.specs.declared.token.TokenKind.TheVariants as kind
use Rattle.esql_lex.specs.Contents.{strip_first, unquoted, meant, undone, text_content}
use Rattle.esql_lex.specs.Forms.{begins_long}
use Rattle.esql_lex.specs.Tokens.{slice_of}
use Rattle.esql_ast.specs.declared.query.NameAt.{NameAt}
use Rattle.esql_phrases.specs.declared.lexeme.Lexeme.{Lexeme}
use Rattle.esql_phrases.specs.declared.lexeme.Lexeme.TheVariants.{Plain, Dotted, Text}
use Rattle.esql_phrases.specs.Lexemes.{named, name_lexeme, lexeme_at, lexeme_of}

first_shorter : (quote : ℕ) (slice : List ℕ) → length (strip_first quote slice) ≤ length slice
first_shorter quote [] = omega arith
first_shorter quote (c ∷ cs) = go (c == quote)
  where
    go : (same : Bool) → length (cond same cs (c ∷ cs)) ≤ length (c ∷ cs)
    go true = omega arith
    go false = omega arith

last_shorter : (quote : ℕ) (slice : List ℕ) → length (strip_last quote slice) ≤ length slice
last_shorter quote slice = go (ends_with_byte quote slice)
  where
    go : (ends : Bool) → length (cond ends (take (length slice - 1) slice) slice) ≤ length slice
    go true = omega (arith, length-take (length slice - 1) slice)
    go false = omega arith

unquoted_shorter : (quote : ℕ) (slice : List ℕ) → length (unquoted quote slice) ≤ length slice
unquoted_shorter quote slice = let first = first_shorter quote slice in let last = last_shorter quote (strip_first quote slice) in omega arith

-- with its escapes undone no text is longer
undone_shorter : (mark : ℕ) (text : List ℕ) → length (undone mark text) ≤ length text
undone_shorter mark [] = omega arith
undone_shorter mark (c ∷ []) = omega arith
undone_shorter mark (c ∷ d ∷ cs) = go (c == mark) (undone_shorter mark cs) (undone_shorter mark (d ∷ cs))
  where
    go : (marked : Bool) → length (undone mark cs) ≤ length cs → length (undone mark (d ∷ cs)) ≤ length (d ∷ cs)
        → length (cond marked (meant mark d ∷ undone mark cs) (c ∷ undone mark (d ∷ cs))) ≤ length (c ∷ d ∷ cs)
    go true two one = omega arith
    go false two one = omega arith

content_shorter : (slice : List ℕ) → length (text_content slice) ≤ length slice
content_shorter slice = go (begins_long slice)
  where
    go : (long : Bool) → length (cond long (unquoted 34 (unquoted 34 (unquoted 34 slice))) (undone 92 (unquoted 34 slice))) ≤ length slice
    go true =
        let one = unquoted_shorter 34 slice in let two = unquoted_shorter 34 (unquoted 34 slice) in
        let three = unquoted_shorter 34 (unquoted 34 (unquoted 34 slice)) in omega arith
    go false = let one = unquoted_shorter 34 slice in let two = undone_shorter 92 (unquoted 34 slice) in omega arith

slice_shorter : (text : List ℕ) (token : Token) → length (slice_of text token) ≤ length text
slice_shorter text token =
    let back : List ℕ = drop token.span.from text in
    omega (arith, length-take (token.span.to - token.span.from) back, length-drop token.span.from text)

-- a lexeme that is a text has at most so many bytes
abbrev pub HasShortText : Lexeme → Type 0
HasShortText (Text text) = length text.text ≤ 65536
HasShortText _ = Unit {0}

name_short : (name : NameAt) (slice : List ℕ) → HasShortText (name_lexeme name slice)
name_short name slice = go (list_any (λ c. c == 46) slice)
  where
    go : (dotted : Bool) → HasShortText (cond dotted (Dotted name) (Plain name))
    go true = tt
    go false = tt

lexeme_at_short : (kind : TokenKind) (slice : List ℕ) (span : Span) → length slice ≤ 65536 → HasShortText (lexeme_at kind slice span)
lexeme_at_short kind.Name slice span short = name_short (named kind.Name slice span) slice
lexeme_at_short kind.QuotedName slice span short = tt
lexeme_at_short kind.Pattern slice span short = tt
lexeme_at_short kind.Source slice span short = tt
lexeme_at_short kind.Text slice span short = let content = content_shorter slice in omega arith
lexeme_at_short (kind.Number value) slice span short = tt
lexeme_at_short (kind.Word word) slice span short = tt
lexeme_at_short (kind.Sign sign) slice span short = tt
lexeme_at_short kind.End slice span short = tt

lexeme_short : (text : List ℕ) (token : Token) → length text ≤ 65536 → HasShortText (lexeme_of text token)
lexeme_short text token short = let slice = slice_shorter text token in lexeme_at_short token.kind (slice_of text token) token.span (omega arith)

-- no text among the lexemes of a short text is longer
pub lexemes_short : (text : List ℕ) (tokens : List Token) → length text ≤ 65536 → All HasShortText (map (lexeme_of text) tokens)
lexemes_short text tokens short = All-map HasShortText (lexeme_of text) tokens (λ number d within. lexeme_short text (get_or tokens number d) short)
