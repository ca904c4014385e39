-- What the grammar sees in a token of a text.
use Rattle.std.specs.Prelude.{ℕ, ◌==◌, if◌then◌else◌, List}
use Rattle.std.specs.List.{list_any}
use Rattle.esql_types.specs.declared.places.Span.{Span}
use Rattle.esql_lex.specs.declared.token.Token.{Token}
use Rattle.esql_lex.specs.declared.token.TokenKind.{TokenKind}
use Rattle.esql_lex.specs.declared.token.TokenKind.TheVariants as kind
use Rattle.esql_lex.specs.Contents.{content_of}
use Rattle.esql_lex.specs.Tokens.{slice_of}
use Rattle.esql_ast.specs.declared.query.NameAt.{NameAt}
use Rattle.esql_phrases.specs.declared.lexeme.Lexeme.{Lexeme}
use Rattle.esql_phrases.specs.declared.lexeme.Lexeme.TheVariants.{Plain, Dotted, Quoted, Pattern, Source, Text, Number, Word, Sign, End}

abbrev pub named : TokenKind → List ℕ → Span → NameAt
named kind slice span = record { name = content_of kind slice; span = span }

-- a name of several parts has dots between them
abbrev pub name_lexeme : NameAt → List ℕ → Lexeme
name_lexeme name slice = if list_any (λ c. c == 46) slice then Dotted name else Plain name

abbrev pub lexeme_at : TokenKind → List ℕ → Span → Lexeme
lexeme_at kind.Name slice span = name_lexeme (named kind.Name slice span) slice
lexeme_at kind.QuotedName slice span = Quoted (named kind.QuotedName slice span)
lexeme_at kind.Pattern slice span = Pattern (record { text = content_of kind.Pattern slice; wild = list_any (λ c. c == 42) slice; span = span })
lexeme_at kind.Source slice span = Source (named kind.Source slice span)
lexeme_at kind.Text slice span = Text (record { text = content_of kind.Text slice; span = span })
lexeme_at (kind.Number value) slice span = Number value span
lexeme_at (kind.Word word) slice span = Word word span
lexeme_at (kind.Sign sign) slice span = Sign sign span
lexeme_at kind.End slice span = End span

-- what the grammar sees in a token: its kind, the content of its slice, and its span
abbrev pub lexeme_of : List ℕ → Token → Lexeme
lexeme_of text token = lexeme_at token.kind (slice_of text token) token.span
