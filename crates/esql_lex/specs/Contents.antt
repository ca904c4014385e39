-- What a name or a text holds.
use Rattle.std.specs.Prelude.{◌≡◌, ℕ, ◌==◌, List, [], ◌∷◌, ◌++◌, flat_map, codes, Some, if◌then◌else◌}
use Rattle.std.specs.Io.BufRead.{strip_last}
use Rattle.esql_lex.specs.declared.token.TokenKind.{TokenKind}
use Rattle.esql_lex.specs.declared.token.TokenKind.TheVariants.{Name, QuotedName, Pattern, Source, Text, Number, Word, Sign, End}
use Rattle.esql_lex.specs.declared.mode.Mode.TheVariants.{Plain}
use Rattle.esql_lex.specs.Forms.{form_of, begins_long}

-- the slice without the quote at its start
abbrev pub strip_first : ℕ → List ℕ → List ℕ
strip_first quote [] = []
strip_first quote (c ∷ cs) = if c == quote then cs else c ∷ cs

-- what stands between the quotes
abbrev pub unquoted : ℕ → List ℕ → List ℕ
unquoted quote slice = strip_last quote (strip_first quote slice)

-- the character that a backslash and a character stand for: `\t`, `\n` and `\r` are tab, line feed and carriage return, and
-- a quote and a backslash stand for themselves
abbrev pub escaped : ℕ → ℕ
escaped c = if c == 116 then 9 else (if c == 110 then 10 else (if c == 114 then 13 else c))

-- after a backslash a character stands for what is escaped, after a backtick for itself
abbrev pub meant : ℕ → ℕ → ℕ
meant mark c = if mark == 92 then escaped c else c

-- a mark and the character after it stand for one character, as two backticks for one
abbrev pub undone : ℕ → List ℕ → List ℕ
undone mark [] = []
undone mark (c ∷ []) = c ∷ []
undone mark (c ∷ d ∷ cs) = if c == mark then meant mark d ∷ undone mark cs else c ∷ undone mark (d ∷ cs)

-- a text in three quotes is what stands between them; in one, the escapes are undone
abbrev pub text_content : List ℕ → List ℕ
text_content slice =
    if begins_long slice then unquoted 34 (unquoted 34 (unquoted 34 slice))
    else undone 92 (unquoted 34 slice)

-- a name in backticks is what stands between them, with doubled backticks undone; every other slice is as it is written
abbrev pub content_of : TokenKind → List ℕ → List ℕ
content_of Name slice = slice
content_of QuotedName slice = undone 96 (unquoted 96 slice)
content_of Pattern slice = slice
content_of Source slice = slice
content_of Text slice = text_content slice
content_of (Number value) slice = slice
content_of (Word word) slice = slice
content_of (Sign sign) slice = slice
content_of End slice = slice

-- a backtick is doubled
abbrev pub doubled : ℕ → List ℕ
doubled c = if c == 96 then codes "``" else c ∷ []

-- a name as it is written in backticks
abbrev pub in_backticks : List ℕ → List ℕ
in_backticks name = 96 ∷ (flat_map doubled name ++ 96 ∷ [])

-- tab, line feed, carriage return, quote and backslash are escaped
abbrev pub as_escape : ℕ → List ℕ
as_escape c =
    if c == 9 then codes "\\t"
    else (if c == 10 then codes "\\n"
    else (if c == 13 then codes "\\r"
    else (if c == 34 then codes "\\\""
    else (if c == 92 then codes "\\\\"
    else c ∷ []))))

-- a text as it is written in quotes
abbrev pub in_quotes : List ℕ → List ℕ
in_quotes text = 34 ∷ (flat_map as_escape text ++ 34 ∷ [])

-- the slice is a token of the kind, in plain mode, and holds the content
abbrev pub Holds : List ℕ → TokenKind → List ℕ → Type 0
Holds slice kind content = (form_of Plain slice ≡ Some kind) × (content_of kind slice ≡ content)
