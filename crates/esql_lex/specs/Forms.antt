-- What a whole slice is, in each mode.
use Rattle.std.specs.Prelude.{ℕ, ◌+◌, ◌-◌, ◌*◌, ◌==◌, ◌&&◌, ◌||◌, not, Bool, true, false, List, [], ◌∷◌, Option, Some, None, pos, fold, length, drop, codes, if◌then◌else◌}
use Rattle.std.specs.List.{list_all}
use Rattle.std.specs.Option.{option_map}
use Rattle.std.specs.Char.{is_ascii_alphabetic, is_ascii_alphanumeric, is_ascii_digit}
use Rattle.esql_lex.specs.declared.token.Reserved.{Reserved}
use Rattle.esql_lex.specs.declared.token.TokenKind.{TokenKind}
use Rattle.esql_lex.specs.declared.token.TokenKind.TheVariants.{Name, QuotedName, Pattern as PatternToken, Source as SourceToken, Text, Number, Word, Sign}
use Rattle.esql_lex.specs.declared.mode.Mode.{Mode}
use Rattle.esql_lex.specs.declared.mode.Mode.TheVariants.{Plain, Source, Pattern}
use Rattle.esql_lex.specs.declared.body.Body.{Body}
use Rattle.esql_lex.specs.declared.body.Body.TheVariants.{OfName, OfText}
use Rattle.esql_lex.specs.Words.{reserved_of, short_sign, long_sign, separator}
use Rattle.esql_lex.specs.Gaps.{end_of, begins_comment}

-- a name begins with a letter, `_` or `@`
abbrev pub begins_name : ℕ → Bool
begins_name c = (is_ascii_alphabetic c || c == 95) || c == 64

-- and goes on with letters, digits and `_`
abbrev pub continues_name : ℕ → Bool
continues_name c = is_ascii_alphanumeric c || c == 95

-- `\t`, `\n`, `\r`, `\"` and `\\` are the escapes
abbrev pub is_escaped : ℕ → Bool
is_escaped c = (((c == 116 || c == 110) || c == 114) || c == 34) || c == 92

-- any character but a quote, a backslash and a line break stands for itself
abbrev pub is_literal : ℕ → Bool
is_literal c = not (((c == 34 || c == 92) || c == 10) || c == 13)

-- a dot joins the parts of a name, a backslash begins an escape
abbrev pub mark_of : Body → ℕ
mark_of OfName = 46
mark_of OfText = 92

abbrev pub may_follow : Body → ℕ → Bool
may_follow OfName c = begins_name c
may_follow OfText c = is_escaped c

abbrev pub stands_alone : Body → ℕ → Bool
stands_alone OfName c = continues_name c
stands_alone OfText c = is_literal c

-- single characters, and pairs of the mark and a character that may follow it
abbrev pub is_body : Body → List ℕ → Bool
is_body body [] = true
is_body body (c ∷ []) = stands_alone body c
is_body body (c ∷ d ∷ cs) = if c == mark_of body then may_follow body d && is_body body cs else stands_alone body c && is_body body (d ∷ cs)

-- how far single characters and such pairs go
abbrev pub body_len : Body → List ℕ → ℕ
body_len body [] = 0
body_len body (c ∷ []) = if stands_alone body c then 1 else 0
body_len body (c ∷ d ∷ cs) =
    if c == mark_of body then (if may_follow body d then 2 + body_len body cs else 0)
    else (if stands_alone body c then 1 + body_len body (d ∷ cs) else 0)

-- characters and escapes, and then a quote
abbrev pub closes_text : List ℕ → Bool
closes_text [] = false
closes_text (c ∷ []) = c == 34
closes_text (c ∷ d ∷ cs) = if c == 92 then is_escaped d && closes_text cs else is_literal c && closes_text (d ∷ cs)

-- characters and doubled backticks, and then a backtick
abbrev pub closes_name : List ℕ → Bool
closes_name [] = false
closes_name (c ∷ []) = c == 96
closes_name (c ∷ d ∷ cs) = if c == 96 then d == 96 && closes_name cs else closes_name (d ∷ cs)

-- what follows the backtick of a name that is not empty
abbrev pub is_quoted : List ℕ → Bool
is_quoted [] = false
is_quoted (c ∷ []) = false
is_quoted (c ∷ d ∷ cs) = closes_name (c ∷ d ∷ cs)

-- three quotes begin a text that three quotes end
abbrev pub begins_long : List ℕ → Bool
begins_long [] = false
begins_long (c ∷ []) = false
begins_long (c ∷ d ∷ []) = false
begins_long (c ∷ d ∷ e ∷ rest) = (c == 34 && d == 34) && e == 34

-- three quotes, and characters up to the first three quotes after them
abbrev pub has_length : ℕ → Option ℕ → Bool
has_length size None = false
has_length size (Some len) = len == size

abbrev pub is_long_text : List ℕ → Bool
is_long_text slice = begins_long slice && has_length (length slice) (option_map (λ n. 3 + n) (end_of (codes "\"\"\"") (drop 3 slice)))

-- a reserved word is no name
abbrev pub word_kind : Option Reserved → TokenKind
word_kind None = Name
word_kind (Some word) = Word word

-- letters, digits, `_` and dots are a word or a name
abbrev pub word_or_name : List ℕ → TokenKind
word_or_name slice = word_kind (reserved_of slice)

-- the number that digits write
abbrev pub value_of : List ℕ → ℕ
value_of digits = fold (λ value c. value * 10 + (c - 48)) 0 digits

-- a sign has one character or two
abbrev pub sign_of : ℕ → List ℕ → Option TokenKind
sign_of c [] = option_map Sign (short_sign c)
sign_of c (d ∷ []) = option_map Sign (long_sign c d)
sign_of c (d ∷ e ∷ rest) = None

-- a bar or a comma
abbrev pub separator_of : ℕ → List ℕ → Option TokenKind
separator_of c [] = option_map Sign (separator c)
separator_of c (d ∷ rest) = None

-- the name of a table or policy begins with a letter, a digit or `_`
abbrev pub begins_source : ℕ → Bool
begins_source c = is_ascii_alphanumeric c || c == 95

-- and goes on with these, `.` and `-`
abbrev pub continues_source : ℕ → Bool
continues_source c = (begins_source c || c == 46) || c == 45

-- a pattern has letters, digits, `_`, `@`, `.` and `*`
abbrev pub is_in_pattern : ℕ → Bool
is_in_pattern c = ((begins_source c || c == 64) || c == 46) || c == 42

-- the kind that a test gives
abbrev pub kind_if : Bool → TokenKind → Option TokenKind
kind_if test kind = if test then Some kind else None

-- a word or name, a number, a quoted name, a text or a sign, by its first character
unfoldable pub plain_form : ℕ → List ℕ → Option TokenKind
plain_form c cs =
    if begins_name c then kind_if (is_body OfName cs) (word_or_name (c ∷ cs))
    else (if is_ascii_digit c then kind_if (list_all is_ascii_digit cs) (Number (pos (value_of (c ∷ cs))))
    else (if c == 96 then kind_if (is_quoted cs) QuotedName
    else (if c == 34 then kind_if (closes_text cs || is_long_text (c ∷ cs)) Text
    else sign_of c cs)))

-- the name of a table or policy, a bar or a comma
unfoldable pub source_form : ℕ → List ℕ → Option TokenKind
source_form c cs =
    if begins_source c then kind_if (list_all continues_source cs) SourceToken
    else separator_of c cs

-- a pattern, a quoted name, a bar or a comma
unfoldable pub pattern_form : ℕ → List ℕ → Option TokenKind
pattern_form c cs =
    if is_in_pattern c then kind_if (list_all is_in_pattern cs) PatternToken
    else (if c == 96 then kind_if (is_quoted cs) QuotedName
    else separator_of c cs)

-- the kind of a whole slice in a mode
abbrev pub form_of : Mode → List ℕ → Option TokenKind
form_of mode [] = None
form_of Plain (c ∷ cs) = plain_form c cs
form_of Source (c ∷ cs) = source_form c cs
form_of Pattern (c ∷ cs) = pattern_form c cs

-- three quotes in a row always begin the second form of a text
abbrev pub begins_long_in : Mode → List ℕ → Bool
begins_long_in Plain text = begins_long text
begins_long_in Source text = false
begins_long_in Pattern text = false

-- the form of a slice where the text begins: none where a comment begins, and the second form of a text where three quotes stand
unfoldable pub form_at : Mode → List ℕ → List ℕ → Option TokenKind
form_at mode text slice =
    if begins_comment text then None
    else (if begins_long_in mode text then kind_if (is_long_text slice) Text
    else form_of mode slice)

-- a backtick opens a name, but not an empty pair of backticks that no third follows
abbrev pub opens_name : List ℕ → Bool
opens_name [] = false
opens_name (c ∷ []) = c == 96
opens_name (c ∷ d ∷ []) = c == 96 && not (d == 96)
opens_name (c ∷ d ∷ e ∷ rest) = c == 96 && (not (d == 96) || e == 96)

-- a quote opens a text
abbrev pub opens_text : List ℕ → Bool
opens_text [] = false
opens_text (c ∷ cs) = c == 34

-- a text or a name in quotes is opened
abbrev pub opens_quote : Mode → List ℕ → Bool
opens_quote Plain text = opens_text text || opens_name text
opens_quote Source text = false
opens_quote Pattern text = opens_name text

-- the text begins with a backslash
abbrev pub begins_escape : List ℕ → Bool
begins_escape [] = false
begins_escape (c ∷ cs) = c == 92

-- where a text in quotes has a backslash that escapes nothing, before its end or a line break
abbrev pub bad_escape_at : List ℕ → Option ℕ
bad_escape_at [] = None
bad_escape_at (c ∷ cs) =
    if (opens_text (c ∷ cs) && not (begins_long (c ∷ cs))) && begins_escape (drop (body_len OfText cs) cs) then Some (1 + body_len OfText cs) else None

abbrev pub bad_escape : Mode → List ℕ → Option ℕ
bad_escape Plain text = bad_escape_at text
bad_escape Source text = None
bad_escape Pattern text = None
