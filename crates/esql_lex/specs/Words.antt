-- The reserved words and the signs, as they are written.
use Rattle.std.specs.Prelude.{ℕ, ◌==◌, ◌&&◌, Bool, List, [], ◌∷◌, Option, Some, None, find, codes, if◌then◌else◌}
use Rattle.std.specs.Str.{str_eq_ignore_ascii_case}
use Rattle.esql_lex.specs.declared.token.Reserved.{Reserved}
use Rattle.esql_lex.specs.declared.token.Reserved.TheVariants.{And, Or, Not, In, Is, Like, Rlike, Null, True, False, Asc, Desc, Nulls, First, Last, By, As, On, With}
use Rattle.esql_lex.specs.declared.token.Sign.{Sign}
use Rattle.esql_lex.specs.declared.token.Sign.TheVariants.{Bar, Comma, OpenParen, CloseParen, OpenBracket, CloseBracket, Plus, Minus, Star, Slash, Percent, Equal, NotEqual, Less, LessEqual, Greater, GreaterEqual, Assign, Cast}

-- a reserved word in small letters
abbrev pub spelling_of : Reserved → List ℕ
spelling_of And = codes "and"
spelling_of Or = codes "or"
spelling_of Not = codes "not"
spelling_of In = codes "in"
spelling_of Is = codes "is"
spelling_of Like = codes "like"
spelling_of Rlike = codes "rlike"
spelling_of Null = codes "null"
spelling_of True = codes "true"
spelling_of False = codes "false"
spelling_of Asc = codes "asc"
spelling_of Desc = codes "desc"
spelling_of Nulls = codes "nulls"
spelling_of First = codes "first"
spelling_of Last = codes "last"
spelling_of By = codes "by"
spelling_of As = codes "as"
spelling_of On = codes "on"
spelling_of With = codes "with"

-- every reserved word
abbrev pub reserved_words : List Reserved
reserved_words = And ∷ Or ∷ Not ∷ In ∷ Is ∷ Like ∷ Rlike ∷ Null ∷ True ∷ False ∷ Asc ∷ Desc ∷ Nulls ∷ First ∷ Last ∷ By ∷ As ∷ On ∷ With ∷ []

-- a slice is a word, without regard to ASCII case
abbrev pub is_word : List ℕ → Reserved → Bool
is_word slice word = str_eq_ignore_ascii_case slice (spelling_of word)

-- the reserved word that a slice is
unfoldable pub reserved_of : List ℕ → Option Reserved
reserved_of slice = find (is_word slice) reserved_words

-- the sign of one character: | , ( ) [ ] + - * / % < > =
unfoldable pub short_sign : ℕ → Option Sign
short_sign c =
    if c == 124 then Some Bar
    else (if c == 44 then Some Comma
    else (if c == 40 then Some OpenParen
    else (if c == 41 then Some CloseParen
    else (if c == 91 then Some OpenBracket
    else (if c == 93 then Some CloseBracket
    else (if c == 43 then Some Plus
    else (if c == 45 then Some Minus
    else (if c == 42 then Some Star
    else (if c == 47 then Some Slash
    else (if c == 37 then Some Percent
    else (if c == 60 then Some Less
    else (if c == 62 then Some Greater
    else (if c == 61 then Some Assign
    else None)))))))))))))

-- the sign of two characters: == != <= >= ::
unfoldable pub long_sign : ℕ → ℕ → Option Sign
long_sign c d =
    if c == 61 && d == 61 then Some Equal
    else (if c == 33 && d == 61 then Some NotEqual
    else (if c == 60 && d == 61 then Some LessEqual
    else (if c == 62 && d == 61 then Some GreaterEqual
    else (if c == 58 && d == 58 then Some Cast
    else None))))

-- the sign of two characters that a text begins with
abbrev pub long_sign_at : List ℕ → Option Sign
long_sign_at [] = None
long_sign_at (c ∷ []) = None
long_sign_at (c ∷ d ∷ rest) = long_sign c d

-- the signs that every mode has: | ,
unfoldable pub separator : ℕ → Option Sign
separator c = if c == 124 then Some Bar else (if c == 44 then Some Comma else None)
