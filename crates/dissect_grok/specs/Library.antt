-- The library of GROK: names, each with its expression, in which `%{NAME}` stands for the expression of another name.
use Rattle.std.specs.Prelude.{ℕ, zero, suc, ◌+◌, List, [], ◌∷◌, ◌++◌, length, Option, Some, None, option_map, option_and_then, codes, if◌then◌else◌}
use Rattle.std.specs.Str.{bytes_eq}
use Rattle.dissect_grok.specs.Texts.{cut_at}

abbrev pub library : List (List ℕ × List ℕ)
library =
    (codes "WORD", codes "\\b\\w+\\b")
    ∷ (codes "NOTSPACE", codes "\\S+")
    ∷ (codes "SPACE", codes "\\s*")
    ∷ (codes "DATA", codes ".*?")
    ∷ (codes "GREEDYDATA", codes ".*")
    ∷ (codes "INT", codes "[+-]?[0-9]+")
    ∷ (codes "POSINT", codes "\\b[1-9][0-9]*\\b")
    ∷ (codes "NONNEGINT", codes "\\b[0-9]+\\b")
    ∷ (codes "NUMBER", codes "[+-]?(?:[0-9]+(?:\\.[0-9]+)?|\\.[0-9]+)")
    ∷ (codes "BASE16NUM", codes "(?:0[xX])?[0-9A-Fa-f]+")
    ∷ (codes "USERNAME", codes "[a-zA-Z0-9._-]+")
    ∷ (codes "USER", codes "[a-zA-Z0-9._-]+")
    ∷ (codes "QUOTEDSTRING", codes "\"(?:[^\"\\\\]|\\\\.)*\"")
    ∷ (codes "UUID", codes "[A-Fa-f0-9]{8}-(?:[A-Fa-f0-9]{4}-){3}[A-Fa-f0-9]{12}")
    ∷ (codes "IPV4", codes "(?:[0-9]{1,3}\\.){3}[0-9]{1,3}")
    ∷ (codes "HOSTNAME", codes "\\b[0-9A-Za-z][0-9A-Za-z-]*(?:\\.[0-9A-Za-z][0-9A-Za-z-]*)*\\b")
    ∷ (codes "IPORHOST", codes "%{IPV4}|%{HOSTNAME}")
    ∷ (codes "UNIXPATH", codes "(?:/[^\\s?#]*)+")
    ∷ (codes "URIPATH", codes "(?:/[^\\s?#]*)+")
    ∷ (codes "LOGLEVEL", codes "(?i:trace|debug|info|notice|warn|warning|error|fatal)")
    ∷ (codes "YEAR", codes "[0-9]{4}")
    ∷ (codes "MONTHNUM", codes "[0-9]{2}")
    ∷ (codes "MONTHDAY", codes "[0-9]{2}")
    ∷ (codes "HOUR", codes "[0-9]{2}")
    ∷ (codes "MINUTE", codes "[0-9]{2}")
    ∷ (codes "SECOND", codes "[0-9]{2}(?:[.,][0-9]+)?")
    ∷ (
      codes "TIMESTAMP_ISO8601",
      codes "%{YEAR}-%{MONTHNUM}-%{MONTHDAY}[T ]%{HOUR}:%{MINUTE}(?::%{SECOND})?(?:Z|[+-][0-9]{2}:?[0-9]{2})?",
    )
    ∷ []

-- the expression of a name in a library
abbrev pub expression_in : List (List ℕ × List ℕ) → List ℕ → Option (List ℕ)
expression_in [] name = None
expression_in ((other, expression) ∷ rest) name = if bytes_eq name other then Some expression else expression_in rest name

-- the expression of a name, as the library has it
abbrev pub expression_of : List ℕ → Option (List ℕ)
expression_of name = expression_in library name

-- the group of an expression, without a name
abbrev pub unnamed_group : List ℕ → List ℕ
unnamed_group expression = codes "(?:" ++ (expression ++ codes ")")

-- a literal and the group of an expression before a text
abbrev pub with_group_before : List ℕ → List ℕ → List ℕ → List ℕ
with_group_before literal expression text = literal ++ (unnamed_group expression ++ text)

-- a literal and the group of a name's expression before what `more` makes of the rest
abbrev pub name_replaced : (List ℕ → Option (List ℕ)) → List ℕ → Option (List ℕ × List ℕ) → Option (List ℕ)
name_replaced more literal None = None
name_replaced more literal (Some (name, rest)) =
    option_and_then (λ expression. option_map (with_group_before literal expression) (more rest)) (expression_of name)

-- what stands behind a `%{`, up to the first `}`, is a name
abbrev pub replaced_behind : (List ℕ → Option (List ℕ)) → List ℕ → Option (List ℕ × List ℕ) → Option (List ℕ)
replaced_behind more text None = Some text
replaced_behind more text (Some (literal, behind)) = name_replaced more literal (cut_at (codes "}") behind)

-- an expression with each of its names, fewer than so many, replaced by the group of that name's expression
abbrev pub replaced_within : ℕ → List ℕ → Option (List ℕ)
replaced_within zero text = None
replaced_within (suc count) text = replaced_behind (λ rest. replaced_within count rest) text (cut_at (codes "%{") text)

-- an expression with its names replaced: never more than it has bytes
abbrev pub names_replaced : List ℕ → Option (List ℕ)
names_replaced text = replaced_within (length text + 1) text

-- the expression of a name, written out; the names in it are of expressions without names
abbrev pub written_out : List ℕ → Option (List ℕ)
written_out name = option_and_then names_replaced (expression_of name)
