-- What the values of the options and of the operand say.
use Rattle.std.specs.Prelude.{ℕ, ◌≤◌, ⊤, ◌==◌, ◌&&◌, Bool, List, length, nat_lt, nat_le, Option, Some, None, codes, if◌then◌else◌, option_and_then}
use Rattle.std.specs.List.{before_first, after_first}
use Rattle.std.specs.Str.{all_ascii_digits, bytes_eq}
use Rattle.std.specs.Str.Parse.{digits_value}
use Rattle.esql_words.specs.declared.options.Format.{Format}
use Rattle.esql_words.specs.declared.options.Format.TheVariants.{Txt, Csv, Json}
use Rattle.esql_words.specs.declared.options.Request.{Request}
use Rattle.esql_words.specs.declared.options.Request.TheVariants.{Query, Generate}

-- the number that a text of one ASCII digit or more spells
abbrev pub number_of : List ℕ → Option ℕ
number_of text = if nat_lt 0 (length text) && all_ascii_digits text then Some (digits_value 10 text) else None

abbrev pub if_within : ℕ → ℕ → ℕ → Option ℕ
if_within least most number = if nat_le least number && nat_le number most then Some number else None

-- the number that a text spells, where it lies between two others
abbrev pub number_within : ℕ → ℕ → List ℕ → Option ℕ
number_within least most text = option_and_then (if_within least most) (number_of text)

-- a page has 1,024 rows where nothing is said, and else from 1 to 65,536
abbrev pub page_size_in : Option (List ℕ) → Option ℕ
page_size_in None = Some 1024
page_size_in (Some text) = number_within 1 65536 text

-- the format of a name
abbrev pub format_named : List ℕ → Option Format
format_named name =
    if bytes_eq name (codes "txt") then Some Txt
    else if bytes_eq name (codes "csv") then Some Csv
    else if bytes_eq name (codes "json") then Some Json
    else None

-- the format is txt where nothing is said
abbrev pub format_in : Option (List ℕ) → Option Format
format_in None = Some Txt
format_in (Some name) = format_named name

abbrev pub is_comma : ℕ → Bool
is_comma byte = byte == 44

abbrev pub generate_with : Option ℕ → Option ℕ → Option Request
generate_with None rows = None
generate_with (Some seed) None = None
generate_with (Some seed) (Some rows) = Some (Generate seed rows)

-- A seed of 64 bits before the first comma, and from 1 to 1,000,000 rows after it. Nothing stands after a comma that is not
-- there, and nothing spells no number.
abbrev pub generate_of : List ℕ → Option Request
generate_of text =
    generate_with (number_within 0 18446744073709551615 (before_first is_comma text)) (number_within 1 1000000 (after_first is_comma text))

-- a query or a table to be made, and not both
abbrev pub request_in : Option (List ℕ) → Option (List ℕ) → Option Request
request_in None None = None
request_in None (Some generate) = generate_of generate
request_in (Some query) None = Some (Query query)
request_in (Some query) (Some generate) = None

-- a table to be made has from 1 to 1,000,000 rows
abbrev pub RowsFit : Request → Type 0
RowsFit (Query text) = ⊤
RowsFit (Generate seed rows) = (1 ≤ rows) × (rows ≤ 1000000)
