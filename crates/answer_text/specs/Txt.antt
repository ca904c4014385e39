-- The layout `txt` of a table: a line of names, a line of dashes, and a line for each row.
use Rattle.std.specs.Prelude.{ℕ, ◌-◌, ◌/◌, ◌%◌, max, ◌==◌, nat_lt, if◌then◌else◌, List, [], ◌∷◌, ◌++◌, map, length, replicate, slice_index_or, fold, zip, flat_map, codes, chars, encode_utf8}
use Rattle.std.specs.Char.{digit_char}
use Rattle.std.specs.List.{join_by, range_with_len}
use Rattle.esql_types.specs.declared.names.Column.{Column}
use Rattle.esql_types.specs.declared.value.Value.{Value}
use Rattle.answer_text.specs.Cells.{cell_text}

-- Line feed, carriage return and tab print as `\n`, `\r` and `\t`, other characters below 32 as `\x` and two lower
-- hexadecimal digits, and each other character as itself.
abbrev pub printed_character : ℕ → List ℕ
printed_character c =
    if c == 10 then codes "\\n"
    else (if c == 13 then codes "\\r"
    else (if c == 9 then codes "\\t"
    else (if nat_lt c 32 then codes "\\x" ++ digit_char (c / 16) ∷ digit_char (c % 16) ∷ []
    else encode_utf8 c)))

-- a name or a cell's text as it is printed
abbrev pub printed : List ℕ → List ℕ
printed text = flat_map printed_character (chars text)

-- the names of the columns as they are printed
abbrev pub heads_of : List Column → List (List ℕ)
heads_of columns = map (λ column. printed column.name) columns

-- the cells of a row as they are printed
abbrev pub texts_of : List (List Value) → List (List ℕ)
texts_of row = map (λ cell. printed (cell_text cell)) row

-- how many characters a text has
abbrev pub width_of : List ℕ → ℕ
width_of text = length (chars text)

-- the column at a place is as wide as the widest text that the lines have there
abbrev pub column_width : List (List (List ℕ)) → ℕ → ℕ
column_width lines place = fold (λ width line. max width (width_of (slice_index_or line place []))) 0 lines

-- the widths of the first columns, as many as are asked for
abbrev pub widths : List (List (List ℕ)) → ℕ → List ℕ
widths lines columns = map (column_width lines) (range_with_len 0 columns)

-- the text, and spaces on its right up to the width
abbrev pub padded : ℕ → List ℕ → List ℕ
padded width text = text ++ replicate (width - width_of text) 32

-- The texts of a line beside the widths of their columns: every text but the last is padded to its width, and they are
-- joined by ` | `.
abbrev pub line_of : List (ℕ × List ℕ) → List ℕ
line_of [] = []
line_of (last ∷ []) = last.1
line_of (first ∷ second ∷ rest) = padded first.0 first.1 ++ codes " | " ++ line_of (second ∷ rest)

-- as many dashes as each column is wide, joined by `-+-`
abbrev pub dashes : List ℕ → List ℕ
dashes widths = join_by (λ width. replicate width 45) (codes "-+-") widths

-- a line of the names, one of dashes, and one for each row, each ended by a line feed
abbrev pub lines_of : List ℕ → List (List ℕ) → List (List (List ℕ)) → List ℕ
lines_of widths heads rows =
    line_of (zip widths heads) ++ codes "\n"
    ++ dashes widths ++ codes "\n"
    ++ flat_map (λ texts. line_of (zip widths texts) ++ codes "\n") rows

-- the names and the rows as they are printed, in columns that are as wide as the widest of both
abbrev pub table_of : List (List ℕ) → List (List (List ℕ)) → List ℕ
table_of heads rows = lines_of (widths (heads ∷ rows) (length heads)) heads rows

-- a table in the layout `txt`
abbrev pub shown_txt : List Column → List (List (List Value)) → List ℕ
shown_txt columns rows = table_of (heads_of columns) (map texts_of rows)
