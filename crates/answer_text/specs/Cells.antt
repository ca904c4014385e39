-- Values and cells as texts.
use Rattle.std.specs.Prelude.{ℕ, List, [], ◌∷◌, ◌++◌, if◌then◌else◌, codes}
use Rattle.std.specs.Fmt.{signed_decimal}
use Rattle.std.specs.List.{join_by}
use Rattle.esql_types.specs.declared.value.Value.{Value}
use Rattle.esql_types.specs.declared.value.Value.TheVariants.{Int, Long, Bool as Boolean, Text as Keyword}

-- a decimal number, `true`, `false`, or the keyword
abbrev pub value_text : Value → List ℕ
value_text (Int number) = signed_decimal number
value_text (Long number) = signed_decimal number
value_text (Boolean truth) = if truth then codes "true" else codes "false"
value_text (Keyword text) = text

-- `null`, the text of the one value, or the texts of several joined by `, ` in brackets
abbrev pub cell_text : List Value → List ℕ
cell_text [] = codes "null"
cell_text (value ∷ []) = value_text value
cell_text (first ∷ second ∷ rest) = codes "[" ++ join_by value_text (codes ", ") (first ∷ second ∷ rest) ++ codes "]"
