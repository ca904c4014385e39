-- Which rows of a policy's tables match a cell, and what the match gives.
use Rattle.std.specs.Prelude.{ℕ, Bool, List, [], map, filter, slice_index_or}
use Rattle.std.specs.List.{flat_map, list_any, range_with_len}
use Rattle.std.specs.Ordering.{is_eq}
use Rattle.esql_types.specs.Values.{value_cmp}
use Rattle.esql_types.specs.declared.value.Value.{Value}
use Rattle.esql_types.specs.declared.value.Value.TheVariants.{Int, Long, Bool as Boolean, Text as Keyword}

-- a row that a policy looks at: the cell of its match field, and the cells of its fields
pub record MatchRow : Type 0 where
  pub key : List Value
  pub fields : List (List Value)

-- an integer as the long of the same number; any other value as it is
abbrev pub widened : Value → Value
widened (Int number) = Long number
widened (Long number) = Long number
widened (Boolean truth) = Boolean truth
widened (Keyword text) = Keyword text

-- two values are equal, an integer as the long of the same number
abbrev pub equal_widened : Value → Value → Bool
equal_widened left right = is_eq (value_cmp (widened left) (widened right))

-- the row's match field has a value equal to one of the cell
abbrev pub is_match : List Value → MatchRow → Bool
is_match cell row = list_any (λ value. list_any (equal_widened value) row.key) cell

-- a field's values of the matching rows, in row order and with repeats: null where no row matches
abbrev pub matched_cell : List MatchRow → List Value → ℕ → List Value
matched_cell rows cell field = flat_map (λ (row : MatchRow). slice_index_or row.fields field []) (filter (is_match cell) rows)

-- the cells of so many fields
abbrev pub matched_cells : ℕ → List MatchRow → List Value → List (List Value)
matched_cells fields rows cell = map (matched_cell rows cell) (range_with_len 0 fields)
