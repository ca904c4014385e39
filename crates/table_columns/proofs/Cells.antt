-- The cell at a row and a column.
use Rattle.std.proofs.Common.{◌≡◌, ℕ, zero, suc, ◌<◌, ◌≤◌, true, false, List, [], ◌∷◌, Some, map, length, get_or, sym, ap, ◌∙◌, subst, ⊎_elim, arith}
use Rattle.std.specs.Prelude.{IsSome}
use Rattle.std.specs.List.{range_with_len, slice_get}
use Rattle.std.specs.Option.{option_and_then}
use Rattle.std.proofs.lemmas.Bool.{cases_lt}
use Rattle.std.proofs.lemmas.List.{length-map}
use Rattle.std.proofs.lemmas.List.FromFn.{length-map-range_with_len, get_or-map-range_with_len}
use Rattle.esql_types.specs.declared.value.Value.{Value}
use Rattle.col_blocks.proofs.Gets.{get_past, get_at}
use Rattle.table_columns.specs.declared.held.HeldColumn.{HeldColumn}
use Rattle.table_columns.specs.Tables.{cell_in}
use Rattle.table_columns.specs.Held.{held, held_cell, held_row, all_held}

many : (columns : List HeldColumn) (row : ℕ) → length (held_row (all_held columns) row) ≡ length columns
many columns row = length-map (all_held columns) (held_cell row) ∙ length-map columns held

got_twice : (row : ℕ) (found : HeldColumn) (columns : List HeldColumn) (k : ℕ) → k < length columns → found ≡ get_or columns k found → slice_get (held_row (all_held columns) row) k ≡ Some (held_cell row (held found))
got_twice row found [] k within is = absurd (omega (arith, within))
got_twice row found (c ∷ columns) zero within is = ap (λ (c : HeldColumn). Some (held_cell row (held c))) (sym is)
got_twice row found (c ∷ columns) (suc k) within is = got_twice row found columns k (omega (arith, within)) is

module _ (count : ℕ) (columns : List HeldColumn) (row column : ℕ) where
  row_got : row < count → slice_get (map (held_row (all_held columns)) (range_with_len 0 count)) row ≡ Some (held_row (all_held columns) row)
  row_got below =
      let long = length-map-range_with_len (held_row (all_held columns)) 0 count in
      get_at (map (held_row (all_held columns)) (range_with_len 0 count)) row [] (omega arith) ∙ ap Some (get_or-map-range_with_len (held_row (all_held columns)) 0 count row row [] below (omega arith))

  -- a row and a column that have a cell are of the table
  pub row_within : IsSome (cell_in (map (held_row (all_held columns)) (range_with_len 0 count)) row column) → row < count
  row_within some = ⊎_elim
      (λ (below : row < count). below)
      (λ (past : count ≤ row).
      let long = length-map-range_with_len (held_row (all_held columns)) 0 count in
      let none : false ≡ true = subst (λ cells. IsSome (option_and_then (λ (cells : List (List Value)). slice_get cells column) cells)) (get_past (map (held_row (all_held columns)) (range_with_len 0 count)) row (omega arith)) some in
      absurd cc)
      (cases_lt row count)

  pub column_within : IsSome (cell_in (map (held_row (all_held columns)) (range_with_len 0 count)) row column) → column < length columns
  column_within some = ⊎_elim
      (λ (below : column < length columns). below)
      (λ (past : length columns ≤ column).
      let long = many columns row in
      let none : false ≡ true = subst IsSome (ap (option_and_then (λ (cells : List (List Value)). slice_get cells column)) (row_got (row_within some)) ∙ get_past (held_row (all_held columns) row) column (omega arith)) some in
      absurd cc)
      (cases_lt column (length columns))

  -- and it is that of the row in the column
  pub cell_got : (found : HeldColumn) → row < count → column < length columns → found ≡ get_or columns column found → cell_in (map (held_row (all_held columns)) (range_with_len 0 count)) row column ≡ Some (held_cell row (held found))
  cell_got found below within is =
      ap (option_and_then (λ (cells : List (List Value)). slice_get cells column)) (row_got below)
      ∙ got_twice row found columns column within is
