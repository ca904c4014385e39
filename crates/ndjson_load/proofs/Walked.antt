-- The cells of a row, of which each took what its column is to take.
use Rattle.std.proofs.Common.{◌≡◌, ℕ, zero, suc, ◌<◌, List, [], ◌∷◌, length, get_or, replicate, Ok, refl, sym, ap, ◌∙◌, arith}
use Rattle.std.proofs.lemmas.List.{append-nil, get_or-replicate}
use Rattle.serde_json.specs.Data.{Data}
use Rattle.esql_types.specs.declared.value.Value.{Value as CellValue}
use Rattle.ndjson_load.specs.Gathering.{gather}
use Rattle.ndjson_load.specs.Joining.{joined, after, join_all}
use Rattle.ndjson_load.specs.Rows.{cell_of, cell_from, cells_of, taken}
use Rattle.ndjson_load.specs.Spreading.{Spreads, nothing}
use Rattle.ndjson_load.specs.declared.column.MappedColumn.{MappedColumn}
use Rattle.ndjson_load.proofs.Joins.{joined-none}

module _ (line : ℕ) (d : Data) where
  row_of_cells : (columns : List MappedColumn) (cells : List (List CellValue)) → length cells ≡ length columns
      → ((i : ℕ) (c : MappedColumn) → i < length columns → taken (get_or columns i c) (gather d (get_or columns i c).column.name) ≡ Ok (get_or cells i [])) → cells_of line columns d ≡ Ok cells
  row_of_cells [] [] same each = refl
  row_of_cells [] (cell ∷ cells) same each = absurd (omega arith)
  row_of_cells (column ∷ columns) [] same each = absurd (omega arith)
  row_of_cells (column ∷ columns) (cell ∷ cells) same each =
      let first : cell_of line d column ≡ Ok (cell ∷ []) = ap (cell_from line column.column.name) (each zero column (omega arith)) in
      let later : cells_of line columns d ≡ Ok cells = row_of_cells columns cells (omega arith) (λ i c within. each (suc i) c (omega arith)) in
      ap (λ r. joined r (join_all (cell_of line d) columns)) first ∙ ap (joined (Ok (cell ∷ []))) later

  -- an object that was walked once, from null cells on
  pub cells_walked : (columns : List MappedColumn) (n : ℕ) (cells : List (List CellValue)) → n ≡ length columns → length cells ≡ n → Spreads columns zero zero n (gather d) nothing (replicate n []) cells → cells_of line columns d ≡ Ok cells
  cells_walked columns n cells same wide h = row_of_cells columns cells (wide ∙ same) (λ i c within.
      let column = get_or columns i c in
      let had : get_or (replicate n []) i [] ≡ [] = get_or-replicate n i [] [] (omega arith) in
      joined-none (taken column (gather d column.column.name))
      ∙ ap (λ (xs : List CellValue). after xs (taken column (gather d column.column.name))) (sym had)
      ∙ h.inside i c (omega arith) (omega arith)
      ∙ ap Ok (append-nil (get_or cells i [])))
