use Rattle.std.proofs.Common.{ℕ, ◌+◌, List, [], ◌∷◌, ◌++◌, length, sym, ap, ◌∙◌, subst, arith}
use Rattle.std.proofs.lemmas.List.FromFn.{length-map-range_with_len}
use Rattle.esql_types.specs.declared.value.Value.{Value}
use Rattle.table_columns.specs.declared.growing.GrowingColumn.{GrowingColumn}
use Rattle.table_columns.specs.Sparse.{item_of}
use Rattle.table_columns.specs.Placing.{placed}
use Rattle.table_columns.specs.Tables.{TableSeen, columns_present, cells_present, row_of}
use Rattle.table_columns.specs.Held.{AreClosed, AreHeld, held_row, table_of, all_grown}
use Rattle.table_columns.proofs.Presents.{many_kinds}
use Rattle.table_columns.proofs.Places.{placed_at, length-placed}
use Rattle.table_columns.proofs.Rows.{table_more, held_more, closed_more}
use Rattle.table_columns.proofs.builder.TableBuilder.push_row.Goals as goal

pub overflow_add-result : goal.overflow_add-result
overflow_add-result c =
    let many = length-map-range_with_len (held_row (all_grown c.self.inside.columns.items)) 0 c.self.inside.count in
    let same = ap (λ (table : TableSeen). length table.rows) c.self.view_is in
    let room = c.requires.room in
    omega arith

pub invariant_of-result : goal.invariant_of-result
invariant_of-result c =
    let number = c.self.inside.count in
    let columns = c.self.inside.columns.items in
    let present = c.args.present.now in
    let of : ℕ → List Value = item_of (columns_present present) (cells_present present) in
    let after = placed number present columns in
    let is = c.in_ok-place_cells.ensures in (
      subst AreClosed (sym is) (closed_more number of columns after (length-placed number present columns) c.self.invariant.1 (λ k d within. placed_at number 0 present (length c.args.self.kinds) columns k d c.requires.present.rise within) c.self.invariant.0),
      subst (λ (columns : List GrowingColumn). AreHeld (number + 1) (all_grown columns)) (sym is) (held_more number of columns after (length-placed number present columns) c.self.invariant.1 (λ k d within. placed_at number 0 present (length c.args.self.kinds) columns k d c.requires.present.rise within)),
    )

pub returns : goal.returns
returns c =
    let number = c.self.inside.count in
    let columns = c.self.inside.columns.items in
    let present = c.args.present.now in
    let of : ℕ → List Value = item_of (columns_present present) (cells_present present) in
    let table = table_of number (all_grown columns) in
    ap (λ (columns : List GrowingColumn). table_of (number + 1) (all_grown columns)) c.in_ok-place_cells.ensures
    ∙ table_more number of columns (placed number present columns) (length-placed number present columns) c.self.invariant.1 (λ k d within. placed_at number 0 present (length c.args.self.kinds) columns k d c.requires.present.rise within)
    ∙ ap (λ (width : ℕ). record table { rows = table.rows ++ row_of width present ∷ [] }) (sym (many_kinds columns))
    ∙ ap (λ (table : TableSeen). record table { rows = table.rows ++ row_of (length table.kinds) present ∷ [] }) c.self.view_is
