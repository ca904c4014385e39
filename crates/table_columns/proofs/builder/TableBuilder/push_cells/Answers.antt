use Rattle.std.proofs.Common.{◌≡◌, ℕ, ◌+◌, List, [], ◌∷◌, ◌++◌, length, get_or, sym, ap, ◌∙◌, subst, arith}
use Rattle.std.proofs.lemmas.List.FromFn.{length-map-range_with_len}
use Rattle.esql_types.specs.declared.value.Value.{Value}
use Rattle.table_columns.specs.declared.growing.GrowingColumn.{GrowingColumn}
use Rattle.table_columns.specs.Tables.{TableSeen}
use Rattle.table_columns.specs.Held.{AreClosed, AreHeld, held_row, table_of, all_grown}
use Rattle.table_columns.specs.Placing.{filled}
use Rattle.table_columns.proofs.Presents.{many_kinds}
use Rattle.table_columns.proofs.Fills.{length-filled, filled_at, as_many_cells, all_cells}
use Rattle.table_columns.proofs.Rows.{table_more, held_more, closed_more}
use Rattle.table_columns.proofs.builder.TableBuilder.push_cells.Goals as goal

pub overflow_add-result : goal.overflow_add-result
overflow_add-result c =
    let many = length-map-range_with_len (held_row (all_grown c.self.inside.columns.items)) 0 c.self.inside.count in
    let same = ap (λ (table : TableSeen). length table.rows) c.self.view_is in
    let room = c.requires.room in
    omega arith

pub invariant_of-result : goal.invariant_of-result
invariant_of-result c =
    let number = c.self.inside.count in
    let columns = c.self.inside.columns.items in
    let cells = c.args.cells.now in
    let of : ℕ → List Value = λ (k : ℕ). get_or cells k [] in
    let after = filled number cells columns in
    let is = c.in_ok-fill_cells.ensures in (
      subst AreClosed (sym is) (closed_more number of columns after (length-filled number cells columns) c.self.invariant.1 (λ k d within. filled_at number cells columns k d within) c.self.invariant.0),
      subst (λ (columns : List GrowingColumn). AreHeld (number + 1) (all_grown columns)) (sym is) (held_more number of columns after (length-filled number cells columns) c.self.invariant.1 (λ k d within. filled_at number cells columns k d within)),
    )

pub returns : goal.returns
returns c =
    let number = c.self.inside.count in
    let columns = c.self.inside.columns.items in
    let cells = c.args.cells.now in
    let of : ℕ → List Value = λ (k : ℕ). get_or cells k [] in
    let table = table_of number (all_grown columns) in
    let kinds : length table.kinds ≡ length c.args.self.kinds = ap (λ (table : TableSeen). length table.kinds) c.self.view_is in
    let long : length cells ≡ length columns = as_many_cells c.args.self.kinds cells c.requires.cells ∙ sym kinds ∙ many_kinds columns in
    ap (λ (columns : List GrowingColumn). table_of (number + 1) (all_grown columns)) c.in_ok-fill_cells.ensures
    ∙ table_more number of columns (filled number cells columns) (length-filled number cells columns) c.self.invariant.1 (λ k d within. filled_at number cells columns k d within)
    ∙ ap (λ (row : List (List Value)). record table { rows = table.rows ++ row ∷ [] }) (all_cells cells (length columns) long)
    ∙ ap (λ (table : TableSeen). record table { rows = table.rows ++ cells ∷ [] }) c.self.view_is
