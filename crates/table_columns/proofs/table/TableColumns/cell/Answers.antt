use Rattle.std.proofs.Common.{◌≡◌, Some, sym, ap, ◌∙◌, subst, arith}
use Rattle.std.specs.Prelude.{IsSome}
use Rattle.std.proofs.lemmas.Result.{IfOk-weaker}
use Rattle.table_columns.specs.declared.held.HeldColumn.{HeldColumn}
use Rattle.table_columns.specs.Tables.{TableSeen, cell_in}
use Rattle.table_columns.specs.Held.{IsHeld, held, held_cell}
use Rattle.table_columns.proofs.Cells.{row_within, column_within, cell_got}
use Rattle.table_columns.proofs.Rows.{all_unmapped}
use Rattle.table_columns.proofs.table.TableColumns.cell.Goals as goal

pub index-requires : goal.index-requires
index-requires c =
    let t = c.self.inside in
    let asked = subst (λ (table : TableSeen). IsSome (cell_in table.rows c.args.row c.args.column)) (sym c.self.view_is) c.requires in
    let within = column_within t.count t.columns.items c.args.row c.args.column asked in
    omega (arith, t.columns.ok.0)

pub overflow_cast-row : goal.overflow_cast-row
overflow_cast-row c =
    let t = c.self.inside in
    let asked = subst (λ (table : TableSeen). IsSome (cell_in table.rows c.args.row c.args.column)) (sym c.self.view_is) c.requires in
    let below = row_within t.count t.columns.items c.args.row c.args.column asked in
    omega arith

pub cell-requires : goal.cell-requires
cell-requires c =
    let t = c.self.inside in
    let asked = subst (λ (table : TableSeen). IsSome (cell_in table.rows c.args.row c.args.column)) (sym c.self.view_is) c.requires in
    let within = column_within t.count t.columns.items c.args.row c.args.column asked in
    (t.count, subst (λ (column : HeldColumn). IsHeld t.count (held column)) (sym c.index.ensures) (all_unmapped (IsHeld t.count) held t.columns.items c.self.invariant c.args.column c.index.result.now within))

pub returns : goal.returns
returns c =
    let t = c.self.inside in
    let asked = subst (λ (table : TableSeen). IsSome (cell_in table.rows c.args.row c.args.column)) (sym c.self.view_is) c.requires in
    let below = row_within t.count t.columns.items c.args.row c.args.column asked in
    let within = column_within t.count t.columns.items c.args.row c.args.column asked in
    let got = cell_got t.count t.columns.items c.args.row c.args.column c.index.result.now below within c.index.ensures in
    IfOk-weaker c.cell.result (λ cell. cell ≡ held_cell c.args.row (held c.index.result.now)) (λ cell. cell_in c.args.self.now.rows c.args.row c.args.column ≡ Some cell)
    (λ cell is. ap (λ (table : TableSeen). cell_in table.rows c.args.row c.args.column) (sym c.self.view_is) ∙ got ∙ ap Some (sym is))
    c.cell.ensures
