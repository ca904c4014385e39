-- Each row has cells of the kinds of the columns.
use Rattle.std.proofs.Common.{ℕ, zero, suc, ◌+◌, true, List, ◌∷◌, All, refl, ◌≡◌}
use Rattle.std.specs.List.{AllZip}
use Rattle.std.proofs.lemmas.List.Elements.{All-nil, All-cons}
use Rattle.esql_types.specs.declared.names.Column.{Column}
use Rattle.esql_types.specs.declared.value.Value.{Value}
use Rattle.esql_plan.specs.Fits.{has_kind}
use Rattle.plan_semantics.specs.WellFormed.{IsTable}
use Rattle.table_generator.specs.Rows.{next_number, taken_of, cells_of, rows_behind}
use Rattle.table_generator.specs.Tables.{generated_shape, generated_table}

abbrev HasKinds : List (List Value) → Type 0
HasKinds cells = AllZip (λ (column : Column) (cell : List Value). has_kind column.kind cell ≡ true) generated_shape.columns cells

rows_kinded : (more before number : ℕ) → All HasKinds (rows_behind more before number)
rows_kinded zero before number = All-nil HasKinds
rows_kinded (suc more) before number =
    All-cons HasKinds (cells_of (before + 1) (taken_of number)) (rows_behind more (before + 1) (next_number number)) (refl, (refl, (refl, tt))) (rows_kinded more (before + 1) (next_number number))

pub table_kinded : (seed rows : ℕ) → IsTable (generated_table seed rows)
table_kinded seed rows = rows_kinded rows 0 (next_number seed)
