-- The rows that a source gives by names are what is seen of those that it gives by numbers.
use Rattle.std.proofs.Common.{◌≡◌, ℕ, ◌+◌, ◌<◌, ◌≤◌, ◌==◌, Bool, false, cond, List, [], ◌∷◌, map, length, All, Option, Some, None, refl, ap, sym, subst, ◌∙◌, arith}
use Rattle.std.specs.Prelude.{slice_get}
use Rattle.std.specs.List.{flat_map}
use Rattle.std.proofs.lemmas.List.Elements.{All-nil, All-cons, All-weaker}
use Rattle.esql_types.specs.declared.value.Value.{Value}
use Rattle.esql_types.specs.declared.names.Column.{Column}
use Rattle.esql_ast.specs.declared.query.SourceCommand.{SourceCommand}
use Rattle.esql_ast.specs.declared.query.SourceCommand.TheVariants.{Tables, OneRow}
use Rattle.esql_plan.specs.declared.catalog.Catalog.{Catalog}
use Rattle.esql_plan.specs.declared.catalog.TableShape.{TableShape}
use Rattle.esql_plan.specs.declared.plan.OutColumn.{OutColumn}
use Rattle.esql_plan.specs.declared.plan.PlanSource.TheVariants as source
use Rattle.esql_plan.specs.declared.plan.ScanColumn.{ScanColumn}
use Rattle.esql_plan.specs.Values.{NumberedRow}
use Rattle.plan_semantics.specs.Tables.{TableHeld, CatalogHeld, catalog_tables, cell_named, empty_row, scan_row, scan_table, source_rows}
use Rattle.row_semantics.specs.declared.row.NamedCell.{NamedCell}
use Rattle.row_semantics.specs.Sources.{tables_named, columns_of_tables, columns_or_none}
use Rattle.query_semantics.specs.Meaning.{row_under, rows_under, rows_of_tables, one_row, rows_of_source, failures_of_source}
use Rattle.query_semantics.specs.Written.{numbered_from, scan_column, writing_of_columns, source_in_plan, write_source}
use Rattle.query_semantics.specs.Named.{named_cell, named_row}
use Rattle.query_semantics.proofs.Squares.{map_all, map_map, map_same, flat_map_same, map-flat_map}
use Rattle.query_semantics.proofs.Named.{IsBelow, AllBelow, eq_itself}
use Rattle.written_laws.proofs.Commands.{fields_stand}
use Rattle.written_laws.proofs.Standing.{Stands}

pub eq_above : (m n : ℕ) → m < n → n == m ≡ false
eq_above m n above = grind arith

abbrev pub IsFrom : ℕ → OutColumn → Type 0
IsFrom next column = next ≤ column.id.0

pub all_from : (next : ℕ) (columns : List Column) → All (IsFrom next) (numbered_from next columns)
all_from next [] = All-nil (IsFrom next)
all_from next (column ∷ columns) =
    All-cons (IsFrom next) _ (numbered_from (next + 1) columns) (omega arith)
    (All-weaker (IsFrom (next + 1)) (IsFrom next) (λ column from. omega (arith, from)) (numbered_from (next + 1) columns) (all_from (next + 1) columns))

pub all_below : (next last : ℕ) (columns : List Column) → next + length columns ≡ last → AllBelow last (numbered_from next columns)
all_below next last [] is = All-nil (IsBelow last)
all_below next last (column ∷ columns) is =
    All-cons (IsBelow last) _ (numbered_from (next + 1) columns) (omega (arith, is)) (all_below (next + 1) last columns (omega (arith, is)))

-- the columns of a scan, by their numbers
abbrev pub scan_from : ℕ → List Column → List ScanColumn
scan_from next columns = map scan_column (numbered_from next columns)

abbrev cell_under : List Column → List (List Value) → Column → NamedCell
cell_under own cells column = record { name = column.name; cell = cell_named own cells column.name }

scan_named : (next : ℕ) (columns own : List Column) (cells : List (List Value)) → named_row (numbered_from next columns) (scan_row (scan_from next columns) own cells) ≡ map (cell_under own cells) columns
scan_named next [] own cells = refl
scan_named next (column ∷ columns) own cells =
    let rest : NumberedRow = scan_row (scan_from (next + 1) columns) own cells in
    let all : NumberedRow = scan_row (scan_from next (column ∷ columns)) own cells in
    let first : all next ≡ cell_named own cells column.name = ap (λ (b : Bool). cond b (cell_named own cells column.name) (rest next)) (eq_itself next) in
    let others : named_row (numbered_from (next + 1) columns) all ≡ named_row (numbered_from (next + 1) columns) rest =
    map_all (IsFrom (next + 1)) (named_cell all) (named_cell rest)
    (λ out from. ap (λ (b : Bool). record { name = out.name; cell = cond b (cell_named own cells column.name) (rest out.id.0) }) (eq_above next out.id.0 (omega (arith, from))))
    (numbered_from (next + 1) columns) (all_from (next + 1) columns) in
    λ i. record { name = column.name; cell = first i } ∷ (others ∙ scan_named (next + 1) columns own cells) i

-- the rows of a table
table_named : (columns : List Column) (table : Option TableHeld) → rows_under columns table ≡ map (named_row (numbered_from 0 columns)) (scan_table (scan_from 0 columns) table)
table_named columns None = refl
table_named columns (Some table) =
    let scanned : List (List Value) → NumberedRow = scan_row (scan_from 0 columns) table.shape.columns in
    sym (map_map (named_row (numbered_from 0 columns)) scanned table.rows
    ∙ map_same (λ cells. named_row (numbered_from 0 columns) (scanned cells)) (row_under columns table) (λ cells. scan_named 0 columns table.shape.columns cells) table.rows)

-- the rows of tables under columns, one table after another
tables_stand : (held : CatalogHeld) (columns : List Column) (numbers : List ℕ)
    → Stands held (source_rows held.tables (source.Scan numbers (scan_from 0 columns))) (flat_map (λ number. rows_under columns (slice_get held.tables number)) numbers) [] (writing_of_columns columns)
tables_stand held columns numbers = record {
  rows_are =
      flat_map_same (λ number. rows_under columns (slice_get held.tables number)) (λ number. map (named_row (numbered_from 0 columns)) (scan_table (scan_from 0 columns) (slice_get held.tables number)))
      (λ number. table_named columns (slice_get held.tables number)) numbers
      ∙ sym (map-flat_map (named_row (numbered_from 0 columns)) (λ number. scan_table (scan_from 0 columns) (slice_get held.tables number)) numbers);
  failures_are = refl;
  below = all_below 0 (length columns) columns (omega arith);
}

pub source_stands : (text : List ℕ) (held : CatalogHeld) (catalog : Catalog) (command : SourceCommand) → catalog.tables ≡ catalog_tables held.tables
    → Stands held (source_rows held.tables (source_in_plan catalog command)) (rows_of_source text held.tables command) (failures_of_source text command) (write_source text catalog command)
source_stands text held catalog (Tables node span names) is =
    let StandsFor : List TableShape → Type 0 = λ shapes.
    Stands held (source_rows held.tables (source.Scan (tables_named shapes names) (scan_from 0 (columns_or_none (columns_of_tables shapes names))))) (rows_of_tables held.tables names) []
    (writing_of_columns (columns_or_none (columns_of_tables shapes names))) in
    subst StandsFor (sym is) (tables_stand held (columns_or_none (columns_of_tables (catalog_tables held.tables) names)) (tables_named (catalog_tables held.tables) names))
source_stands text held catalog (OneRow node span fields) is =
    fields_stand text held (empty_row ∷ []) fields one_row [] (writing_of_columns []) (record { rows_are = refl; failures_are = refl; below = All-nil (IsBelow 0) })
