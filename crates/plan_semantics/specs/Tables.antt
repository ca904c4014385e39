-- The tables of a catalog with their rows, and the rows that the source of a plan gives of them.
use Rattle.std.specs.Prelude.{ℕ, ◌==◌, List, [], ◌∷◌, map, Option, Some, None, slice_get, if◌then◌else◌}
use Rattle.std.specs.List.{flat_map}
use Rattle.std.specs.Str.{bytes_eq}
use Rattle.esql_types.specs.declared.value.Value.{Value}
use Rattle.esql_types.specs.declared.names.Column.{Column}
use Rattle.esql_plan.specs.declared.catalog.Catalog.{Catalog}
use Rattle.esql_plan.specs.declared.catalog.PolicyShape.{PolicyShape}
use Rattle.esql_plan.specs.declared.catalog.TableShape.{TableShape}
use Rattle.esql_plan.specs.declared.plan.PlanSource.{PlanSource}
use Rattle.esql_plan.specs.declared.plan.PlanSource.TheVariants.{OneRow, Scan}
use Rattle.esql_plan.specs.declared.plan.ScanColumn.{ScanColumn}
use Rattle.esql_plan.specs.Values.{NumberedRow}

-- a table of a catalog with its rows, each of which has its cells in the order of the shape's columns
pub record TableHeld : Type 0 where
  pub shape : TableShape
  pub rows : List (List (List Value))

-- the tables of the catalog, without their rows
abbrev pub catalog_tables : List TableHeld → List TableShape
catalog_tables tables = map (λ table. table.shape) tables

-- a catalog whose tables have their rows
pub record CatalogHeld : Type 0 where
  pub tables : List TableHeld
  pub policies : List PolicyShape

-- the catalog, without the rows of its tables
abbrev pub catalog_held : CatalogHeld → Catalog
catalog_held held = record { tables = catalog_tables held.tables; policies = held.policies }

-- the cell of a name in a row of these columns, null where there is no such column
abbrev pub cell_named : List Column → List (List Value) → List ℕ → List Value
cell_named [] cells name = []
cell_named (column ∷ columns) [] name = []
cell_named (column ∷ columns) (cell ∷ cells) name = if bytes_eq column.name name then cell else cell_named columns cells name

-- the row of nulls
abbrev pub empty_row : NumberedRow
empty_row id = []

-- the row with this cell at a column number
abbrev pub with_cell : NumberedRow → ℕ → List Value → NumberedRow
with_cell row id cell = λ other. if other == id then cell else row other

-- the columns of a scan, each with the cell of its name in a row of a table
abbrev pub scan_row : List ScanColumn → List Column → List (List Value) → NumberedRow
scan_row [] columns cells = empty_row
scan_row (scanned ∷ more) columns cells = with_cell (scan_row more columns cells) scanned.to.0 (cell_named columns cells scanned.name)

-- the rows that a scan takes of a table, if it is there
abbrev pub scan_table : List ScanColumn → Option TableHeld → List NumberedRow
scan_table scanned None = []
scan_table scanned (Some table) = map (scan_row scanned table.shape.columns) table.rows

-- one row of nulls, or the rows of the tables of the numbers, one table after another; a number that is not there has none
abbrev pub source_rows : List TableHeld → PlanSource → List NumberedRow
source_rows tables OneRow = empty_row ∷ []
source_rows tables (Scan numbers scanned) = flat_map (λ number. scan_table scanned (slice_get tables number)) numbers
