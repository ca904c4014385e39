-- What a query means over a catalog whose tables have their rows: the source's rows, put through each command in written order, then the last cut.
use Rattle.std.specs.Prelude.{◌≡◌, ℕ, List, [], ◌∷◌, ◌++◌, map, take, All, Option, Some, None, slice_get}
use Rattle.std.specs.List.{flat_map}
use Rattle.esql_types.specs.declared.value.Value.{Value}
use Rattle.esql_types.specs.declared.cause.Failure.{Failure}
use Rattle.esql_types.specs.declared.names.Column.{Column}
use Rattle.esql_ast.specs.declared.query.NameAt.{NameAt}
use Rattle.esql_ast.specs.declared.query.Query.{Query}
use Rattle.esql_ast.specs.declared.query.SourceCommand.{SourceCommand}
use Rattle.esql_ast.specs.declared.query.SourceCommand.TheVariants.{Tables, OneRow}
use Rattle.plan_semantics.specs.Tables.{TableHeld, CatalogHeld, catalog_tables, cell_named}
use Rattle.plan_semantics.specs.Agrees.{PlanSeen}
use Rattle.row_semantics.specs.Rows.{Row}
use Rattle.row_semantics.specs.Columns.{names_of}
use Rattle.row_semantics.specs.Sources.{tables_named, columns_of_tables, columns_or_none}
use Rattle.query_semantics.specs.Commands.{rows_of_fields, failures_of_fields, rows_of_commands, failures_of_commands, names_in, cells_of}
use Rattle.query_semantics.specs.Cuts.{last_count}

-- a row of a table under these columns: a column that the table lacks is null there
abbrev pub row_under : List Column → TableHeld → List (List Value) → Row
row_under columns table cells = map (λ (column : Column). record { name = column.name; cell = cell_named table.shape.columns cells column.name }) columns

abbrev pub rows_under : List Column → Option TableHeld → List Row
rows_under columns None = []
rows_under columns (Some table) = map (row_under columns table) table.rows

-- FROM: the rows of each table in written order; a name that is written twice counts once
abbrev pub rows_of_tables : List TableHeld → List NameAt → List Row
rows_of_tables tables names =
    flat_map (λ number. rows_under (columns_or_none (columns_of_tables (catalog_tables tables) names)) (slice_get tables number)) (tables_named (catalog_tables tables) names)

-- one row without columns
abbrev pub one_row : List Row
one_row = [] ∷ []

-- ROW: its fields are evaluated as by EVAL on one row without columns
abbrev pub rows_of_source : List ℕ → List TableHeld → SourceCommand → List Row
rows_of_source text tables (Tables node span names) = rows_of_tables tables names
rows_of_source text tables (OneRow node span fields) = rows_of_fields text fields one_row

abbrev pub failures_of_source : List ℕ → SourceCommand → List Failure
failures_of_source text (Tables node span names) = []
failures_of_source text (OneRow node span fields) = failures_of_fields text fields one_row

-- rows of names, and what failed on the way
pub record Meaning : Type 0 where
  pub rows : List Row
  pub failures : List Failure

-- The last cut drops rows and no failure.
abbrev pub meaning_of : List ℕ → CatalogHeld → Query → Meaning
meaning_of text held query = record {
  rows = take (last_count query) (rows_of_commands text held query.commands (rows_of_source text held.tables query.source));
  failures = failures_of_source text query.source ++ failures_of_commands text held query.commands (rows_of_source text held.tables query.source);
}

-- the rows have just the names of the columns, in their order
abbrev pub AreRowsOf : List Column → List Row → Type 0
AreRowsOf columns rows = All (λ row. names_in row ≡ names_of columns) rows

-- what is shown of a meaning under its columns
abbrev pub shown_under : List Column → Meaning → PlanSeen
shown_under columns meaning = record { columns = columns; rows = map cells_of meaning.rows; failures = meaning.failures }
