-- The catalog that tables and policies make.
use Rattle.std.specs.Prelude.{List, map}
use Rattle.esql_types.specs.declared.names.Column.{Column}
use Rattle.esql_plan.specs.declared.catalog.Catalog.{Catalog}
use Rattle.esql_plan.specs.declared.catalog.PolicyShape.{PolicyShape}
use Rattle.esql_plan.specs.declared.catalog.TableShape.{TableShape}
use Rattle.ndjson_load.specs.declared.column.MappedColumn.{MappedColumn}
use Rattle.table_files.specs.declared.tables.FoundTable.{FoundTable}

abbrev pub columns_of : List MappedColumn → List Column
columns_of columns = map (λ (mapped : MappedColumn). mapped.column) columns

abbrev pub shape_of : FoundTable → TableShape
shape_of table = record { name = table.name; columns = columns_of table.columns }

-- the tables with their names and columns and the policies, in order
abbrev pub catalog_of : List FoundTable → List PolicyShape → Catalog
catalog_of tables policies = record { tables = map shape_of tables; policies = policies }
