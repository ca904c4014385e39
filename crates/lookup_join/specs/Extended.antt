-- The catalog that a query with LOOKUP JOIN is judged by: behind what it has, each joined table with the places of its rows, and the policies of its joins.
use Rattle.std.specs.Prelude.{◌≡◌, ℕ, suc, Bool, ◌&&◌, List, [], ◌∷◌, ◌++◌, length, map, Option, None, Some, if◌then◌else◌}
use Rattle.std.specs.List.{filter_map, flat_map}
use Rattle.std.specs.Str.{bytes_eq}
use Rattle.esql_types.specs.declared.value.Value.{Value}
use Rattle.esql_types.specs.declared.names.Column.{Column}
use Rattle.esql_ast.specs.declared.query.Query.{Query}
use Rattle.esql_ast.specs.declared.query.Command.{Command}
use Rattle.esql_ast.specs.declared.query.CommandKind.{CommandKind}
use Rattle.esql_ast.specs.declared.query.CommandKind.TheVariants.{Join}
use Rattle.esql_plan.specs.declared.catalog.Catalog.{Catalog}
use Rattle.esql_plan.specs.declared.catalog.PolicyShape.{PolicyShape}
use Rattle.esql_plan.specs.declared.catalog.TableShape.{TableShape}
use Rattle.function_rules.specs.Lists.{distinct_of}
use Rattle.row_semantics.specs.Scopes.{column_named}
use Rattle.row_semantics.specs.Sources.{table_named}
use Rattle.plan_semantics.specs.Tables.{CatalogHeld, TableHeld, catalog_held}
use Rattle.lookup_join.specs.declared.joins.JoinAt.{JoinAt}
use Rattle.lookup_join.specs.Placed.{key_policy, placed_from, placed_shape, placed_table, row_policy}

-- What a query joins ----------------------------------------------------------------------------------------------------------

abbrev pub joins_in_kind : CommandKind → List JoinAt
joins_in_kind (Join table on) = record { table = table.name; column = on.name } ∷ []
joins_in_kind _ = []

abbrev pub joins_in_command : Command → List JoinAt
joins_in_command command = joins_in_kind command.kind

-- each LOOKUP JOIN of the query, in written order
abbrev pub joins_of : Query → List JoinAt
joins_of query = flat_map joins_in_command query.commands

-- the tables of joins, each once, at its first mention
abbrev pub tables_of_joins : List JoinAt → List (List ℕ)
tables_of_joins joins = distinct_of bytes_eq (map (λ (join : JoinAt). join.table) joins)

abbrev pub same_join : JoinAt → JoinAt → Bool
same_join one other = bytes_eq one.table other.table && bytes_eq one.column other.column

-- the pairs of a table and a column of joins, each once, at its first mention
abbrev pub pairs_of_joins : List JoinAt → List JoinAt
pairs_of_joins joins = distinct_of same_join joins

abbrev pub joined_tables : Query → List (List ℕ)
joined_tables query = tables_of_joins (joins_of query)

abbrev pub joined_pairs : Query → List JoinAt
joined_pairs query = pairs_of_joins (joins_of query)

-- The catalog -----------------------------------------------------------------------------------------------------------------

-- the first table of each of these names that the catalog has
abbrev pub shapes_named : List TableShape → List (List ℕ) → List TableShape
shapes_named tables names = filter_map (table_named tables) names

-- the policies that give all of the row of a place, over tables with places of these numbers, from the first on
abbrev pub row_policies : ℕ → List TableShape → List PolicyShape
row_policies number [] = []
row_policies number (shape ∷ shapes) = row_policy number shape ∷ row_policies (suc number) shapes

-- the policy that finds rows by a column, if the table has the column
abbrev pub policy_on : ℕ → TableShape → Option Column → List PolicyShape
policy_on number shape None = []
policy_on number shape (Some column) = key_policy number shape column ∷ []

-- the policy of a pair, if its table is among these and has its column; the first of the tables with places has the number
abbrev pub pair_policies : ℕ → List TableShape → JoinAt → List PolicyShape
pair_policies number [] pair = []
pair_policies number (shape ∷ shapes) pair =
    if bytes_eq shape.name pair.table then policy_on number shape (column_named shape.columns pair.column) else pair_policies (suc number) shapes pair

-- the policies of the tables, and behind these those of the pairs
abbrev pub join_policies : ℕ → List TableShape → List JoinAt → List PolicyShape
join_policies number shapes pairs = row_policies number shapes ++ flat_map (pair_policies number shapes) pairs

-- the joined tables that the catalog has
abbrev pub joined_shapes : Query → List TableShape → List TableShape
joined_shapes query tables = shapes_named tables (joined_tables query)

-- A joined table that the catalog lacks adds nothing, nor does a pair whose table lacks the column.
abbrev pub extended_catalog : Query → Catalog → Catalog
extended_catalog query catalog = record {
  tables = catalog.tables ++ map placed_shape (joined_shapes query catalog.tables);
  policies = catalog.policies ++ join_policies (length catalog.tables) (joined_shapes query catalog.tables) (joined_pairs query);
}

-- The tables with their rows --------------------------------------------------------------------------------------------------

-- the first table of a name
abbrev pub held_named : List TableHeld → List ℕ → Option TableHeld
held_named [] name = None
held_named (table ∷ tables) name = if bytes_eq table.shape.name name then Some table else held_named tables name

abbrev pub joined_held : Query → List TableHeld → List TableHeld
joined_held query tables = filter_map (held_named tables) (joined_tables query)

abbrev pub extended_held : Query → CatalogHeld → CatalogHeld
extended_held query held = record {
  tables = held.tables ++ map placed_table (joined_held query held.tables);
  policies = (extended_catalog query (catalog_held held)).policies;
}

-- the extended tables have the shapes that the extended catalog tells
abbrev pub ExtendedTablesHaveTheirShapes : Type 0
ExtendedTablesHaveTheirShapes = (query : Query) (held : CatalogHeld) → catalog_held (extended_held query held) ≡ extended_catalog query (catalog_held held)

-- The rows alone --------------------------------------------------------------------------------------------------------------

-- the rows of the first table of a name, where each of the tables has the rows of its number
abbrev pub rows_named : List TableShape → List (List (List (List Value))) → List ℕ → Option (List (List (List Value)))
rows_named [] rows name = None
rows_named (shape ∷ shapes) [] name = None
rows_named (shape ∷ shapes) (these ∷ rows) name = if bytes_eq shape.name name then Some these else rows_named shapes rows name

-- the rows of the tables, and behind these those of the tables of the names, with their places
abbrev pub placed_rows : List TableShape → List (List (List (List Value))) → List (List ℕ) → List (List (List (List Value)))
placed_rows tables rows names = map (placed_from 0) (filter_map (rows_named tables rows) names)

abbrev pub extended_rows : Query → List TableShape → List (List (List (List Value))) → List (List (List (List Value)))
extended_rows query tables rows = rows ++ placed_rows tables rows (joined_tables query)
