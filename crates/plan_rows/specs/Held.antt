-- The tables of a catalog with their rows.
use Rattle.std.specs.Prelude.{List, [], ◌∷◌}
use Rattle.esql_types.specs.declared.value.Value.{Value}
use Rattle.esql_plan.specs.declared.catalog.Catalog.{Catalog}
use Rattle.esql_plan.specs.declared.catalog.TableShape.{TableShape}
use Rattle.plan_semantics.specs.Tables.{TableHeld, CatalogHeld}

-- each shape with the rows of its number
abbrev pub shapes_held : List TableShape → List (List (List (List Value))) → List TableHeld
shapes_held [] rows = []
shapes_held (shape ∷ shapes) [] = []
shapes_held (shape ∷ shapes) (these ∷ rows) = record { shape = shape; rows = these } ∷ shapes_held shapes rows

-- the catalog, each of its tables with the rows of its number
abbrev pub tables_held : Catalog → List (List (List (List Value))) → CatalogHeld
tables_held catalog rows = record { tables = shapes_held catalog.tables rows; policies = catalog.policies }
