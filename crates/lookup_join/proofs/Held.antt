-- The extended tables have the shapes of the extended catalog.
use Rattle.std.proofs.Common.{◌≡◌, ℕ, Bool, true, false, Option, Some, None, List, [], ◌∷◌, ◌++◌, map, refl, ap, ◌∙◌}
use Rattle.std.specs.Prelude.{option_map, if◌then◌else◌}
use Rattle.std.specs.List.{cons_option, filter_map}
use Rattle.std.specs.Str.{bytes_eq}
use Rattle.std.proofs.lemmas.List.{map-append}
use Rattle.esql_plan.specs.declared.catalog.Catalog.{Catalog}
use Rattle.esql_plan.specs.declared.catalog.TableShape.{TableShape}
use Rattle.row_semantics.specs.Sources.{table_named}
use Rattle.plan_semantics.specs.Tables.{TableHeld, catalog_held}
use Rattle.lookup_join.specs.Extended.{ExtendedTablesHaveTheirShapes, extended_catalog, held_named, joined_held, joined_tables}
use Rattle.lookup_join.specs.Placed.{placed_shape, placed_table}

abbrev shape_in : TableHeld → TableShape
shape_in table = table.shape

-- the first table of a name has the first shape of the name
shape_named : (tables : List TableHeld) (name : List ℕ) → option_map shape_in (held_named tables name) ≡ table_named (map shape_in tables) name
shape_named [] name = refl
shape_named (table ∷ tables) name = go (bytes_eq table.shape.name name) (shape_named tables name)
  where
    go : (here : Bool) → option_map shape_in (held_named tables name) ≡ table_named (map shape_in tables) name
        → option_map shape_in (if here then Some table else held_named tables name) ≡ (if here then Some table.shape else table_named (map shape_in tables) name)
    go true rest = refl
    go false rest = rest

with_found : (found : Option TableHeld) (tables : List TableHeld) → map shape_in (cons_option found tables) ≡ cons_option (option_map shape_in found) (map shape_in tables)
with_found None tables = refl
with_found (Some table) tables = refl

shapes_named : (tables : List TableHeld) (names : List (List ℕ)) → map shape_in (filter_map (held_named tables) names) ≡ filter_map (table_named (map shape_in tables)) names
shapes_named tables [] = refl
shapes_named tables (name ∷ names) =
    with_found (held_named tables name) (filter_map (held_named tables) names)
    ∙ ap (λ (found : Option TableShape). cons_option found (map shape_in (filter_map (held_named tables) names))) (shape_named tables name)
    ∙ ap (cons_option (table_named (map shape_in tables) name)) (shapes_named tables names)

placed_shapes : (tables : List TableHeld) → map shape_in (map placed_table tables) ≡ map placed_shape (map shape_in tables)
placed_shapes [] = refl
placed_shapes (table ∷ tables) = ap (λ (shapes : List TableShape). placed_shape table.shape ∷ shapes) (placed_shapes tables)

pub extended_shapes : ExtendedTablesHaveTheirShapes
extended_shapes query held =
    let catalog : Catalog = extended_catalog query (catalog_held held) in
    ap (λ (tables : List TableShape). let made : Catalog = record { tables = tables; policies = catalog.policies } in made)
    (map-append shape_in held.tables (map placed_table (joined_held query held.tables))
    ∙ ap (λ (shapes : List TableShape). map shape_in held.tables ++ shapes)
    (placed_shapes (joined_held query held.tables) ∙ ap (map placed_shape) (shapes_named held.tables (joined_tables query))))
