-- The row of a place.
use Rattle.std.proofs.Common.{◌≡◌, ℕ, zero, suc, ◌+◌, ◌<◌, pos, Bool, true, false, ◌||◌, Some, List, [], ◌∷◌, ◌++◌, map, filter, All, refl, ap, ◌∙◌, arith}
use Rattle.std.specs.Prelude.{if◌then◌else◌, slice_get, slice_index_or}
use Rattle.std.specs.List.{flat_map}
use Rattle.std.specs.Str.{bytes_eq}
use Rattle.std.proofs.lemmas.Bool.{false_from_ne_true, or_right, or_left}
use Rattle.std.proofs.lemmas.List.Elements.{All-head, All-tail}
use Rattle.std.proofs.lemmas.Slice.Eq.{bytes_eq-Decides}
use Rattle.esql_types.specs.declared.value.Value.{Value}
use Rattle.esql_types.specs.declared.value.Value.TheVariants.{Long}
use Rattle.esql_types.specs.declared.names.Column.{Column}
use Rattle.plain_functions.specs.Values.{value_same}
use Rattle.plain_functions.specs.ValueOrder.{equal_from_same, same_decides}
use Rattle.esql_plan.specs.declared.catalog.TableShape.{TableShape}
use Rattle.enrich_match.specs.Matches.{MatchRow, is_match, matched_cell}
use Rattle.plan_semantics.specs.Tables.{cell_named}
use Rattle.plan_semantics.specs.Taken.{match_row}
use Rattle.lookup_join.specs.Placed.{has_column, row_policy, place_cell, place_column, place_name, placed_from, placed_row}
use Rattle.lookup_join.specs.Joins.{cell_of_number}
use Rattle.lookup_join.proofs.Places.{Row, Wide, named_as_before, named_last}

-- a place is equal to no other
same_place : (place : ℕ) → value_same (Long (pos place)) (Long (pos place)) ≡ true
same_place place = (same_decides (Long (pos place)) (Long (pos place))).1 refl

other_place : (one other : ℕ) → (one ≡ other → ⊥) → value_same (Long (pos one)) (Long (pos other)) ≡ false
other_place one other differ =
    false_from_ne_true (value_same (Long (pos one)) (Long (pos other)))
    (λ same. let equal : Long (pos one) ≡ Long (pos other) = equal_from_same (Long (pos one)) (Long (pos other)) same in differ (cc))

no_more : (here : Bool) → (here || false) ≡ here
no_more true = refl
no_more false = refl

module _ (number : ℕ) (shape : TableShape) (free : has_column shape.columns (place_name shape.columns) ≡ false) where
  abbrev placed_columns : List Column
  placed_columns = shape.columns ++ place_column shape.columns ∷ []

  abbrev pub place_row : Row → MatchRow
  place_row row = match_row (row_policy number shape) placed_columns row

  abbrev cells_in : List Column → Row → List (List Value)
  cells_in columns row = map (λ (column : Column). cell_named shape.columns row column.name) columns

  -- the cells of the columns with the place behind them are those without it
  cells_as_before : (place : ℕ) (row : Row) → Wide shape.columns row → (columns : List Column)
      → ((name : List ℕ) → has_column columns name ≡ true → has_column shape.columns name ≡ true)
      → map (λ (column : Column). cell_named placed_columns (placed_row place row) column.name) columns ≡ cells_in columns row
  cells_as_before place row wide [] among = refl
  cells_as_before place row wide (column ∷ columns) among =
      ap (λ (cell : List Value). cell ∷ map (λ (one : Column). cell_named placed_columns (placed_row place row) one.name) columns)
      (named_as_before (place_column shape.columns) (place_cell place) shape.columns row column.name wide
      (among column.name (or_left (bytes_eq column.name column.name) (has_column columns column.name) ((bytes_eq-Decides column.name column.name).1 refl))))
      ∙ ap (λ (cells : List (List Value)). cell_named shape.columns row column.name ∷ cells)
      (cells_as_before place row wide columns (λ name there. among name (or_right (bytes_eq column.name name) (has_column columns name) there)))

  abbrev placed_match : ℕ → Row → MatchRow
  placed_match place row = record { key = place_cell place; fields = cells_in shape.columns row }

  place_row_is : (place : ℕ) (row : Row) → Wide shape.columns row → place_row (placed_row place row) ≡ placed_match place row
  place_row_is place row wide =
      ap (λ (key : List Value). let made : MatchRow = record { key = key; fields = map (λ (column : Column). cell_named placed_columns (placed_row place row) column.name) shape.columns } in made)
      (named_last (place_column shape.columns) (place_cell place) shape.columns row wide free)
      ∙ ap (λ (fields : List (List Value)). let made : MatchRow = record { key = place_cell place; fields = fields } in made)
      (cells_as_before place row wide shape.columns (λ name there. there))

  module _ (field : ℕ) where
    abbrev at_field : MatchRow → List Value
    at_field row = slice_index_or row.fields field []

    abbrev found_from : ℕ → List Row → ℕ → List Value
    found_from start rows place = matched_cell (map place_row (placed_from start rows)) (place_cell place) field

    first_found : (start place : ℕ) (row : Row) (rows : List Row) → Wide shape.columns row
        → found_from start (row ∷ rows) place
        ≡ flat_map at_field (if value_same (Long (pos place)) (Long (pos start)) then placed_match start row ∷ filter (is_match (place_cell place)) (map place_row (placed_from (suc start) rows)) else filter (is_match (place_cell place)) (map place_row (placed_from (suc start) rows)))
    first_found start place row rows wide =
        ap (λ (first : MatchRow). flat_map at_field (if is_match (place_cell place) first then first ∷ filter (is_match (place_cell place)) (map place_row (placed_from (suc start) rows)) else filter (is_match (place_cell place)) (map place_row (placed_from (suc start) rows))))
        (place_row_is start row wide)
        ∙ ap (λ (here : Bool). flat_map at_field (if here then placed_match start row ∷ filter (is_match (place_cell place)) (map place_row (placed_from (suc start) rows)) else filter (is_match (place_cell place)) (map place_row (placed_from (suc start) rows))))
        (no_more (value_same (Long (pos place)) (Long (pos start)) || false) ∙ no_more (value_same (Long (pos place)) (Long (pos start))))

    abbrev if_here : ℕ → Row → List Row → ℕ → Bool → List Value
    if_here start row rows place here =
        flat_map at_field (if here then placed_match start row ∷ filter (is_match (place_cell place)) (map place_row (placed_from (suc start) rows)) else filter (is_match (place_cell place)) (map place_row (placed_from (suc start) rows)))

    -- no row from a place on has one before it
    none_before : (start place : ℕ) (rows : List Row) → All (Wide shape.columns) rows → place < start → found_from start rows place ≡ []
    none_before start place [] wide before = refl
    none_before start place (row ∷ rows) wide before =
        first_found start place row rows (All-head (Wide shape.columns) row rows wide)
        ∙ ap (if_here start row rows place) (other_place place start (λ same. absurd (omega (arith, before, same))))
        ∙ none_before (suc start) place rows (All-tail (Wide shape.columns) row rows wide) (omega (arith, before))

    -- the row at a place gives its cell
    pub found_at : (start place : ℕ) (rows : List Row) (row : Row) → All (Wide shape.columns) rows → slice_get rows place ≡ Some row
        → found_from start rows (start + place) ≡ cell_of_number shape.columns row field
    found_at start place [] row wide there = absurd cc
    found_at start zero (own ∷ rows) row wide there =
        let same : own ≡ row = cc in
        ap (found_from start (own ∷ rows)) (omega (arith))
        ∙ first_found start start own rows (All-head (Wide shape.columns) own rows wide)
        ∙ ap (if_here start own rows start) (same_place start)
        ∙ ap (λ (more : List Value). cell_of_number shape.columns own field ++ more)
        (none_before (suc start) start rows (All-tail (Wide shape.columns) own rows wide) (omega arith))
        ∙ nothing_behind (cell_of_number shape.columns own field)
        ∙ ap (λ (one : Row). cell_of_number shape.columns one field) same
      where
        nothing_behind : (cell : List Value) → (cell ++ []) ≡ cell
        nothing_behind [] = refl
        nothing_behind (value ∷ cell) = ap (λ (rest : List Value). value ∷ rest) (nothing_behind cell)
    found_at start (suc place) (own ∷ rows) row wide there =
        first_found start (start + suc place) own rows (All-head (Wide shape.columns) own rows wide)
        ∙ ap (if_here start own rows (start + suc place)) (other_place (start + suc place) start (λ same. absurd (omega (arith, same))))
        ∙ ap (found_from (suc start) rows) (omega arith)
        ∙ found_at (suc start) place rows row (All-tail (Wide shape.columns) own rows wide) there
