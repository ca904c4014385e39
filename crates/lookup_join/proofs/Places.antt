-- What the two policies of a table with places find.
use Rattle.std.proofs.Common.{◌≡◌, ℕ, suc, pos, Bool, true, false, ◌||◌, List, [], ◌∷◌, ◌++◌, length, map, filter, All, refl, sym, ap, ◌∙◌, arith}
use Rattle.std.specs.Prelude.{if◌then◌else◌, slice_index_or}
use Rattle.std.specs.List.{flat_map}
use Rattle.std.specs.Str.{bytes_eq}
use Rattle.std.proofs.lemmas.Bool.{or_parts}
use Rattle.std.proofs.lemmas.List.Elements.{All-head, All-tail}
use Rattle.std.proofs.lemmas.Slice.Eq.{bytes_eq-Decides}
use Rattle.esql_types.specs.declared.value.Value.{Value}
use Rattle.esql_types.specs.declared.value.Value.TheVariants.{Long}
use Rattle.esql_types.specs.declared.names.Column.{Column}
use Rattle.esql_plan.specs.declared.catalog.TableShape.{TableShape}
use Rattle.enrich_match.specs.Matches.{MatchRow, is_match, matched_cell}
use Rattle.plan_semantics.specs.Tables.{cell_named}
use Rattle.plan_semantics.specs.Taken.{match_row}
use Rattle.lookup_join.specs.Placed.{has_column, key_policy, place_cell, place_column, place_name, placed_from, placed_row}
use Rattle.lookup_join.specs.Joins.{Placed, is_joined, joined_from}

abbrev pub Row : Type 0
Row = List (List Value)

abbrev pub Wide : List Column → Row → Type 0
Wide columns row = length row ≡ length columns

-- The cells of a row with its place -----------------------------------------------------------------------------------------

module _ (last : Column) (cell : List Value) where
  -- a column of the table has the cell that it has without the place
  pub named_as_before : (columns : List Column) (row : Row) (name : List ℕ) → Wide columns row → has_column columns name ≡ true
      → cell_named (columns ++ last ∷ []) (row ++ cell ∷ []) name ≡ cell_named columns row name
  named_as_before [] row name wide there = absurd cc
  named_as_before (column ∷ columns) [] name wide there = absurd (omega (arith, wide))
  named_as_before (column ∷ columns) (own ∷ row) name wide there =
      go (bytes_eq column.name name) refl (λ rest. named_as_before columns row name (omega (arith, wide)) rest)
    where
      behind : bytes_eq column.name name ≡ false → has_column columns name ≡ true
      behind other = sym (ap (λ (here : Bool). here || has_column columns name) other) ∙ there

      go : (here : Bool) → bytes_eq column.name name ≡ here
          → (has_column columns name ≡ true → cell_named (columns ++ last ∷ []) (row ++ cell ∷ []) name ≡ cell_named columns row name)
          → (if here then own else cell_named (columns ++ last ∷ []) (row ++ cell ∷ []) name) ≡ (if here then own else cell_named columns row name)
      go true is rest = refl
      go false is rest = rest (behind is)

  -- the column of places has the place
  pub named_last : (columns : List Column) (row : Row) → Wide columns row → has_column columns last.name ≡ false
      → cell_named (columns ++ last ∷ []) (row ++ cell ∷ []) last.name ≡ cell
  named_last [] [] wide free = ap (λ (here : Bool). if here then cell else []) ((bytes_eq-Decides last.name last.name).1 refl)
  named_last [] (own ∷ row) wide free = absurd (omega (arith, wide))
  named_last (column ∷ columns) [] wide free = absurd (omega (arith, wide))
  named_last (column ∷ columns) (own ∷ row) wide free =
      let parts = or_parts (bytes_eq column.name last.name) (has_column columns last.name) free in
      ap (λ (here : Bool). if here then own else cell_named (columns ++ last ∷ []) (row ++ cell ∷ []) last.name) parts.0
      ∙ named_last columns row (omega (arith, wide)) parts.1

-- The places that a key finds ------------------------------------------------------------------------------------------------

module _ (number : ℕ) (shape : TableShape) (column : Column) (there : has_column shape.columns column.name ≡ true) (free : has_column shape.columns (place_name shape.columns) ≡ false) where
  abbrev placed_columns : List Column
  placed_columns = shape.columns ++ place_column shape.columns ∷ []

  abbrev pub key_row : Row → MatchRow
  key_row row = match_row (key_policy number shape column) placed_columns row

  -- the match row of a row with its place has the cell of the column, and gives the place
  key_row_is : (place : ℕ) (row : Row) → Wide shape.columns row
      → key_row (placed_row place row) ≡ record { key = cell_named shape.columns row column.name; fields = place_cell place ∷ [] }
  key_row_is place row wide =
      ap (λ (key : List Value). let made : MatchRow = record { key = key; fields = cell_named placed_columns (placed_row place row) (place_name shape.columns) ∷ [] } in made)
      (named_as_before (place_column shape.columns) (place_cell place) shape.columns row column.name wide there)
      ∙ ap (λ (found : List Value). let made : MatchRow = record { key = cell_named shape.columns row column.name; fields = found ∷ [] } in made)
      (named_last (place_column shape.columns) (place_cell place) shape.columns row wide free)

  abbrev joinable_row : ℕ → Row → MatchRow
  joinable_row place row = record { key = cell_named shape.columns row column.name; fields = place_cell place ∷ [] }

  abbrev pub places_of : List Placed → List Value
  places_of matches = flat_map (λ (match : Placed). place_cell match.place) matches

  abbrev first_field : MatchRow → List Value
  first_field row = slice_index_or row.fields 0 []

  -- the rows that match a key give their places
  pub places_found : (key : List Value) (place : ℕ) (rows : List Row) → All (Wide shape.columns) rows
      → matched_cell (map key_row (placed_from place rows)) key 0 ≡ places_of (joined_from place shape.columns column.name key rows)
  places_found key place [] wide = refl
  places_found key place (row ∷ rows) wide =
      ap (λ (first : MatchRow). flat_map first_field (if is_match key first then first ∷ filter (is_match key) (map key_row (placed_from (suc place) rows)) else filter (is_match key) (map key_row (placed_from (suc place) rows))))
      (key_row_is place row (All-head (Wide shape.columns) row rows wide))
      ∙ go (is_joined shape.columns column.name key row) (places_found key (suc place) rows (All-tail (Wide shape.columns) row rows wide))
    where
      go : (here : Bool) → flat_map first_field (filter (is_match key) (map key_row (placed_from (suc place) rows))) ≡ places_of (joined_from (suc place) shape.columns column.name key rows)
          → flat_map first_field (if here then joinable_row place row ∷ filter (is_match key) (map key_row (placed_from (suc place) rows)) else filter (is_match key) (map key_row (placed_from (suc place) rows)))
          ≡ places_of (if here then record { place = place; cells = row } ∷ joined_from (suc place) shape.columns column.name key rows else joined_from (suc place) shape.columns column.name key rows)
      go true rest = ap (λ (values : List Value). Long (pos place) ∷ values) rest
      go false rest = rest
