-- What the steps of a join make of one row.
use Rattle.std.proofs.Common.{◌≡◌, ℕ, suc, ◌+◌, Bool, true, false, Option, Some, List, [], ◌∷◌, map, All, refl, ap, ◌∙◌, arith}
use Rattle.std.specs.Prelude.{if◌then◌else◌, slice_get}
use Rattle.std.specs.List.{flat_map}
use Rattle.std.proofs.lemmas.List.{append-nil}
use Rattle.std.proofs.lemmas.List.Elements.{All-nil, All-cons, All-head, All-tail}
use Rattle.esql_types.specs.declared.value.Kind.{Kind}
use Rattle.esql_types.specs.declared.value.Kind.TheVariants.{Long as LongKind}
use Rattle.esql_types.specs.declared.value.Value.{Value}
use Rattle.esql_types.specs.declared.names.ColId.{ColId}
use Rattle.esql_types.specs.declared.names.Column.{Column}
use Rattle.esql_types.specs.declared.names.NodeId.{NodeId}
use Rattle.esql_plan.specs.declared.catalog.PolicyShape.{PolicyShape}
use Rattle.esql_plan.specs.declared.step.NewColumn.{NewColumn}
use Rattle.esql_plan.specs.declared.step.Step.TheVariants as step
use Rattle.esql_plan.specs.Values.{Valued, NumberedRow}
use Rattle.enrich_match.specs.Matches.{MatchRow, matched_cell}
use Rattle.enrich_match.proofs.Found.{null_found}
use Rattle.plan_semantics.specs.Tables.{CatalogHeld, TableHeld, with_cell}
use Rattle.plan_semantics.specs.Taken.{enriched, found_if, match_rows, rows_of_policy, with_new}
use Rattle.plan_semantics.specs.Steps.{expanded, step_gives}
use Rattle.lookup_join.specs.Placed.{has_column, key_policy, place_cell, place_name, placed_from, placed_table, row_policy}
use Rattle.lookup_join.specs.Joins.{JoinColumns, Placed, cell_of_number, cells_of_numbers, joined_from, is_joined, key_expr, row_of_match, row_with_places, rows_of_matches, single, joined_rows}
use Rattle.lookup_join.specs.Laws.{IsExtended, IsJoinable}
use Rattle.lookup_join.proofs.Keys.{key_is}
use Rattle.lookup_join.proofs.Places.{Row, places_found, places_of}
use Rattle.lookup_join.proofs.Rows.{found_at, place_row}
use Rattle.plan_semantics.proofs.RowKinds.{put_there}

-- a cell of nulls is none
nulls_are_none : (row : NumberedRow) (to : List NewColumn) (numbers : List ℕ) (found : ℕ → List Value) → ((number : ℕ) → found number ≡ [])
    → with_new row to (map found numbers) ≡ with_new row to []
nulls_are_none row [] numbers found none = refl
nulls_are_none row (new ∷ to) [] found none = refl
nulls_are_none row (new ∷ to) (number ∷ numbers) found none =
    ap (λ (cell : List Value). with_new (with_cell row new.id.0 cell) to (map found numbers)) (none number)
    ∙ nulls_are_none (with_cell row new.id.0 []) to numbers found none

same_map : {A B : Type 0} (f g : A → B) → ((item : A) → f item ≡ g item) → (items : List A) → map f items ≡ map g items
same_map f g same [] = refl
same_map f g same (item ∷ items) = ap (λ one. one ∷ map f items) (same item) ∙ ap (λ rest. g item ∷ rest) (same_map f g same items)

-- the matches are rows of the table, each at its place
abbrev AreAt : List Row → List Placed → Type 0
AreAt rows matches = All (λ (match : Placed). slice_get rows match.place ≡ Some match.cells) matches

module _ (held : CatalogHeld) (table : TableHeld) (column : Column) (number by_key by_place : ℕ) (extended : IsExtended held table column number by_key by_place) (joinable : IsJoinable table column)
    (free : has_column table.shape.columns (place_name table.shape.columns) ≡ false) where
  -- the rows that a policy over the one table looks at
  rows_of_one : (policy : PolicyShape) → policy.tables ≡ number ∷ [] → rows_of_policy held.tables policy ≡ match_rows policy (Some (placed_table table))
  rows_of_one policy one =
      ap (flat_map (λ (each : ℕ). match_rows policy (slice_get held.tables each))) one
      ∙ append-nil (match_rows policy (slice_get held.tables number))
      ∙ ap (match_rows policy) extended.placed

  pub key_found : (key : List Value) → enriched held by_key (0 ∷ []) key ≡ places_of number table.shape column joinable.there free (joined_from 0 table.shape.columns column.name key table.rows) ∷ []
  key_found key =
      ap (λ (policy : Option PolicyShape). found_if held.tables policy (0 ∷ []) key) extended.key
      ∙ ap (λ (rows : List MatchRow). matched_cell rows key 0 ∷ []) (rows_of_one (key_policy number table.shape column) refl)
      ∙ ap (λ (cell : List Value). cell ∷ []) (places_found number table.shape column joinable.there free key 0 table.rows joinable.wide)

  pub row_found : (numbers : List ℕ) (place : ℕ) (cells : Row) → slice_get table.rows place ≡ Some cells
      → enriched held by_place numbers (place_cell place) ≡ cells_of_numbers table.shape.columns cells numbers
  row_found numbers place cells there =
      ap (λ (policy : Option PolicyShape). found_if held.tables policy numbers (place_cell place)) extended.row
      ∙ ap (λ (rows : List MatchRow). map (matched_cell rows (place_cell place)) numbers) (rows_of_one (row_policy number table.shape) refl)
      ∙ same_map (matched_cell (map (place_row number table.shape free) (placed_from 0 table.rows)) (place_cell place)) (cell_of_number table.shape.columns cells)
      (λ field. ap (λ (one : ℕ). matched_cell (map (place_row number table.shape free) (placed_from 0 table.rows)) (place_cell one) field) (omega arith)
      ∙ found_at number table.shape free field 0 place table.rows cells joinable.wide there) numbers

  pub none_found : (numbers : List ℕ) (row : NumberedRow) (to : List NewColumn) → with_new row to (enriched held by_place numbers []) ≡ with_new row to []
  none_found numbers row to =
      ap (λ (policy : Option PolicyShape). with_new row to (found_if held.tables policy numbers [])) extended.row
      ∙ nulls_are_none row to numbers (matched_cell (rows_of_policy held.tables (row_policy number table.shape)) []) (null_found (rows_of_policy held.tables (row_policy number table.shape)))

  abbrev kept_matches : ℕ → List Value → List Row → List Placed
  kept_matches place key rows = joined_from place table.shape.columns column.name key rows

  -- the matches of rows from a place on are rows of the table at their places
  matches_at : (place : ℕ) (key : List Value) (rows : List Row) → ((more : ℕ) (cells : Row) → slice_get rows more ≡ Some cells → slice_get table.rows (place + more) ≡ Some cells)
      → AreAt table.rows (kept_matches place key rows)
  matches_at place key [] within = All-nil (λ (match : Placed). slice_get table.rows match.place ≡ Some match.cells)
  matches_at place key (row ∷ rows) within =
      go (is_joined table.shape.columns column.name key row)
      (matches_at (suc place) key rows (λ more cells there. ap (slice_get table.rows) (omega arith) ∙ within (suc more) cells there))
    where
      go : (here : Bool) → AreAt table.rows (kept_matches (suc place) key rows)
          → AreAt table.rows (if here then record { place = place; cells = row } ∷ kept_matches (suc place) key rows else kept_matches (suc place) key rows)
      go true rest =
          All-cons (λ (match : Placed). slice_get table.rows match.place ≡ Some match.cells) (record { place = place; cells = row }) (kept_matches (suc place) key rows)
          (ap (slice_get table.rows) (omega arith) ∙ within 0 row refl) rest
      go false rest = rest

  module _ (node : NodeId) (kind : Kind) (on : ColId) (kept : JoinColumns) (numbers : List ℕ) (to : List NewColumn) where
    abbrev places_expanded : NumberedRow → List NumberedRow
    places_expanded row = flat_map (step_gives held (step.Enrich by_place kept.place numbers to)) (expanded row kept.place.0 (row kept.places.0))

    abbrev by_places : NumberedRow → List Value → List NumberedRow
    by_places row places = flat_map (step_gives held (step.Enrich by_place kept.place numbers to)) (expanded row kept.place.0 places)

    -- one row for each place
    each_place : (row : NumberedRow) (matches : List Placed) → AreAt table.rows matches
        → flat_map (step_gives held (step.Enrich by_place kept.place numbers to)) (map (λ (one : Value). with_cell row kept.place.0 (one ∷ [])) (places_of number table.shape column joinable.there free matches))
        ≡ map (row_of_match kept table.shape.columns numbers to row) matches
    each_place row [] at = refl
    each_place row (match ∷ matches) at =
        let P : Placed → Type 0 = λ one. slice_get table.rows one.place ≡ Some one.cells in
        ap (λ (cell : List Value). with_new (with_cell row kept.place.0 (place_cell match.place)) to (enriched held by_place numbers cell)
        ∷ flat_map (step_gives held (step.Enrich by_place kept.place numbers to)) (map (λ (one : Value). with_cell row kept.place.0 (one ∷ [])) (places_of number table.shape column joinable.there free matches)))
        (put_there row kept.place.0 (place_cell match.place))
        ∙ ap (λ (cells : List (List Value)). with_new (with_cell row kept.place.0 (place_cell match.place)) to cells
        ∷ flat_map (step_gives held (step.Enrich by_place kept.place numbers to)) (map (λ (one : Value). with_cell row kept.place.0 (one ∷ [])) (places_of number table.shape column joinable.there free matches)))
        (row_found numbers match.place match.cells (All-head P match matches at))
        ∙ ap (λ (rest : List NumberedRow). row_of_match kept table.shape.columns numbers to row match ∷ rest) (each_place row matches (All-tail P match matches at))

    -- one row for each match, or one without
    all_places : (row : NumberedRow) (matches : List Placed) → AreAt table.rows matches
        → by_places row (places_of number table.shape column joinable.there free matches) ≡ rows_of_matches kept table.shape.columns numbers to row matches
    all_places row [] at =
        ap (λ (cell : List Value). with_new (with_cell row kept.place.0 []) to (enriched held by_place numbers cell) ∷ []) (put_there row kept.place.0 [])
        ∙ ap (λ (one : NumberedRow). one ∷ []) (none_found numbers (with_cell row kept.place.0 []) to)
    all_places row (match ∷ matches) at = each_place row (match ∷ matches) at

    abbrev with_key : NumberedRow → List Value → NumberedRow
    with_key row key = with_cell row kept.key.0 key

    abbrev after_key : NumberedRow → List Value → List (List Value) → List NumberedRow
    after_key row key found = places_expanded (with_new (with_key row key) (record { id = kept.places; kind = LongKind } ∷ []) found)

    -- the four steps on one row
    pub steps_of_row : (row : NumberedRow)
        → flat_map (step_gives held (step.Enrich by_place kept.place numbers to))
        (flat_map (step_gives held (step.Expand kept.places kept.place))
        (flat_map (step_gives held (step.Enrich by_key kept.key (0 ∷ []) (record { id = kept.places; kind = LongKind } ∷ [])))
        (step_gives held (step.Eval kept.key (key_expr node kind on)) row)))
        ≡ joined_rows table column.name on kept numbers to row
    steps_of_row row =
        let key : List Value = single (row on.0) in
        let matches : List Placed = kept_matches 0 key table.rows in
        let places : List Value = places_of number table.shape column joinable.there free matches in
        let made : NumberedRow = row_with_places kept row key matches in
        ap (λ (valued : Valued). flat_map (step_gives held (step.Enrich by_place kept.place numbers to))
        (flat_map (step_gives held (step.Expand kept.places kept.place))
        (flat_map (step_gives held (step.Enrich by_key kept.key (0 ∷ []) (record { id = kept.places; kind = LongKind } ∷ [])))
        (with_cell row kept.key.0 valued.cell ∷ [])))) (key_is node kind on row)
        ∙ ap (λ (rows : List NumberedRow). flat_map (step_gives held (step.Enrich by_place kept.place numbers to)) rows)
        (append-nil (expanded (with_new (with_key row key) (record { id = kept.places; kind = LongKind } ∷ []) (enriched held by_key (0 ∷ []) (with_key row key kept.key.0))) kept.place.0
        (with_new (with_key row key) (record { id = kept.places; kind = LongKind } ∷ []) (enriched held by_key (0 ∷ []) (with_key row key kept.key.0)) kept.places.0)))
        ∙ ap (λ (cell : List Value). after_key row key (enriched held by_key (0 ∷ []) cell)) (put_there row kept.key.0 key)
        ∙ ap (after_key row key) (key_found key)
        ∙ ap (by_places made) (put_there (with_key row key) kept.places.0 places)
        ∙ all_places made matches (matches_at 0 key table.rows (λ more cells there. ap (slice_get table.rows) (omega arith) ∙ there))
