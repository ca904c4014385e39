-- The rows that a scan takes of tables.
use Rattle.std.proofs.Common.{◌≡◌, ℕ, zero, suc, ◌+◌, ◌<◌, Bool, true, false, List, [], ◌∷◌, ◌++◌, length, get_or, set, replicate, map, All, Option, Some, None, refl, ap, sym, ◌∙◌, arith, zero-add}
use Rattle.std.specs.Prelude.{if◌then◌else◌, slice_get}
use Rattle.std.specs.Str.{bytes_eq}
use Rattle.std.proofs.lemmas.List.{length-set, length-map, length-replicate, map-set, map-append, append-nil}
use Rattle.std.proofs.lemmas.List.Elements.{All-head, All-tail}
use Rattle.esql_types.specs.declared.value.Value.{Value}
use Rattle.esql_types.specs.declared.names.Column.{Column}
use Rattle.esql_plan.specs.declared.catalog.TableShape.{TableShape}
use Rattle.esql_plan.specs.declared.plan.ScanColumn.{ScanColumn}
use Rattle.esql_plan.specs.Values.{NumberedRow}
use Rattle.esql_scalar.specs.Rows.{row_of}
use Rattle.plan_semantics.specs.Tables.{TableHeld, cell_named, empty_row, with_cell, scan_row, scan_table}
use Rattle.plan_rows.specs.Held.{shapes_held}
use Rattle.plan_rows.specs.Kept.{rows_of}
use Rattle.plan_rows.specs.Places.{place_from, places_of, cell_in, cells_in}
use Rattle.plan_rows.proofs.NumberedRows.{row_of-nulls, row_of-set}

nothing_named : (columns : List Column) (name : List ℕ) → cell_named columns [] name ≡ []
nothing_named [] name = refl
nothing_named (column ∷ columns) name = refl

module _ (whole : List (List Value)) (name : List ℕ) where
  -- cells that stand from a place on
  abbrev StandFrom : ℕ → List (List Value) → Type 0
  StandFrom place cells = (k : ℕ) → get_or whole (place + k) [] ≡ get_or cells k []

  at_first : (place : ℕ) (cells : List (List Value)) → StandFrom place cells → get_or whole place [] ≡ get_or cells 0 []
  at_first place cells stand = let none : place ≡ place + 0 = omega arith in ap (λ k. get_or whole k []) none ∙ stand 0

  behind_first : (place : ℕ) (cell : List Value) (cells : List (List Value)) → StandFrom place (cell ∷ cells) → StandFrom (place + 1) cells
  behind_first place cell cells stand k = let more : place + 1 + k ≡ place + suc k = omega arith in ap (λ n. get_or whole n []) more ∙ stand (suc k)

  behind_all : (place : ℕ) → StandFrom place [] → StandFrom (place + 1) []
  behind_all place stand k = let more : place + 1 + k ≡ place + suc k = omega arith in ap (λ n. get_or whole n []) more ∙ stand (suc k)

  named_from : (columns : List Column) (place : ℕ) (cells : List (List Value)) → StandFrom place cells → cell_in whole (place_from columns place name) ≡ cell_named columns cells name
  named_from [] place cells stand = refl
  named_from (column ∷ columns) place [] stand = chosen (bytes_eq column.name name) (named_from columns (place + 1) [] (behind_all place stand) ∙ nothing_named columns name) where
    chosen : (b : Bool) → cell_in whole (place_from columns (place + 1) name) ≡ [] → cell_in whole (if b then Some place else place_from columns (place + 1) name) ≡ []
    chosen true later = at_first place [] stand
    chosen false later = later
  named_from (column ∷ columns) place (cell ∷ cells) stand = chosen (bytes_eq column.name name) (named_from columns (place + 1) cells (behind_first place cell cells stand)) where
    chosen : (b : Bool) → cell_in whole (place_from columns (place + 1) name) ≡ cell_named columns cells name
        → cell_in whole (if b then Some place else place_from columns (place + 1) name) ≡ (if b then cell else cell_named columns cells name)
    chosen true later = at_first place (cell ∷ cells) stand
    chosen false later = later

  pub cell_in-named : (columns : List Column) → cell_in whole (place_from columns 0 name) ≡ cell_named columns whole name
  cell_in-named columns = named_from columns 0 whole (λ k. ap (λ n. get_or whole n []) (zero-add k))

abbrev pub IsScannedBelow : ℕ → ScanColumn → Type 0
IsScannedBelow count column = column.to.0 < count

pub length-places_of : (count : ℕ) (scanned : List ScanColumn) (columns : List Column) → length (places_of count scanned columns) ≡ count
length-places_of count [] columns = length-replicate count None
length-places_of count (one ∷ more) columns = length-set (places_of count more columns) one.to.0 (place_from columns 0 one.name) ∙ length-places_of count more columns

pub length-cells_in : (count : ℕ) (scanned : List ScanColumn) (columns : List Column) (cells : List (List Value)) → length (cells_in (places_of count scanned columns) cells) ≡ count
length-cells_in count scanned columns cells = length-map (places_of count scanned columns) (cell_in cells) ∙ length-places_of count scanned columns

nulls_in : (count : ℕ) (cells : List (List Value)) → map (cell_in cells) (replicate count None) ≡ replicate count []
nulls_in zero cells = refl
nulls_in (suc count) cells = ap (λ (rest : List (List Value)). [] ∷ rest) (nulls_in count cells)

row_of-cells_in : (count : ℕ) (scanned : List ScanColumn) (columns : List Column) (cells : List (List Value)) → All (IsScannedBelow count) scanned
    → row_of (cells_in (places_of count scanned columns) cells) ≡ scan_row scanned columns cells
row_of-cells_in count [] columns cells below = ap row_of (nulls_in count cells) ∙ row_of-nulls count
row_of-cells_in count (one ∷ more) columns cells below =
    let place = place_from columns 0 one.name in
    let places = places_of count more columns in
    let here : one.to.0 < count = All-head (IsScannedBelow count) one more below in
    let within : one.to.0 < length (cells_in places cells) = omega (arith, here, length-cells_in count more columns cells) in
    ap row_of (map-set (cell_in cells) places one.to.0 place)
    ∙ row_of-set (cells_in places cells) one.to.0 (cell_in cells place) within
    ∙ ap (λ (row : NumberedRow). with_cell row one.to.0 (cell_in cells place)) (row_of-cells_in count more columns cells (All-tail (IsScannedBelow count) one more below))
    ∙ ap (with_cell (scan_row more columns cells) one.to.0) (cell_in-named cells one.name columns)

pub rows_of-cells_in : (count : ℕ) (scanned : List ScanColumn) (columns : List Column) (table : List (List (List Value))) → All (IsScannedBelow count) scanned
    → rows_of (map (cells_in (places_of count scanned columns)) table) ≡ map (scan_row scanned columns) table
rows_of-cells_in count scanned columns [] below = refl
rows_of-cells_in count scanned columns (cells ∷ table) below =
    λ i. row_of-cells_in count scanned columns cells below i ∷ rows_of-cells_in count scanned columns table below i

-- tables of numbers ------------------------------------------------------------------------------------------------------------

pub held_at : (shapes : List TableShape) (tables : List (List (List (List Value)))) (number : ℕ) (shape : TableShape) (rows : List (List (List Value)))
    → slice_get shapes number ≡ Some shape → slice_get tables number ≡ Some rows
    → slice_get (shapes_held shapes tables) number ≡ Some (record { shape = shape; rows = rows })
held_at [] tables number shape rows there held = absurd cc
held_at (one ∷ shapes) [] number shape rows there held = absurd cc
held_at (one ∷ shapes) (these ∷ tables) zero shape rows there held =
    let same : one ≡ shape = cc in
    let all : these ≡ rows = cc in
    λ i. Some (record { shape = same i; rows = all i })
held_at (one ∷ shapes) (these ∷ tables) (suc number) shape rows there held = held_at shapes tables number shape rows there held

pub without_shape : (shapes : List TableShape) (tables : List (List (List (List Value)))) (number : ℕ) → slice_get shapes number ≡ None
    → slice_get (shapes_held shapes tables) number ≡ None
without_shape [] tables number none = refl
without_shape (one ∷ shapes) [] number none = refl
without_shape (one ∷ shapes) (these ∷ tables) zero none = absurd cc
without_shape (one ∷ shapes) (these ∷ tables) (suc number) none = without_shape shapes tables number none

pub without_rows : (shapes : List TableShape) (tables : List (List (List (List Value)))) (number : ℕ) → slice_get tables number ≡ None
    → slice_get (shapes_held shapes tables) number ≡ None
without_rows [] tables number none = refl
without_rows (one ∷ shapes) [] number none = refl
without_rows (one ∷ shapes) (these ∷ tables) zero none = absurd cc
without_rows (one ∷ shapes) (these ∷ tables) (suc number) none = without_rows shapes tables number none

-- the rows of a table behind those before
module _ (count : ℕ) (scanned : List ScanColumn) (shape : TableShape) (before table after : List (List (List Value))) (places : List (Option ℕ))
    (are : places ≡ places_of count scanned shape.columns) (made : after ≡ before ++ map (cells_in places) table) where
  made_so : after ≡ before ++ map (cells_in (places_of count scanned shape.columns)) table
  made_so = made ∙ ap (λ (these : List (Option ℕ)). before ++ map (cells_in these) table) are

  pub rows_more : All (IsScannedBelow count) scanned → (held : Option TableHeld) → held ≡ Some (record { shape = shape; rows = table })
      → rows_of after ≡ rows_of before ++ scan_table scanned held
  rows_more below held is =
      ap rows_of made_so
      ∙ map-append row_of before (map (cells_in (places_of count scanned shape.columns)) table)
      ∙ ap (λ (these : List NumberedRow). rows_of before ++ these) (rows_of-cells_in count scanned shape.columns table below)
      ∙ ap (λ (one : Option TableHeld). rows_of before ++ scan_table scanned one) (sym is)

pub none_more : (scanned : List ScanColumn) (before : List NumberedRow) (held : Option TableHeld) → held ≡ None → before ≡ before ++ scan_table scanned held
none_more scanned before held is = sym (append-nil before) ∙ ap (λ (one : Option TableHeld). before ++ scan_table scanned one) (sym is)
