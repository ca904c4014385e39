-- What the laws of blocks and pages say.
use Rattle.std.specs.Prelude.{ℕ, ◌≡◌, ◌+◌, ◌≤◌, Bool, true, List, length, take, drop, replicate, count_by}
use Rattle.esql_types.specs.declared.value.Value.{Value}
use Rattle.col_blocks.specs.Kept.{kept_by, scattered}
use Rattle.col_blocks.specs.Pages.{Columns, rows_by}
use Rattle.col_blocks.specs.Seen.{BlockSeen}

-- two blocks of one kind whose cells are the same are told apart by nothing but their form
abbrev pub FormsTellApart : Type 0
FormsTellApart = (left right : BlockSeen) → left.kind ≡ right.kind → left.cells ≡ right.cells → left.form ≡ right.form → left ≡ right

-- a filter by a mask whose places are all set keeps the cells as they are
abbrev pub AllAreKept : Type 0
AllAreKept = (cells : List (List Value)) → kept_by (replicate (length cells) true) cells ≡ cells

-- cells that are scattered over the set places of a mask are those that a filter by the mask keeps
abbrev pub ScatteredAreKept : Type 0
ScatteredAreKept = (places : List Bool) (cells : List (List Value)) → count_by (λ place. place) places ≡ length cells → kept_by places (scattered places cells) ≡ cells

-- scattered cells are one for each place
abbrev pub ScatteredFillPlaces : Type 0
ScatteredFillPlaces = (places : List Bool) (cells : List (List Value)) → length (scattered places cells) ≡ length places

-- a slice of a slice is a slice
abbrev pub SlicesOfSlices : Type 0
SlicesOfSlices = (cells : List (List Value)) (start len from count : ℕ) → from + count ≤ len → take count (drop from (take len (drop start cells))) ≡ take count (drop (start + from) cells)

-- where each column of a page is filtered by a mask, its rows are
abbrev pub RowsAreFiltered : Type 0
RowsAreFiltered = (keeps : List Bool) (columns : Columns) → rows_by (count_by (λ keep. keep) keeps) (λ id. kept_by keeps (columns id)) ≡ kept_by keeps (rows_by (length keeps) columns)
