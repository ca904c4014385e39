-- A value that is walked once for a range of columns.
use Rattle.std.specs.Prelude.{◌≡◌, ℕ, ◌+◌, ◌<◌, ◌≤◌, Bool, true, false, List, [], ◌∷◌, ◌++◌, length, drop, get_or, nat_eq, Option, Some, None, if◌then◌else◌}
use Rattle.std.specs.List.{starts_with}
use Rattle.std.specs.Ordering.{nat_cmp, is_lt}
use Rattle.std.specs.Cmp.Lexicographic.{slice_cmp}
use Rattle.std.specs.Str.{bytes_eq}
use Rattle.esql_types.specs.declared.value.Value.{Value as CellValue}
use Rattle.ndjson_load.specs.Gathering.{Item}
use Rattle.ndjson_load.specs.Joining.{after}
use Rattle.ndjson_load.specs.Rows.{taken}
use Rattle.ndjson_load.specs.declared.column.MappedColumn.{MappedColumn}
use Rattle.ndjson_load.specs.declared.reach.Reach.{Reach}

-- ---- what is left of names

-- what is left of the name of a column after so many of its bytes
abbrev pub rest_at : ℕ → MappedColumn → List ℕ
rest_at depth column = drop depth column.column.name

-- bytes stand before others in byte order
abbrev pub stands_before : List ℕ → List ℕ → Bool
stands_before left right = is_lt (slice_cmp nat_cmp left right)

-- a path goes on under a key: it begins with the key and a dot
abbrev pub goes_under : List ℕ → List ℕ → Bool
goes_under key path = starts_with nat_eq path (key ++ 46 ∷ [])

-- ---- ranges of columns

-- The columns from `low` to below `high` have names of which what is left rises in byte order.
pub record AreRange (columns : List MappedColumn) (depth low high : ℕ) : Type 0 where
  pub order : low ≤ high
  pub within : high ≤ length columns
  pub rise : (i j : ℕ) (d : MappedColumn) → low ≤ i → i < j → j < high → stands_before (rest_at depth (get_or columns i d)) (rest_at depth (get_or columns j d)) ≡ true

-- P of what is left of the name of each column of a range
abbrev pub Rests : List MappedColumn → ℕ → ℕ → ℕ → (List ℕ → Type 0) → Type 0
Rests columns depth low high P = (i : ℕ) (d : MappedColumn) → low ≤ i → i < high → P (rest_at depth (get_or columns i d))

-- no name of a range ends
abbrev pub AreOpen : List MappedColumn → ℕ → ℕ → ℕ → Type 0
AreOpen columns depth low high = Rests columns depth low high (λ rest. 0 < length rest)

-- the first name of a range ends, and no other
pub record FirstEnds (columns : List MappedColumn) (depth low high : ℕ) : Type 0 where
  pub some : low < high
  pub ends : (d : MappedColumn) → rest_at depth (get_or columns low d) ≡ []
  pub others : AreOpen columns depth (low + 1) high

-- whether no name of a range ends; at most the first does
abbrev pub GoesOn : List MappedColumn → ℕ → ℕ → ℕ → Bool → Type 0
GoesOn columns depth low high true = AreOpen columns depth low high
GoesOn columns depth low high false = FirstEnds columns depth low high

-- the place of a range up to which all is less than a bound
pub record IsPlace (columns : List MappedColumn) (depth low high : ℕ) (bound : List ℕ) (place : ℕ) : Type 0 where
  pub from : low ≤ place
  pub upto : place ≤ high
  pub less : Rests columns depth low place (λ rest. stands_before rest bound ≡ true)
  pub others : Rests columns depth place high (λ rest. stands_before rest bound ≡ false)

-- the one column of a range of which a key is left
pub record IsEndingAt (columns : List MappedColumn) (depth low high : ℕ) (key : List ℕ) (place : ℕ) : Type 0 where
  pub from : low ≤ place
  pub below : place < high
  pub here : (d : MappedColumn) → rest_at depth (get_or columns place d) ≡ key
  pub before : Rests columns depth low place (λ rest. bytes_eq rest key ≡ false)
  pub behind : Rests columns depth (place + 1) high (λ rest. bytes_eq rest key ≡ false)

abbrev pub IsEnding : List MappedColumn → ℕ → ℕ → ℕ → List ℕ → Option ℕ → Type 0
IsEnding columns depth low high key None = Rests columns depth low high (λ rest. bytes_eq rest key ≡ false)
IsEnding columns depth low high key (Some place) = IsEndingAt columns depth low high key place

-- the columns of a range of whose names what is left goes on under a key
pub record AreUnder (columns : List MappedColumn) (depth low high : ℕ) (key : List ℕ) (under : Reach) : Type 0 where
  pub from : low ≤ under.low
  pub upto : under.high ≤ high
  pub deeper : under.depth ≡ depth + (length key + 1)
  pub range : AreRange columns under.depth under.low under.high
  pub inside : Rests columns depth under.low under.high (λ rest. goes_under key rest ≡ true)
  pub before : Rests columns depth low under.low (λ rest. goes_under key rest ≡ false)
  pub behind : Rests columns depth under.high high (λ rest. goes_under key rest ≡ false)

abbrev pub IsUnder : List MappedColumn → ℕ → ℕ → ℕ → List ℕ → Option Reach → Type 0
IsUnder columns depth low high key None = Rests columns depth low high (λ rest. goes_under key rest ≡ false)
IsUnder columns depth low high key (Some under) = AreUnder columns depth low high key under

-- ---- what the columns of a range take

-- Each column of a range took of `whole`, for what is left of its name, all but what `later` gives; no other cell changed.
pub record Spreads (columns : List MappedColumn) (depth low high : ℕ) (whole later : List ℕ → List Item) (old new : List (List CellValue)) : Type 0 where
  pub size : length new ≡ length old
  pub inside : (i : ℕ) (d : MappedColumn) → low ≤ i → i < high → after (get_or old i []) (taken (get_or columns i d) (whole (rest_at depth (get_or columns i d)))) ≡ after (get_or new i []) (taken (get_or columns i d) (later (rest_at depth (get_or columns i d))))
  pub before : (i : ℕ) → i < low → get_or new i [] ≡ get_or old i []
  pub behind : (i : ℕ) → high ≤ i → get_or new i [] ≡ get_or old i []

abbrev pub nothing : List ℕ → List Item
nothing path = []

-- what is given for the path that is a key
abbrev pub at_key : List ℕ → (List ℕ → List Item) → List ℕ → List Item
at_key key give path = if bytes_eq path key then give [] else []

-- what is given for what is left of a path that goes on under a key
abbrev pub under_key : List ℕ → (List ℕ → List Item) → List ℕ → List Item
under_key key give path = if goes_under key path then give (drop (length key + 1) path) else []
