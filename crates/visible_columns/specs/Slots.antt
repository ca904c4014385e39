-- Columns in slots, and which of them can be seen.
use Rattle.std.specs.Prelude.{◌≡◌, ℕ, ◌+◌, nat_le, true, List, [], ◌∷◌, ◌++◌, slice_get, Option, Some, None, if◌then◌else◌}
use Rattle.std.specs.Str.{bytes_eq}
use Rattle.esql_types.specs.declared.names.ColId.{ColId}
use Rattle.esql_plan.specs.declared.plan.OutColumn.{OutColumn}
use Rattle.visible_columns.specs.declared.names.Known.{Known}

-- a column under a number in the place of its own, if there is one
abbrev pub numbered_by : Option ColId → OutColumn → OutColumn
numbered_by None column = column
numbered_by (Some number) column = record { name = column.name; kind = column.kind; id = number }

-- the column of a slot, if it can be seen by what is known of its name
abbrev pub seen_by : Option Known → ℕ → OutColumn → List OutColumn
seen_by None slot column = []
seen_by (Some known) slot column = if nat_le known.from slot then numbered_by known.number column ∷ [] else []

-- the columns that can be seen of those in slots from one on, by what is known of each name
abbrev pub slots_seen : (List ℕ → Option Known) → ℕ → List OutColumn → List OutColumn
slots_seen known slot [] = []
slots_seen known slot (column ∷ columns) = seen_by (known column.name) slot column ++ slots_seen known (slot + 1) columns

-- the slot has a column of the name
abbrev pub HasName : List OutColumn → List ℕ → ℕ → Type 0
HasName slots name slot = (column : OutColumn) × (slice_get slots slot ≡ Some column) × (bytes_eq column.name name ≡ true)

-- each name that is known can be seen from a slot on that has it
abbrev pub AreStanding : (List ℕ → Option Known) → List OutColumn → Type 0
AreStanding known slots = (name : List ℕ) (this : Known) → known name ≡ Some this → HasName slots name this.from
