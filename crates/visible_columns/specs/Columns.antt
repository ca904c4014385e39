-- What is read of the columns that can be seen, and what becomes of them.
use Rattle.std.specs.Prelude.{ℕ, Bool, true, false, not, List, [], ◌∷◌, ◌++◌, filter, if◌then◌else◌}
use Rattle.std.specs.Str.{bytes_eq}
use Rattle.esql_types.specs.declared.names.ColId.{ColId}
use Rattle.esql_plan.specs.declared.plan.OutColumn.{OutColumn}
use Rattle.visible_columns.specs.declared.columns.Shown.{Shown}

-- a column that can be seen, without its name
abbrev pub shown_of : OutColumn → Shown
shown_of column = record { kind = column.kind; id = column.id }

-- no column can be seen
abbrev pub is_empty : List OutColumn → Bool
is_empty [] = true
is_empty (column ∷ columns) = false

-- a column takes the place of that of its name, and stands at the end
abbrev pub with_last : List OutColumn → OutColumn → List OutColumn
with_last columns column = filter (λ (other : OutColumn). not (bytes_eq other.name column.name)) columns ++ column ∷ []

-- another number in the place of that of the column of a name
abbrev pub renumbered : List ℕ → ColId → OutColumn → OutColumn
renumbered name number column = if bytes_eq column.name name then record { name = column.name; kind = column.kind; id = number } else column
