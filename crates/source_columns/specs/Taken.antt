-- Names that FROM took before, and whether it may take them again.
use Rattle.std.specs.Prelude.{◌≡◌, ℕ, Bool, not, List, Option, Some, None, IsSome, IfSome, if◌then◌else◌}
use Rattle.std.specs.Borrow.{Bor}
use Rattle.std.specs.BTreeMap.{BTreeMap}
use Rattle.std.specs.List.{AllByRecursion, list_any}
use Rattle.std.specs.Str.{bytes_eq}
use Rattle.esql_types.specs.declared.names.Column.{Column}
use Rattle.esql_plan.specs.declared.catalog.TableShape.{TableShape}
use Rattle.row_semantics.specs.Sources.{clashes, table_named}
use Rattle.source_columns.specs.Index.{at_name}
use Rattle.source_columns.specs.Gathered.{kind_in}

-- a column of the name is among the columns
abbrev pub IsAmong : List Column → Column → Type 0
IsAmong columns column = IsSome (kind_in columns column.name)

-- the columns of a table are among others, and agree with them in their kinds, or do not
abbrev pub IsTaken : List Column → Option TableShape → Bool → Type 0
IsTaken columns None agrees = ⊥
IsTaken columns (Some table) agrees = AllByRecursion (IsAmong columns) table.columns × (list_any (clashes columns) table.columns ≡ not agrees)

-- each name in a map is that of a table that is taken
abbrev pub AreTaken : List TableShape → List Column → BTreeMap (Bor (List ℕ)) Bool → Type 0
AreTaken tables columns taken = (name : List ℕ) → IfSome (at_name taken name) (IsTaken columns (table_named tables name))

-- a name is put into a map
abbrev pub Puts : List ℕ → Bool → BTreeMap (Bor (List ℕ)) Bool → BTreeMap (Bor (List ℕ)) Bool → Type 0
Puts name agrees old new = (other : List ℕ) → at_name new other ≡ (if bytes_eq name other then Some agrees else at_name old other)
