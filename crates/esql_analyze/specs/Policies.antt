-- A policy that ENRICH names, and the fields of a policy by their names, as they are seen.
use Rattle.std.specs.Prelude.{◌≡◌, ℕ, List, Option, option_map}
use Rattle.std.specs.Borrow.{Bor}
use Rattle.std.specs.BTreeMap.{BTreeMap, get_by}
use Rattle.std.specs.Cmp.Lexicographic.{slice_cmp}
use Rattle.std.specs.Ordering.{nat_cmp}
use Rattle.esql_types.specs.declared.names.Column.{Column}
use Rattle.query_semantics.specs.Appended.{FoundPolicy, FieldTaken, field_from, taken_columns, taken_numbers}
use Rattle.esql_analyze.specs.declared.enrich.Found.{Found}
use Rattle.esql_analyze.specs.declared.policy_fields.Placed.{Placed}
use Rattle.esql_analyze.specs.declared.policy_fields.Taken.{Taken}

abbrev pub found_of : Found → FoundPolicy
found_of found = record { number = found.number; shape = found.shape.now }

abbrev pub placed_of : FieldTaken → Placed
placed_of taken = record { number = taken.number; kind = taken.column.kind }

-- the first field of a name
abbrev pub field_placed : List Column → List ℕ → Option Placed
field_placed fields name = option_map placed_of (field_from 0 fields name)

-- the map has each field under its name, the first one of a name
abbrev pub AreByName : List Column → BTreeMap (Bor (List ℕ)) Placed → Type 0
AreByName fields named = (name : List ℕ) → get_by (λ key. slice_cmp nat_cmp name key.now) named ≡ field_placed fields name

-- the fields are these, by their numbers and as columns
pub record AreTaken (these : List FieldTaken) (taken : Taken) : Type 0 where
  pub numbers : taken.numbers ≡ taken_numbers these
  pub columns : taken.columns ≡ taken_columns these
