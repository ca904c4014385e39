-- The numbers of tables by their names.
use Rattle.std.specs.Prelude.{◌≡◌, ℕ, ◌≤◌, List, Option, Some, None, IfSome, if◌then◌else◌}
use Rattle.std.specs.Borrow.{Bor}
use Rattle.std.specs.BTreeMap.{BTreeMap, get_by}
use Rattle.std.specs.Cmp.Lexicographic.{slice_cmp}
use Rattle.std.specs.Ordering.{nat_cmp}
use Rattle.std.specs.Str.{bytes_eq}
use Rattle.esql_plan.specs.declared.catalog.TableShape.{TableShape}
use Rattle.row_semantics.specs.Sources.{number_of_table}

-- what a map has at a name
abbrev pub at_name : {Held : Type 0} → BTreeMap (Bor (List ℕ)) Held → List ℕ → Option Held
at_name held name = get_by (λ key. slice_cmp nat_cmp name key.now) held

abbrev pub number_at : BTreeMap (Bor (List ℕ)) ℕ → List ℕ → Option ℕ
number_at = at_name

-- the number of a name so far, or that of a name which comes behind
abbrev pub number_or : Option ℕ → List ℕ → ℕ → List ℕ → Option ℕ
number_or (Some known) name number other = Some known
number_or None name number other = if bytes_eq name other then Some number else None

-- the map has each name of a table, with the number of the first table that has it
abbrev pub IsIndex : List TableShape → BTreeMap (Bor (List ℕ)) ℕ → Type 0
IsIndex tables index = (name : List ℕ) → number_at index name ≡ number_of_table tables name

-- each number fits 32 bits
abbrev pub AreSmall : BTreeMap (Bor (List ℕ)) ℕ → Type 0
AreSmall index = (name : List ℕ) → IfSome (number_at index name) (λ number. number ≤ 4294967295)
