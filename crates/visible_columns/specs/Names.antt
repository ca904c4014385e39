-- What is known of names.
use Rattle.std.specs.Prelude.{◌≡◌, ℕ, ◌+◌, List, [], ◌∷◌, Option, Some, None, option_map, if◌then◌else◌}
use Rattle.std.specs.Str.{bytes_eq}
use Rattle.esql_plan.specs.declared.plan.OutColumn.{OutColumn}
use Rattle.visible_columns.specs.declared.names.Known.{Known}

-- what is known of each name, of which one is known otherwise now
abbrev pub put_name : List ℕ → Known → (List ℕ → Option Known) → List ℕ → Option Known
put_name name known old other = if bytes_eq name other then Some known else old other

-- the columns of the name can be seen from the slot on, under their own numbers
abbrev pub known_from : ℕ → Known
known_from slot = record { from = slot; number = None }

-- what was known of a name, or that of a name which comes behind
abbrev pub known_or : Option Known → List ℕ → ℕ → List ℕ → Option Known
known_or (Some known) name slot other = Some known
known_or None name slot other = if bytes_eq name other then Some (known_from slot) else None

-- the first slot of a name, where the first slot of all is given
abbrev pub first_from : ℕ → List OutColumn → List ℕ → Option ℕ
first_from slot [] name = None
first_from slot (column ∷ columns) name = if bytes_eq column.name name then Some slot else first_from (slot + 1) columns name

-- each name of the columns is known from its first slot on, and no other is known
abbrev pub FirstsOf : List OutColumn → (List ℕ → Option Known) → Type 0
FirstsOf columns known = (name : List ℕ) → known name ≡ option_map known_from (first_from 0 columns name)
