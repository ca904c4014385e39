-- What a plan that is being written is seen as, and the room that it has.
use Rattle.std.specs.Prelude.{◌≤◌, ℕ, ◌+◌, List, [], ◌∷◌, length, slice_get}
use Rattle.std.specs.List.{filter_map}
use Rattle.std.specs.Option.{option_map}
use Rattle.name_rules.specs.NameRules.{Renaming}
use Rattle.esql_plan.specs.declared.plan.OutColumn.{OutColumn}
use Rattle.query_semantics.specs.Writings.{Writing}
use Rattle.plan_writing.specs.declared.writing.Writing.{Writing as Made}
use Rattle.visible_columns.specs.declared.columns.Shown.{Shown}

abbrev pub seen : Made → Writing
seen made = record { visible = made.visible; next = made.next; whole = made.patterns.whole; free = made.patterns.free; cutters = made.cutters; steps = made.steps }

-- there is room for as many more columns, seen or not, and for as many more patterns of each kind and cutters
pub record HasRoom (writing : Writing) (more : ℕ) : Type 0 where
  pub shown : length writing.visible + more ≤ 4294967295
  pub columns : writing.next + more ≤ 4294967295
  pub whole : length writing.whole + more ≤ 4294967295
  pub free : length writing.free + more ≤ 4294967295
  pub cutters : length writing.cutters + more ≤ 4294967295

abbrev pub under_name : List ℕ → Shown → OutColumn
under_name name shown = record { name = name; kind = shown.kind; id = shown.id }

-- columns under their names
abbrev pub joined : List (List ℕ) → List Shown → List OutColumn
joined [] shown = []
joined (name ∷ names) [] = []
joined (name ∷ names) (one ∷ shown) = under_name name one ∷ joined names shown

-- those at places, under new names
abbrev pub shown_under : List Renaming → List Shown → List OutColumn
shown_under these shown = filter_map (λ (renaming : Renaming). option_map (under_name renaming.name) (slice_get shown renaming.place)) these
