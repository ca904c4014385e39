-- Names by their numbers, and lists by the names of their items, as the code holds them.
use Rattle.std.specs.Prelude.{◌≡◌, ⊤, ℕ, suc, ◌+◌, Bool, false, is_some, List, [], ◌∷◌, ◌++◌, Option, Some, None, option_map, slice_index_or, slice_set, if◌then◌else◌}
use Rattle.std.specs.Borrow.{Bor}
use Rattle.std.specs.BTreeMap.{BTreeMap, get_by}
use Rattle.std.specs.Cmp.Lexicographic.{slice_cmp}
use Rattle.std.specs.List.{list_any}
use Rattle.std.specs.Ordering.{nat_cmp, ordering_then}
use Rattle.std.specs.Str.{bytes_eq}
use Rattle.std.specs.declared.cmp.Ordering.{Ordering}
use Rattle.dissect_grok.specs.declared.keys.Form.{Form}
use Rattle.dissect_grok.specs.declared.keys.Form.TheVariants.{Skipped, Named, Appended}
use Rattle.dissect_grok.specs.declared.keys.Key.{Key}
use Rattle.dissect_grok.specs.declared.turns.Turn.{Turn}
use Rattle.dissect_grok.specs.Joined.{has_name, order_in}

-- what a map has at a name
abbrev pub number_at : BTreeMap (Bor (List ℕ)) ℕ → List ℕ → Option ℕ
number_at index name = get_by (λ key. slice_cmp nat_cmp name key.now) index

-- the number of a name so far, or that of a name which comes behind
abbrev pub number_or : Option ℕ → List ℕ → ℕ → List ℕ → Option ℕ
number_or (Some known) name number other = Some known
number_or None name number other = if bytes_eq name other then Some number else None

-- the number of the first of names that is this one, counted from 0
abbrev pub number_of : List (List ℕ) → List ℕ → Option ℕ
number_of [] name = None
number_of (first ∷ rest) name = if bytes_eq first name then Some 0 else option_map suc (number_of rest name)

-- the map has each of the names, with the number of the first that is the same
abbrev pub IsIndex : List (List ℕ) → BTreeMap (Bor (List ℕ)) ℕ → Type 0
IsIndex names index = (name : List ℕ) → number_at index name ≡ number_of names name

-- no two of the names are the same
abbrev pub AreDistinct : List (List ℕ) → Type 0
AreDistinct [] = ⊤
AreDistinct (name ∷ names) = (list_any (bytes_eq name) names ≡ false) × AreDistinct names

-- lists, with one more item at the end of the list of a number
abbrev pub put_at : {Item : Type 0} → Option ℕ → List (List Item) → Item → List (List Item)
put_at None lists item = lists
put_at (Some number) lists item = slice_set lists number (slice_index_or lists number [] ++ item ∷ [])

-- by the numbers of turns, and then by the places of their keys
abbrev pub turn_order : Turn → Turn → Ordering
turn_order left right = ordering_then (nat_cmp left.order right.order) (nat_cmp left.place right.place)

-- the form is a name without `+`, and the name has a number
abbrev pub is_noted : (List ℕ → Option ℕ) → Form → Bool
is_noted numbers Skipped = false
is_noted numbers (Named name) = is_some (numbers name)
is_noted numbers (Appended name order) = false

-- the turns of the keys that have a name by their places, of which the first key stands at a place
abbrev pub turns_at : ℕ → List Key → List ℕ → List Turn
turns_at place [] name = []
turns_at place (key ∷ keys) name =
    if has_name name key.form
    then record { order = order_in key.form; place = place } ∷ turns_at (place + 1) keys name
    else turns_at (place + 1) keys name
