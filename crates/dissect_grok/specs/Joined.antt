-- The texts of the keys of one name, in order.
use Rattle.std.specs.Prelude.{ℕ, ◌+◌, nat_lt, Bool, false, List, [], ◌∷◌, ◌++◌, length, map, Option, slice_index_or, if◌then◌else◌}
use Rattle.std.specs.List.{insert, position}
use Rattle.std.specs.Option.{unwrap_or}
use Rattle.std.specs.Str.{bytes_eq}
use Rattle.dissect_grok.specs.declared.keys.Form.{Form}
use Rattle.dissect_grok.specs.declared.keys.Form.TheVariants.{Skipped, Named, Appended}
use Rattle.dissect_grok.specs.declared.keys.Key.{Key}
use Rattle.dissect_grok.specs.declared.turns.Turn.{Turn}

-- the number by which the texts of one name are ordered, 0 where none is written
abbrev pub order_in : Form → ℕ
order_in Skipped = 0
order_in (Named name) = 0
order_in (Appended name order) = order

-- the key is not skipped, and has the name
abbrev pub has_name : List ℕ → Form → Bool
has_name name Skipped = false
has_name name (Named other) = bytes_eq name other
has_name name (Appended other order) = bytes_eq name other

-- the place of the first turn of a greater order
abbrev pub first_later : Turn → List Turn → Option ℕ
first_later turn turns = position (λ (other : Turn). nat_lt turn.order other.order) turns

-- one more turn, before the first one of a greater order, or at the end
abbrev pub with_turn : List Turn → Turn → List Turn
with_turn turns turn = insert turns (unwrap_or (first_later turn turns) (length turns)) turn

-- the turn of a key at a place, where it has the name
abbrev pub with_form : List ℕ → List Turn → ℕ → Form → List Turn
with_form name turns place form = if has_name name form then with_turn turns (record { order = order_in form; place = place }) else turns

-- the turns so far, and those of the keys that have the name, of which the first key stands at a place
abbrev pub turns_from : List ℕ → List Turn → ℕ → List Key → List Turn
turns_from name turns place [] = turns
turns_from name turns place (key ∷ keys) = turns_from name (with_form name turns place key.form) (place + 1) keys

-- the turns of the keys of a name, by their orders, and those of one order by their places
abbrev pub turns_of : List Key → List ℕ → List Turn
turns_of keys name = turns_from name [] 0 keys

-- texts with a separator between each two
abbrev pub joined : List ℕ → List (List ℕ) → List ℕ
joined separator [] = []
joined separator (first ∷ []) = first
joined separator (first ∷ second ∷ rest) = first ++ (separator ++ joined separator (second ∷ rest))

-- the text of the key whose turn it is
abbrev pub text_at : List (List ℕ) → Turn → List ℕ
text_at texts turn = slice_index_or texts turn.place []

-- the texts of a name's keys, joined by the separator in the order of their turns
abbrev pub joined_turns : List ℕ → List (List ℕ) → List Turn → List ℕ
joined_turns separator texts turns = joined separator (map (text_at texts) turns)
