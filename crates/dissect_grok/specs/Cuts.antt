-- DISSECT: what the keys of a pattern take of a text.
use Rattle.std.specs.Prelude.{ℕ, Bool, List, [], ◌∷◌, map, Option, Some, None, option_map, option_and_then, if◌then◌else◌}
use Rattle.dissect_grok.specs.declared.keys.Key.{Key}
use Rattle.dissect_grok.specs.Joined.{joined_turns, turns_of}
use Rattle.dissect_grok.specs.Patterns.{Reading, names_of}
use Rattle.dissect_grok.specs.Texts.{behind_copies, behind_front, cut_at}

-- the text that is left behind a delimiter, after `->` without the further copies of it that stand there
abbrev pub left_behind : Bool → List ℕ → List ℕ × List ℕ → List ℕ × List ℕ
left_behind repeats delimiter parts = (parts.0, if repeats then behind_copies delimiter parts.1 else parts.1)

-- The text up to the first occurrence of a delimiter, and the text that is left behind it. An empty delimiter ends the last
-- key, which takes the rest.
abbrev pub taken_to : Bool → List ℕ → List ℕ → Option (List ℕ × List ℕ)
taken_to repeats [] text = Some (text, [])
taken_to repeats (byte ∷ bytes) text = option_map (left_behind repeats (byte ∷ bytes)) (cut_at (byte ∷ bytes) text)

-- the text that a key takes, and the text that is left
abbrev pub taken_by : Key → List ℕ → Option (List ℕ × List ℕ)
taken_by key text = taken_to key.repeats key.delimiter text

-- the text of a key, and those of the keys behind it, as `more` takes them
abbrev pub texts_from : (List ℕ → Option (List (List ℕ))) → Option (List ℕ × List ℕ) → Option (List (List ℕ))
texts_from more None = None
texts_from more (Some (text, left)) = option_map (λ texts. text ∷ texts) (more left)

-- the texts that keys take, one after another; what is left behind the last is not looked at
abbrev pub texts_of : List Key → List ℕ → Option (List (List ℕ))
texts_of [] text = Some []
texts_of (key ∷ keys) text = texts_from (λ left. texts_of keys left) (taken_by key text)

-- a text for each name
abbrev pub texts_by_name : Reading → List (List ℕ) → List (List ℕ)
texts_by_name reading texts = map (λ name. joined_turns reading.separator texts (turns_of reading.keys name)) (names_of reading.keys)

-- the text of each name of a pattern, where a text matches it: the text begins with the first literal, and the keys take the rest
abbrev pub cut_of : Reading → List ℕ → Option (List (List ℕ))
cut_of reading text = option_map (texts_by_name reading) (option_and_then (texts_of reading.keys) (behind_front reading.first text))
