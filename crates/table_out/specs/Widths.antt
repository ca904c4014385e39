-- The widths of columns, for the clauses of the functions that find them.
use Rattle.std.specs.Prelude.{◌≡◌, ℕ, ◌<◌, List, length, slice_index}
use Rattle.answer_text.specs.Txt.{column_width}

-- each is the width of its column, as the lines have it
abbrev pub AreWidths : List ℕ → List (List (List ℕ)) → Type 0
AreWidths widths lines = (place : ℕ) → place < length widths → slice_index widths place ≡ column_width lines place
