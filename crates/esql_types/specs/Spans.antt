-- Parts of a text.
use Rattle.std.specs.Prelude.{ℕ, ◌<◌, ◌≤◌, List, length}
use Rattle.std.specs.List.{slice_range}
use Rattle.std.specs.Str.{IsCharBoundary}
use Rattle.esql_types.specs.declared.places.Span.{Span}

-- the bytes of the text from the start of the span to its end
abbrev pub text_at : List ℕ → Span → List ℕ
text_at text span = slice_range text span.from span.to

-- The span is a part of the text: it begins and ends where a character begins or the text ends, and its end is not before
-- its start. The text is short enough for places.
pub record SpanFits (text : List ℕ) (span : Span) : Type 0 where
  pub ordered : span.from ≤ span.to
  pub begins : IsCharBoundary text span.from
  pub ends : IsCharBoundary text span.to
  pub short : length text < 4294967295
