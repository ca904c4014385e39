-- The place of a broken rule.
use Rattle.std.specs.Prelude.{ℕ, List, Result, Ok, Err}
use Rattle.esql_types.specs.Spans.{SpanFits}
use Rattle.row_semantics.specs.Scopes.{Broken}

-- the place of a rule that is broken is a part of the text
abbrev pub BrokenFits : {A : Type 0} → List ℕ → Result A Broken → Type 0
BrokenFits text (Ok value) = Unit {0}
BrokenFits text (Err broken) = SpanFits text broken.span
