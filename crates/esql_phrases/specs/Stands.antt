-- Lexemes that stand in a text.
use Rattle.std.specs.Prelude.{ℕ, ◌≤◌, List, All, AllPairs}
use Rattle.esql_types.specs.Spans.{SpanFits}
use Rattle.esql_phrases.specs.declared.lexeme.Lexeme.{Lexeme}
use Rattle.esql_phrases.specs.Ends.{span_at}

-- the spans of the lexemes are parts of the text, one after another
pub record Stands (text : List ℕ) (w : List Lexeme) : Type 0 where
  pub parts : All (λ (x : Lexeme). SpanFits text (span_at x)) w
  pub ordered : AllPairs (λ (x y : Lexeme). (span_at x).to ≤ (span_at y).from) w
