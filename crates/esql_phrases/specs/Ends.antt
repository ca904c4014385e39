-- Where lexemes stand, and the ends of a list of them.
use Rattle.std.specs.Prelude.{ℕ, List, [], ◌∷◌}
use Rattle.esql_types.specs.declared.places.Span.{Span}
use Rattle.esql_phrases.specs.declared.lexeme.Lexeme.{Lexeme}
use Rattle.esql_phrases.specs.declared.lexeme.Lexeme.TheVariants.{Plain, Dotted, Quoted, Pattern, Source, Text, Number, Word, Sign as Mark, End}

abbrev pub span_at : Lexeme → Span
span_at (Plain name) = name.span
span_at (Dotted name) = name.span
span_at (Quoted name) = name.span
span_at (Pattern pattern) = pattern.span
span_at (Source name) = name.span
span_at (Text text) = text.span
span_at (Number number at) = at
span_at (Word word at) = at
span_at (Mark sign at) = at
span_at (End at) = at

-- where the first lexeme begins
abbrev pub first_from : List Lexeme → ℕ
first_from [] = 0
first_from (x ∷ w) = (span_at x).from

-- where the last lexeme ends
abbrev pub last_to : List Lexeme → ℕ
last_to [] = 0
last_to (x ∷ []) = (span_at x).to
last_to (x ∷ y ∷ w) = last_to (y ∷ w)
