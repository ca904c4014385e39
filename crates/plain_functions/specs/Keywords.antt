-- Texts as values.
use Rattle.std.specs.Prelude.{ℕ, List, []}
use Rattle.esql_types.specs.declared.value.Value.{Value}
use Rattle.esql_types.specs.declared.value.Value.TheVariants.{Int, Long, Bool as Boolean, Text as Keyword}

-- a text as a value
abbrev pub keyword : List ℕ → Value
keyword text = Keyword text

-- the text of a keyword, and the empty one of another value
abbrev pub text_in : Value → List ℕ
text_in (Int _) = []
text_in (Long _) = []
text_in (Boolean _) = []
text_in (Keyword text) = text
