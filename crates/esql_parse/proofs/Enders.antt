-- No expression continues with `|` or with the end.
use Rattle.std.proofs.Common.{◌≡◌, ℕ, List, [], ◌∷◌}
use Rattle.esql_phrases.specs.declared.lexeme.Lexeme.{Lexeme}
use Rattle.esql_phrases.specs.declared.part.Part.{Part}
use Rattle.esql_expr.specs.declared.machine.Frame.{Frame}
use Rattle.esql_expr.specs.declared.machine.Frame.TheVariants.{Binary, Group, Minus, Not, Call, Within}
use Rattle.esql_expr.specs.declared.machine.Top.{Top}
use Rattle.esql_expr.specs.declared.machine.Top.TheVariants.{Have, Named}
use Rattle.esql_expr.specs.declared.machine.Reader.{Reader}
use Rattle.esql_expr.specs.declared.machine.Stepped.TheVariants.{Goes}
use Rattle.esql_phrases.specs.Parts.{column_part, minus_part, not_part, binary_part}
use Rattle.esql_expr.specs.Machine.{feed, step_at, step}
use Rattle.esql_commands.proofs.Stops.{Ender, bar_ends, end_ends}

feed_stops : {x : Lexeme} → Ender x → (least : ℕ) (frames : List Frame) (part : Part) (next : Reader) → feed least frames part x ≡ Goes next → ⊥
unfolding feed
feed_stops (bar_ends at) least [] part next e = cc
feed_stops (bar_ends at) least (Group opening ∷ above) part next e = cc
feed_stops (bar_ends at) least (Binary op left ∷ above) part next e = feed_stops (bar_ends at) least above (binary_part op left part) next e
feed_stops (bar_ends at) least (Minus minus ∷ above) part next e = feed_stops (bar_ends at) least above (minus_part minus part) next e
feed_stops (bar_ends at) least (Not not ∷ above) part next e = feed_stops (bar_ends at) least above (not_part not part) next e
feed_stops (bar_ends at) least (Call function args depth ∷ above) part next e = cc
feed_stops (bar_ends at) least (Within negated left items depth ∷ above) part next e = cc
feed_stops (end_ends at) least [] part next e = cc
feed_stops (end_ends at) least (Group opening ∷ above) part next e = cc
feed_stops (end_ends at) least (Binary op left ∷ above) part next e = feed_stops (end_ends at) least above (binary_part op left part) next e
feed_stops (end_ends at) least (Minus minus ∷ above) part next e = feed_stops (end_ends at) least above (minus_part minus part) next e
feed_stops (end_ends at) least (Not not ∷ above) part next e = feed_stops (end_ends at) least above (not_part not part) next e
feed_stops (end_ends at) least (Call function args depth ∷ above) part next e = cc
feed_stops (end_ends at) least (Within negated left items depth ∷ above) part next e = cc

step_stops : {x : Lexeme} → Ender x → (least : ℕ) (frames : List Frame) (top : Top) (next : Reader) → step_at least frames top x ≡ Goes next → ⊥
step_stops (bar_ends at) least frames (Have part) next e = feed_stops (bar_ends at) least frames part next e
step_stops (bar_ends at) least frames (Named name) next e = feed_stops (bar_ends at) least frames (column_part name) next e
step_stops (bar_ends at) least frames _ next e = cc
step_stops (end_ends at) least frames (Have part) next e = feed_stops (end_ends at) least frames part next e
step_stops (end_ends at) least frames (Named name) next e = feed_stops (end_ends at) least frames (column_part name) next e
step_stops (end_ends at) least frames _ next e = cc

pub no_expression : {x : Lexeme} (reader next : Reader) → Ender x → step reader x ≡ Goes next → ⊥
no_expression reader next ender e = step_stops ender reader.least reader.frames reader.top next e
