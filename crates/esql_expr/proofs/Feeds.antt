-- A lexeme goes on with an expression, or else it closes what the expression stands in.
use Rattle.std.proofs.Common.{◌≡◌, ℕ, List, [], ◌∷◌, refl}
use Rattle.esql_phrases.specs.declared.lexeme.Lexeme.{Lexeme}
use Rattle.esql_phrases.specs.declared.part.Part.{Part}
use Rattle.esql_expr.specs.declared.machine.Frame.{Frame}
use Rattle.esql_expr.specs.declared.machine.Frame.TheVariants.{Binary, Group, Minus, Not, Call, Within}
use Rattle.esql_expr.specs.Machine.{opened, or_closed, feed, close}

pub feed_closes_or_opens : (least : ℕ) (frames : List Frame) (part : Part) (next : Lexeme) → feed least frames part next ≡ or_closed (opened least frames part next) (close least frames part next)
unfolding feed close
feed_closes_or_opens least [] part next = refl
feed_closes_or_opens least (Binary op left ∷ above) part next = refl
feed_closes_or_opens least (Group opening ∷ above) part next = refl
feed_closes_or_opens least (Minus minus ∷ above) part next = refl
feed_closes_or_opens least (Not not ∷ above) part next = refl
feed_closes_or_opens least (Call function args depth ∷ above) part next = refl
feed_closes_or_opens least (Within negated left items depth ∷ above) part next = refl
