-- What stands around an expression only adds to its depth.
use Rattle.std.proofs.Common.{◌≡◌, ℕ, ◌+◌, ◌≤◌, max, List, [], ◌∷◌, ◌++◌, reverse, ap, arith}
use Rattle.std.proofs.lemmas.List.{reverse-append}
use Rattle.esql_expr.specs.declared.machine.Frame.{Frame}
use Rattle.esql_expr.specs.declared.machine.Frame.TheVariants.{Binary, Group, Minus, Not, Call, Within}
use Rattle.esql_expr.specs.Machine.{up}

pub up_rises : (frames : List Frame) (m : ℕ) → m ≤ up frames m
up_rises [] m = omega arith
up_rises (Binary op left ∷ above) m = let more = up_rises above (1 + max left.depth m) in omega arith
up_rises (Group opening ∷ above) m = let more = up_rises above (1 + m) in omega arith
up_rises (Minus minus ∷ above) m = let more = up_rises above (1 + m) in omega arith
up_rises (Not not ∷ above) m = let more = up_rises above (1 + m) in omega arith
up_rises (Call function args depth ∷ above) m = let more = up_rises above (1 + max depth m) in omega arith
up_rises (Within negated left items depth ∷ above) m = let more = up_rises above (1 + max left.depth (max depth m)) in omega arith

pub up_innermost : (above : List Frame) (frame : Frame) (m : ℕ) → up (reverse (above ++ frame ∷ [])) m ≡ up (frame ∷ reverse above) m
up_innermost above frame m = ap (λ (frames : List Frame). up frames m) (reverse-append above (frame ∷ []))
