-- When two values are the same, and the orders in which they are sorted.
use Rattle.std.specs.Prelude.{Bool, true, false}
use Rattle.std.specs.Ordering.{is_eq}
use Rattle.std.specs.declared.cmp.Ordering.{Ordering}
use Rattle.esql_types.specs.declared.value.Value.{Value}
use Rattle.esql_types.specs.Values.{value_cmp}

-- two values are the same where neither stands before the other
abbrev pub value_same : Value → Value → Bool
value_same left right = is_eq (value_cmp left right)

-- the order of values, or where it descends the reversed order
abbrev pub directed_cmp : Bool → Value → Value → Ordering
directed_cmp false left right = value_cmp left right
directed_cmp true left right = value_cmp right left
