-- Cells of one kind, and the one value that a cell is read as.
use Rattle.std.specs.Prelude.{◌≡◌, ℤ, pos, Bool, true, false, List, [], ◌∷◌, All}
use Rattle.esql_types.specs.declared.value.Kind.{Kind}
use Rattle.esql_types.specs.declared.value.Kind.TheVariants.{Integer, Long as LongKind, Boolean as BooleanKind, Keyword as KeywordKind, Null}
use Rattle.esql_types.specs.declared.value.Value.{Value}
use Rattle.esql_types.specs.declared.value.Value.TheVariants.{Int, Long, Bool as Boolean, Text as Keyword}
use Rattle.esql_types.specs.Values.{kind_of_value}

-- each value of the cell has the kind
abbrev pub IsOfKind : Kind → List Value → Type 0
IsOfKind kind cell = All (λ value. kind_of_value value ≡ kind) cell

abbrev pub AreOfKind : Kind → List (List Value) → Type 0
AreOfKind kind cells = All (IsOfKind kind) cells

-- what stands for a cell without a value among values of a kind: 0, false, the empty text
abbrev pub blank : Kind → Value
blank Integer = Int (pos 0)
blank LongKind = Long (pos 0)
blank BooleanKind = Boolean false
blank KeywordKind = Keyword []
blank Null = Boolean false

-- the first value of the cell, or another where it has none
abbrev pub first_or : {X : Type 0} → X → List X → X
first_or other [] = other
first_or other (value ∷ values) = value

abbrev pub has_value : List Value → Bool
has_value [] = false
has_value (value ∷ values) = true

-- the cell as a number: 0 where it is null
abbrev pub int_of : List Value → ℤ
int_of (Int number ∷ values) = number
int_of cell = pos 0

abbrev pub long_of : List Value → ℤ
long_of (Long number ∷ values) = number
long_of cell = pos 0
