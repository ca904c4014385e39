-- The kinds of values, and their order.
use Rattle.std.specs.Prelude.{ℕ}
use Rattle.std.specs.declared.cmp.Ordering.{Ordering}
use Rattle.std.specs.Ordering.{nat_cmp, int_cmp, bool_cmp}
use Rattle.std.specs.Cmp.Lexicographic.{slice_cmp}
use Rattle.esql_types.specs.declared.value.Kind.{Kind}
use Rattle.esql_types.specs.declared.value.Kind.TheVariants.{Integer, Long as LongKind, Boolean as BooleanKind, Keyword as KeywordKind}
use Rattle.esql_types.specs.declared.value.Value.{Value}
use Rattle.esql_types.specs.declared.value.Value.TheVariants.{Int, Long, Bool as Boolean, Text as Keyword}

-- the kind of a value
abbrev pub kind_of_value : Value → Kind
kind_of_value (Int _) = Integer
kind_of_value (Long _) = LongKind
kind_of_value (Boolean _) = BooleanKind
kind_of_value (Keyword _) = KeywordKind

-- the place of the value's variant
abbrev pub variant_place : Value → ℕ
variant_place (Int _) = 0
variant_place (Long _) = 1
variant_place (Boolean _) = 2
variant_place (Keyword _) = 3

-- numbers by size, false before true, keywords by their bytes; values of different variants by their variants
abbrev pub value_cmp : Value → Value → Ordering
value_cmp (Int left) (Int right) = int_cmp left right
value_cmp (Long left) (Long right) = int_cmp left right
value_cmp (Boolean left) (Boolean right) = bool_cmp left right
value_cmp (Keyword left) (Keyword right) = slice_cmp nat_cmp left right
value_cmp left right = nat_cmp (variant_place left) (variant_place right)
