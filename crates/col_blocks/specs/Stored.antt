-- The values of a column, kept together by their kind.
use Rattle.std.specs.Prelude.{ℤ, List, [], map, Option, Some, None}
use Rattle.esql_types.specs.declared.value.Kind.{Kind}
use Rattle.esql_types.specs.declared.value.Kind.TheVariants.{Integer, Long as LongKind, Boolean as BooleanKind, Keyword as KeywordKind, Null}
use Rattle.esql_types.specs.declared.value.Value.{Value}
use Rattle.esql_types.specs.declared.value.Value.TheVariants.{Int, Long, Bool as Boolean, Text as Keyword}
use Rattle.esql_types.specs.declared.value.ValueRef.{ValueRef}
use Rattle.esql_types.specs.declared.value.ValueRef.TheVariants.{Int as IntRef, Long as LongRef, Bool as BooleanRef, Text as KeywordRef}
use Rattle.col_blocks.specs.declared.values.Values.{Values}
use Rattle.col_blocks.specs.declared.values.Values.TheVariants.{Integers, Longs, Booleans, Keywords, Nulls}

-- the value that is read
abbrev pub value_read : ValueRef → Value
value_read (IntRef number) = Int number
value_read (LongRef number) = Long number
value_read (BooleanRef truth) = Boolean truth
value_read (KeywordRef text) = Keyword text.now

-- the values in their order
abbrev pub values_of : Values → List Value
values_of (Integers numbers) = map Int numbers.items
values_of (Longs numbers) = map Long numbers.items
values_of (Booleans truths) = map Boolean truths.items
values_of (Keywords texts) = map Keyword texts
values_of Nulls = []

-- the kind of each of them
abbrev pub kind_of : Values → Kind
kind_of (Integers numbers) = Integer
kind_of (Longs numbers) = LongKind
kind_of (Booleans truths) = BooleanKind
kind_of (Keywords texts) = KeywordKind
kind_of Nulls = Null

-- the numbers where they are integers, and where they are longs
abbrev pub ints_of : Values → Option (List ℤ)
ints_of (Integers numbers) = Some numbers.items
ints_of values = None

abbrev pub longs_of : Values → Option (List ℤ)
longs_of (Longs numbers) = Some numbers.items
longs_of values = None
