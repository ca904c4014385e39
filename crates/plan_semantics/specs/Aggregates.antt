-- The kinds of aggregates.
use Rattle.std.specs.Prelude.{Bool, true}
use Rattle.esql_types.specs.declared.value.Kind.{Kind}
use Rattle.esql_types.specs.declared.value.Kind.TheVariants as kind
use Rattle.esql_plan.specs.declared.function.AggFunction.{AggFunction}
use Rattle.esql_plan.specs.declared.function.AggFunction.TheVariants.{CountRows, Count, CountDistinct, Sum, Min, Max, Values}
use Rattle.esql_plan.specs.Signatures.{meets, a_number}

-- a sum takes numbers, and every other aggregate values of any kind; null fits all of them
abbrev pub aggregate_fits : AggFunction → Kind → Bool
aggregate_fits CountRows input = true
aggregate_fits Count input = true
aggregate_fits CountDistinct input = true
aggregate_fits Sum input = meets a_number input
aggregate_fits Min input = true
aggregate_fits Max input = true
aggregate_fits Values input = true

-- counts and sums are longs, and every other aggregate has the kind of its input
abbrev pub aggregate_kind : AggFunction → Kind → Kind
aggregate_kind CountRows input = kind.Long
aggregate_kind Count input = kind.Long
aggregate_kind CountDistinct input = kind.Long
aggregate_kind Sum input = kind.Long
aggregate_kind Min input = input
aggregate_kind Max input = input
aggregate_kind Values input = input
