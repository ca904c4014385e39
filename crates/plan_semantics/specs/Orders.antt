-- The order of rows by keys.
use Rattle.std.specs.Prelude.{Bool, List, [], ◌∷◌, if◌then◌else◌}
use Rattle.std.specs.declared.cmp.Ordering.{Ordering}
use Rattle.std.specs.declared.cmp.Ordering.TheVariants.{Less, Equal, Greater}
use Rattle.std.specs.Ordering.{ordering_then}
use Rattle.esql_types.specs.declared.value.Value.{Value}
use Rattle.esql_types.specs.Values.{value_cmp}
use Rattle.function_rules.specs.Lists.{least_of, greatest_of}
use Rattle.esql_plan.specs.declared.step.PlanKey.{PlanKey}
use Rattle.esql_plan.specs.Values.{NumberedRow}

-- the value that a cell is sorted by: the least of several, or the greatest where the order descends
abbrev pub sort_value : Bool → List Value → List Value
sort_value descending cell = if descending then greatest_of value_cmp cell else least_of value_cmp cell

-- the order of a null and a value
abbrev pub null_order : Bool → Ordering
null_order first = if first then Less else Greater

-- the order of a value and a null
abbrev pub other_order : Bool → Ordering
other_order first = if first then Greater else Less

-- nulls before or behind all values
abbrev pub order_of_values : Bool → Bool → List Value → List Value → Ordering
order_of_values descending nulls_first [] [] = Equal
order_of_values descending nulls_first [] (that ∷ those) = null_order nulls_first
order_of_values descending nulls_first (this ∷ these) [] = other_order nulls_first
order_of_values descending nulls_first (this ∷ these) (that ∷ those) = if descending then value_cmp that this else value_cmp this that

-- cells by the values that they are sorted by
abbrev pub order_of_cells : Bool → Bool → List Value → List Value → Ordering
order_of_cells descending nulls_first this that = order_of_values descending nulls_first (sort_value descending this) (sort_value descending that)

-- rows by the first of the keys at which they differ
abbrev pub order_of_rows : List PlanKey → NumberedRow → NumberedRow → Ordering
order_of_rows [] this that = Equal
order_of_rows (key ∷ keys) this that = ordering_then (order_of_cells key.descending key.nulls_first (this key.id.0) (that key.id.0)) (order_of_rows keys this that)
