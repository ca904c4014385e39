-- The order of rows by keys is total.
use Rattle.std.proofs.Common.{◌≡◌, ℕ, ◌+◌, Bool, true, false, List, [], ◌∷◌, refl, subst, Option, Some, None, slice_index_or}
use Rattle.std.specs.Prelude.{if◌then◌else◌}
use Rattle.std.specs.Ordering.{nat_cmp, then_cmp, on}
use Rattle.std.specs.Option.{option_cmp}
use Rattle.std.specs.Cmp.{IsTotalOrder, then_total, on_total, back_total, nat_cmp_total}
use Rattle.std.specs.Cmp.Lexicographic.{options_total}
use Rattle.std.specs.declared.cmp.Ordering.{Ordering}
use Rattle.esql_types.specs.declared.value.Value.{Value}
use Rattle.esql_types.specs.Values.{value_cmp}
use Rattle.plain_functions.specs.ValueOrder.{value_total}
use Rattle.esql_plan.specs.declared.step.PlanKey.{PlanKey}
use Rattle.plan_semantics.specs.Orders.{sort_value, order_of_values}
use Rattle.page_ops.specs.Orders.{order_from, order_of_places}

abbrev first_in : List Value → Option Value
first_in [] = None
first_in (value ∷ values) = Some value

-- nulls before or behind all values
abbrev side : Bool → List Value → ℕ
side nulls_first [] = if nulls_first then 0 else 2
side nulls_first (value ∷ values) = 1

abbrev way : Bool → List Value → List Value → Ordering
way descending this that = if descending then option_cmp value_cmp (first_in that) (first_in this) else option_cmp value_cmp (first_in this) (first_in that)

way_total : (descending : Bool) → IsTotalOrder (way descending)
way_total true = back_total (on_total first_in (options_total value_total))
way_total false = on_total first_in (options_total value_total)

abbrev by_sides : Bool → Bool → List Value → List Value → Ordering
by_sides descending nulls_first = then_cmp (on (side nulls_first) nat_cmp) (way descending)

same_order : (descending nulls_first : Bool) (this that : List Value) → by_sides descending nulls_first this that ≡ order_of_values descending nulls_first this that
same_order true true [] [] = refl
same_order true false [] [] = refl
same_order false true [] [] = refl
same_order false false [] [] = refl
same_order d true [] (that ∷ those) = refl
same_order d false [] (that ∷ those) = refl
same_order d true (this ∷ these) [] = refl
same_order d false (this ∷ these) [] = refl
same_order true n (this ∷ these) (that ∷ those) = refl
same_order false n (this ∷ these) (that ∷ those) = refl

pub values_total : (key : PlanKey) → IsTotalOrder (order_of_values key.descending key.nulls_first)
values_total key = subst IsTotalOrder (λ i this that. same_order key.descending key.nulls_first this that i)
    (then_total (on_total (side key.nulls_first) nat_cmp_total) (way_total key.descending))

keys_total : (place : ℕ) (keys : List PlanKey) → IsTotalOrder (order_from place keys)
keys_total place [] = on_total (λ (row : List (List Value)). 0) nat_cmp_total
keys_total place (key ∷ keys) =
    then_total (on_total (λ (row : List (List Value)). sort_value key.descending (slice_index_or row place [])) (values_total key)) (keys_total (place + 1) keys)

pub places_total : (keys : List PlanKey) (rows : List (List (List Value))) → IsTotalOrder (order_of_places keys rows)
places_total keys rows = on_total (λ (place : ℕ). slice_index_or rows place []) (keys_total 0 keys)
