-- A step of the walk that keeps each value once.
use Rattle.std.proofs.Common.{◌≡◌, Bool, true, false, not, cond, ◌||◌, List, [], ◌∷◌, ◌++◌, refl, sym, ap, ◌∙◌}
use Rattle.std.specs.Prelude.{if◌then◌else◌}
use Rattle.std.specs.BTreeSet.{BTreeSet, contains, Updates}
use Rattle.std.specs.List.{list_any}
use Rattle.std.proofs.lemmas.List.Folds.{list_any-append}
use Rattle.esql_types.specs.Values.{value_cmp}
use Rattle.esql_types.specs.declared.value.Value.{Value}
use Rattle.function_rules.specs.Lists.{distinct_of}
use Rattle.function_rules.proofs.ListsDistinct.{distinct_push}
use Rattle.plain_functions.specs.ValueOrder.{same_equivalence}
use Rattle.plain_functions.specs.Values.{value_same}

either_last : (here earlier : Bool) → cond here true earlier ≡ (earlier || (here || false))
either_last true true = refl
either_last true false = refl
either_last false true = refl
either_last false false = refl

-- a set that knows some values knows one more
pub known_more : (old new : BTreeSet Value) (values : List Value) (value : Value)
    → ((sought : Value) → contains value_cmp old sought ≡ list_any (λ earlier. value_same sought earlier) values)
    → Updates value_cmp old new value true
    → (sought : Value) → contains value_cmp new sought ≡ list_any (λ earlier. value_same sought earlier) (values ++ value ∷ [])
known_more old new values value known updates sought =
    updates.0 sought
    ∙ ap (λ earlier. cond (value_same value sought) true earlier) (known sought)
    ∙ ap (λ here. cond here true (list_any (λ earlier. value_same sought earlier) values)) (same_equivalence.symm value sought)
    ∙ either_last (value_same sought value) (list_any (λ earlier. value_same sought earlier) values)
    ∙ sym (list_any-append (λ earlier. value_same sought earlier) values (value ∷ []))

both_sides : (values : List Value) (value : Value) → list_any (λ earlier. value_same earlier value) values ≡ list_any (λ earlier. value_same value earlier) values
both_sides values value = ap (λ (test : Value → Bool). list_any test values) (λ i earlier. same_equivalence.symm earlier value i)

distinct_more : (values : List Value) (value : Value) (known : Bool) → list_any (λ earlier. value_same value earlier) values ≡ known
    → distinct_of value_same (values ++ value ∷ []) ≡ (if known then distinct_of value_same values else distinct_of value_same values ++ value ∷ [])
distinct_more values value known is =
    distinct_push value_same values value
    ∙ ap (λ answer. if answer then distinct_of value_same values else distinct_of value_same values ++ value ∷ []) (both_sides values value ∙ is)

from_not : (answer known : Bool) → not answer ≡ known → answer ≡ not known
from_not true known is = ap not is
from_not false known is = ap not is

pub kept_new : (values kept : List Value) (value : Value) → kept ≡ distinct_of value_same values
    → not (list_any (λ earlier. value_same value earlier) values) ≡ true → kept ++ value ∷ [] ≡ distinct_of value_same (values ++ value ∷ [])
kept_new values kept value so_far is =
    ap (λ items. items ++ value ∷ []) so_far ∙ sym (distinct_more values value false (from_not (list_any (λ earlier. value_same value earlier) values) true is))

pub kept_known : (values kept : List Value) (value : Value) → kept ≡ distinct_of value_same values
    → not (list_any (λ earlier. value_same value earlier) values) ≡ false → kept ≡ distinct_of value_same (values ++ value ∷ [])
kept_known values kept value so_far is =
    so_far ∙ sym (distinct_more values value true (from_not (list_any (λ earlier. value_same value earlier) values) false is))
