-- When keys are the same, and what of them is hashed.
use Rattle.std.specs.Prelude.{◌≡◌, Bool, ◌&&◌, List, [], ◌∷◌, refl}
use Rattle.std.specs.Bool.{Decides}
use Rattle.std.specs.Cmp.{IsEquivalence, decided}
use Rattle.std.specs.Cmp.Lexicographic.{pointwise, pointwise_decides}
use Rattle.std.specs.Hash as fed
use Rattle.std.specs.Hash.{HashWrites}
use Rattle.std.specs.List.{flat_map}
use Rattle.std.proofs.Common.{ap, subst}
use Rattle.esql_types.specs.declared.value.Value.{Value}
use Rattle.esql_types.specs.declared.value.Value.TheVariants.{Int, Long, Bool as Boolean, Text as Keyword}
use Rattle.plan_semantics.specs.Groups.{Key, same_key, same_list, same_value}
use Rattle.plain_functions.specs.ValueOrder.{same_decides}

abbrev pub value_hashed : Value → HashWrites
value_hashed (Int number) = fed.i32 number
value_hashed (Long number) = fed.i64 number
value_hashed (Boolean truth) = fed.bool truth
value_hashed (Keyword text) = fed.str text

-- of a key's cell, which has one value or none
abbrev pub cell_hashed : List Value → HashWrites
cell_hashed [] = fed.u8 0
cell_hashed (value ∷ values) = value_hashed value

abbrev pub key_hashed : Key → HashWrites
key_hashed key = flat_map cell_hashed key

pub list_same : {Item : Type 0} (same : Item → Item → Bool) (this that : List Item) → pointwise same this that ≡ same_list same this that
list_same same [] [] = refl
list_same same [] (that ∷ those) = refl
list_same same (this ∷ these) [] = refl
list_same same (this ∷ these) (that ∷ those) = ap (λ more. same this that && more) (list_same same these those)

pub list_decides : {Item : Type 0} (same : Item → Item → Bool) → ((this that : Item) → Decides (same this that) (this ≡ that))
    → (this that : List Item) → Decides (same_list same this that) (this ≡ that)
list_decides same decides this that = subst (λ answer. Decides answer (this ≡ that)) (list_same same this that) (pointwise_decides decides this that)

pub key_decides : (this that : Key) → Decides (same_key this that) (this ≡ that)
key_decides = list_decides (same_list same_value) (list_decides same_value same_decides)

pub key_equivalence : IsEquivalence same_key
key_equivalence = decided same_key key_decides
