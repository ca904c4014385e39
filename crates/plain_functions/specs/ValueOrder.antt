-- The order of values is total, and it tells apart all values that are not equal.
use Rattle.std.specs.Prelude.{◌≡◌, ℕ, ℤ, pos, Bool, true, false, List, [], Some, cond}
use Rattle.std.specs.Bool.{Decides}
use Rattle.std.specs.Cmp.{IsEquivalence, IsPartialOrder, IsTotalOrder, back_total, decided, int_cmp_total, nat_cmp_total, on_total, po, signed_Decides, then_total, tied_itself}
use Rattle.std.specs.Cmp.Lexicographic.{nat_list_cmp_total, same_text, slice_cmp, texts_ties}
use Rattle.std.specs.Ordering.{int_cmp, is_eq, nat_cmp, on, ordering_then, then_cmp}
use Rattle.std.specs.declared.cmp.Ordering.{Ordering}
use Rattle.std.specs.declared.cmp.Ordering.TheVariants.{Less, Equal, Greater}
use Rattle.std.proofs.Common.{refl, sym, ap, ◌∙◌, subst, true≢false}
use Rattle.esql_types.specs.Values.{value_cmp, variant_place}
use Rattle.esql_types.specs.declared.value.Value.{Value}
use Rattle.esql_types.specs.declared.value.Value.TheVariants.{Int, Long, Bool as Boolean, Text as Keyword}
use Rattle.plain_functions.specs.Values.{directed_cmp, value_same}

-- the number of a value that has one
abbrev number_in : Value → ℤ
number_in (Int number) = number
number_in (Long number) = number
number_in (Boolean truth) = pos (cond truth 1 0)
number_in (Keyword text) = pos 0

-- the text of a value that has one
abbrev text_in : Value → List ℕ
text_in (Int number) = []
text_in (Long number) = []
text_in (Boolean truth) = []
text_in (Keyword text) = text

then_equal : (answer : Ordering) → ordering_then answer Equal ≡ answer
then_equal Less = refl
then_equal Equal = refl
then_equal Greater = refl

-- the order by the variant, then by the number, then by the text
abbrev in_turn : Value → Value → Ordering
in_turn = then_cmp (on variant_place nat_cmp) (then_cmp (on number_in int_cmp) (on text_in (slice_cmp nat_cmp)))

in_turn_same : (left right : Value) → in_turn left right ≡ value_cmp left right
in_turn_same (Int left) (Int right) = then_equal (int_cmp left right)
in_turn_same (Int left) (Long right) = refl
in_turn_same (Int left) (Boolean right) = refl
in_turn_same (Int left) (Keyword right) = refl
in_turn_same (Long left) (Int right) = refl
in_turn_same (Long left) (Long right) = then_equal (int_cmp left right)
in_turn_same (Long left) (Boolean right) = refl
in_turn_same (Long left) (Keyword right) = refl
in_turn_same (Boolean left) (Int right) = refl
in_turn_same (Boolean left) (Long right) = refl
in_turn_same (Boolean true) (Boolean true) = refl
in_turn_same (Boolean true) (Boolean false) = refl
in_turn_same (Boolean false) (Boolean true) = refl
in_turn_same (Boolean false) (Boolean false) = refl
in_turn_same (Boolean left) (Keyword right) = refl
in_turn_same (Keyword left) (Int right) = refl
in_turn_same (Keyword left) (Long right) = refl
in_turn_same (Keyword left) (Boolean right) = refl
in_turn_same (Keyword left) (Keyword right) = refl

pub value_total : IsTotalOrder value_cmp
value_total = subst IsTotalOrder (λ i left right. in_turn_same left right i)
    (then_total (on_total variant_place nat_cmp_total) (then_total (on_total number_in int_cmp_total) (on_total text_in nat_list_cmp_total)))

pub directed_total : (descending : Bool) → IsTotalOrder (directed_cmp descending)
directed_total true = back_total value_total
directed_total false = value_total

never : {Goal : Type 0} → false ≡ true → Goal
never e = absurd (true≢false (sym e))

pub equal_from_same : (left right : Value) → value_same left right ≡ true → left ≡ right
equal_from_same (Int left) (Int right) same = ap Int ((signed_Decides left right).0 same)
equal_from_same (Int left) (Long right) same = never same
equal_from_same (Int left) (Boolean right) same = never same
equal_from_same (Int left) (Keyword right) same = never same
equal_from_same (Long left) (Int right) same = never same
equal_from_same (Long left) (Long right) same = ap Long ((signed_Decides left right).0 same)
equal_from_same (Long left) (Boolean right) same = never same
equal_from_same (Long left) (Keyword right) same = never same
equal_from_same (Boolean left) (Int right) same = never same
equal_from_same (Boolean left) (Long right) same = never same
equal_from_same (Boolean true) (Boolean true) same = refl
equal_from_same (Boolean true) (Boolean false) same = never same
equal_from_same (Boolean false) (Boolean true) same = never same
equal_from_same (Boolean false) (Boolean false) same = refl
equal_from_same (Boolean left) (Keyword right) same = never same
equal_from_same (Keyword left) (Int right) same = never same
equal_from_same (Keyword left) (Long right) same = never same
equal_from_same (Keyword left) (Boolean right) same = never same
equal_from_same (Keyword left) (Keyword right) same = ap Keyword (same_text left right (sym (texts_ties left right ∙ same)))

pub directed_exact : (descending : Bool) (left right : Value) → directed_cmp descending left right ≡ Equal → left ≡ right
directed_exact true left right tie = sym (equal_from_same right left (ap is_eq tie))
directed_exact false left right tie = equal_from_same left right (ap is_eq tie)

same_itself : (value : Value) → value_same value value ≡ true
same_itself value = ap is_eq (tied_itself value_total value)

pub same_decides : (left right : Value) → Decides (value_same left right) (left ≡ right)
same_decides left right = (equal_from_same left right, λ equal. ap (value_same left) (sym equal) ∙ same_itself left)

pub same_equivalence : IsEquivalence value_same
same_equivalence = decided value_same same_decides

pub value_partial_order : IsPartialOrder value_same (λ left right. Some (value_cmp left right))
value_partial_order = po value_total (λ left right. refl)
