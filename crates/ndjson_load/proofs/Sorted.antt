-- Lists with the same elements, each in order by a key.
use Rattle.std.proofs.Common.{◌≡◌, ℕ, suc, ◌+◌, ◌≤◌, ◌<◌, Bool, true, false, List, [], ◌∷◌, length, get_or, map, cond, All, refl, sym, ap, subst, ◌∙◌, arith}
use Rattle.std.specs.List.{sum_by}
use Rattle.std.specs.List.Sorted.{IsPermutation, IsSortedByKey}
use Rattle.std.specs.Ordering.{is_lt, ordering_reverse}
use Rattle.std.specs.Cmp.{IsTotalOrder}
use Rattle.std.specs.declared.cmp.Ordering.{Ordering}
use Rattle.std.specs.declared.cmp.Ordering.TheVariants.{Less, Equal, Greater}
use Rattle.std.proofs.lemmas.List.{ext_get_or, get_or_default, get_or-map}
use Rattle.std.proofs.lemmas.List.Elements.{Contains-get_or}
use Rattle.std.proofs.lemmas.List.MinMax.{ranks_by}
use Rattle.std.proofs.lemmas.List.Sorted.{Contains-permutation, IsPermutation-sym, IsPermutation-trans, sum_by-IsPermutation, sorted_far, length_permutation}
use Rattle.std.proofs.lemmas.List.Sums.{sum_by-cons, sum_by-le}
use Rattle.std.proofs.lemmas.Map.Lookups.{CmpEqualImpliesEq}

-- 1 for a key that is less, 0 for another
abbrev less_one : {K : Type 0} → (K → K → Ordering) → K → K → ℕ
less_one R key other = cond (is_lt (R other key)) 1 0

none_less : (o : Ordering) → is_lt o ≡ false → ◌≡◌ {A = ℕ} (cond (is_lt o) 1 0) 0
none_less o not = ap (λ (b : Bool). cond b 1 0) not

not_one : (b : Bool) → ◌≡◌ {A = ℕ} (cond b 1 0) 0 → b ≡ false
not_one true zero = absurd (omega arith)
not_one false zero = refl

neither_less : (o p : Ordering) → o ≡ ordering_reverse p → is_lt o ≡ false → is_lt p ≡ false → o ≡ Equal
neither_less o Less reversed not also = absurd cc
neither_less o Equal reversed not also = reversed
neither_less o Greater reversed not also = absurd cc

-- whatever is summed of the keys, the sums are the same
abbrev AreAlike : {X K : Type 0} → (X → K) → List X → List X → Type 0
AreAlike {X} {K} key xs ys = (f : K → ℕ) → sum_by (λ (x : X). f (key x)) xs ≡ sum_by (λ (x : X). f (key x)) ys

-- no key of a sorted list is less than the first
first_least : {X K : Type 0} {R : K → K → Ordering} (o : IsTotalOrder R) (key : X → K) (x : X) (xs : List X) → IsSortedByKey key R (x ∷ xs) → sum_by (λ (z : X). less_one R (key x) (key z)) (x ∷ xs) ≡ 0
first_least {X} {K} {R} o key x xs sorted =
    let none : All (λ (z : X). less_one R (key x) (key z) ≤ 0) (x ∷ xs) = λ j d within.
    let far = sorted_far (λ (y z : X). is_lt (R (key y) (key z))) (ranks_by o key) (x ∷ xs) sorted 0 j d (omega arith) within in
    let zero = none_less (R (key (get_or (x ∷ xs) j d)) (key x)) far in
    omega arith in
    let few = sum_by-le (λ (z : X). less_one R (key x) (key z)) 0 (x ∷ xs) none in
    omega arith

-- so the first key of a list of the same keys is not less
first_not_less : {X K : Type 0} {R : K → K → Ordering} (o : IsTotalOrder R) (key : X → K) (x y : X) (xs ys : List X) → IsSortedByKey key R (x ∷ xs) → AreAlike key (x ∷ xs) (y ∷ ys) → is_lt (R (key y) (key x)) ≡ false
first_not_less {X} {K} {R} o key x y xs ys sorted alike =
    let none = first_least o key x xs sorted in
    let same = alike (less_one R (key x)) in
    let parts = sum_by-cons (λ (z : X). less_one R (key x) (key z)) y ys in
    not_one (is_lt (R (key y) (key x))) (omega arith)

sorted_rest : {X K : Type 0} (R : K → K → Ordering) (key : X → K) (x : X) (xs : List X) → IsSortedByKey key R (x ∷ xs) → IsSortedByKey key R xs
sorted_rest {X} {K} R key x xs sorted = λ k d from within.
    let shift : suc k + 1 ≡ suc (k + 1) = omega arith in
    subst (λ (n : ℕ). is_lt (R (key (get_or (x ∷ xs) n d)) (key (get_or xs k d))) ≡ false) shift (sorted (suc k) d (omega arith) (omega arith))

same_keys : {X K : Type 0} {R : K → K → Ordering} (o : IsTotalOrder R) (exact : CmpEqualImpliesEq R) (key : X → K) (xs ys : List X) → IsSortedByKey key R xs → IsSortedByKey key R ys → AreAlike key xs ys
    → map key xs ≡ map key ys
same_keys o exact key [] [] sorted also alike = refl
same_keys {X} {K} o exact key [] (y ∷ ys) sorted also alike =
    let same = alike (λ (k : K). 1) in
    let parts = sum_by-cons (λ (z : X). 1) y ys in
    absurd (omega arith)
same_keys {X} {K} o exact key (x ∷ xs) [] sorted also alike =
    let same = alike (λ (k : K). 1) in
    let parts = sum_by-cons (λ (z : X). 1) x xs in
    absurd (omega arith)
same_keys {X} {K} {R} o exact key (x ∷ xs) (y ∷ ys) sorted also alike =
    let first : key x ≡ key y = exact (key x) (key y) (neither_less (R (key x) (key y)) (R (key y) (key x)) (o.antisymm (key x) (key y))
    (first_not_less o key y x ys xs also (λ f. sym (alike f))) (first_not_less o key x y xs ys sorted alike)) in
    let rest : AreAlike key xs ys = λ (f : K → ℕ).
    let same = alike f in
    let one = sum_by-cons (λ (z : X). f (key z)) x xs in
    let other = sum_by-cons (λ (z : X). f (key z)) y ys in
    let value : f (key x) ≡ f (key y) = ap f first in
    omega arith in
    let later = same_keys o exact key xs ys (sorted_rest R key x xs sorted) (sorted_rest R key y ys also) rest in
    cc

-- Two orders of one list that are sorted by a key have the same keys in the same places.
pub one_list_of_keys : {X K : Type 0} {R : K → K → Ordering} (o : IsTotalOrder R) (exact : CmpEqualImpliesEq R) (key : X → K) (xs ys zs : List X) → IsPermutation xs ys → IsPermutation xs zs
    → IsSortedByKey key R ys → IsSortedByKey key R zs → map key ys ≡ map key zs
one_list_of_keys {X} {K} o exact key xs ys zs moved also sorted too =
    same_keys o exact key ys zs sorted too (λ (f : K → ℕ). sum_by-IsPermutation (λ (x : X). f (key x)) xs ys moved ∙ sym (sum_by-IsPermutation (λ (x : X). f (key x)) xs zs also))

-- Where neighbours of a sorted list have different keys, no two places have one key.
pub places_differ : {X K : Type 0} {R : K → K → Ordering} (o : IsTotalOrder R) (exact : CmpEqualImpliesEq R) (key : X → K) (xs : List X) → IsSortedByKey key R xs
    → ((i : ℕ) (d : X) → i + 1 < length xs → key (get_or xs i d) ≡ key (get_or xs (i + 1) d) → ⊥) → (i j : ℕ) (d : X) → i < j → j < length xs → key (get_or xs i d) ≡ key (get_or xs j d) → ⊥
places_differ {X} {K} {R} o exact key xs sorted differ i j d before within same =
    let next : is_lt (R (key (get_or xs (i + 1) d)) (key (get_or xs i d))) ≡ false = sorted i d (omega arith) (omega arith) in
    let far = sorted_far (λ (y z : X). is_lt (R (key y) (key z))) (ranks_by o key) xs sorted (i + 1) j d (omega arith) within in
    let back : is_lt (R (key (get_or xs i d)) (key (get_or xs (i + 1) d))) ≡ false = subst (λ (k : K). is_lt (R k (key (get_or xs (i + 1) d))) ≡ false) (sym same) far in
    differ i d (omega arith) (exact (key (get_or xs i d)) (key (get_or xs (i + 1) d))
    (neither_less (R (key (get_or xs i d)) (key (get_or xs (i + 1) d))) (R (key (get_or xs (i + 1) d)) (key (get_or xs i d))) (o.antisymm (key (get_or xs i d)) (key (get_or xs (i + 1) d))) back next))

-- Two orders of one list with the same keys in the same places are one, where no two places have one key.
pub one_order : {X K : Type 0} (key : X → K) (xs ys zs : List X) → IsPermutation xs ys → IsPermutation xs zs → map key ys ≡ map key zs
    → ((i j : ℕ) (d : X) → i < j → j < length ys → key (get_or ys i d) ≡ key (get_or ys j d) → ⊥) → ys ≡ zs
one_order key xs [] [] moved also same differ = refl
one_order key xs [] (z ∷ zs) moved also same differ = absurd cc
one_order {X} {K} key xs (y ∷ ys) zs moved also same differ =
    let wide : length zs ≡ length (y ∷ ys) = length_permutation (y ∷ ys) zs (IsPermutation-trans (y ∷ ys) xs zs (IsPermutation-sym xs (y ∷ ys) moved) also) in
    ext_get_or y (y ∷ ys) zs (sym wide) (λ k within.
    let here : X = get_or (y ∷ ys) k y in
    let (j, inside, at) = Contains-permutation xs zs here also (Contains-permutation (y ∷ ys) xs here (IsPermutation-sym xs (y ∷ ys) moved) (Contains-get_or (y ∷ ys) k y within)) in
    let found : get_or zs j y ≡ here = get_or_default zs j y here inside ∙ at in
    let there : key (get_or (y ∷ ys) j y) ≡ key (get_or zs j y) =
    sym (get_or-map key (y ∷ ys) j y (key y) (omega arith)) ∙ ap (λ (ks : List K). get_or ks j (key y)) same ∙ get_or-map key zs j y (key y) inside in
    let keys : key (get_or (y ∷ ys) j y) ≡ key here = there ∙ ap key found in
    let later : j < k → ⊥ = λ before. differ j k y before within keys in
    let sooner : k < j → ⊥ = λ before. differ k j y before (omega arith) (sym keys) in
    let place : j ≡ k = omega arith in
    sym (subst (λ (n : ℕ). get_or zs n y ≡ here) place found))
