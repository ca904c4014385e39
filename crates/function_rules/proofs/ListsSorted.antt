-- A list put in order has its values and stands in order, and no other list does both.
use Rattle.std.proofs.Common.{◌≡◌, ℕ, zero, suc, ◌+◌, ◌<◌, Bool, true, false, not, cond, List, [], ◌∷◌, count_by, refl, sym, ap, ◌∙◌, arith, true≢false, get_or}
use Rattle.std.specs.Prelude.{if◌then◌else◌}
use Rattle.std.specs.Ordering.{is_lt, is_gt, ordering_reverse}
use Rattle.std.specs.Cmp.{IsTotalOrder, IsStrictWeakOrder}
use Rattle.std.specs.List.{All}
use Rattle.std.specs.List.Sorted.{IsPermutation, IsSorted}
use Rattle.std.specs.declared.cmp.Ordering.{Ordering}
use Rattle.std.specs.declared.cmp.Ordering.TheVariants.{Less, Equal, Greater}
use Rattle.std.proofs.lemmas.List.Elements.{All-nil, All-cons, All-head, All-tail}
use Rattle.std.proofs.lemmas.List.Sums.{sum_by-cons}
use Rattle.std.proofs.lemmas.List.Sorted.{IsPermutation-refl, IsPermutation-trans, IsPermutation-cons, IsPermutation-middle, All-permutation, sum_by-IsPermutation, ranks_by, sorted_far}
use Rattle.function_rules.specs.Lists.{put_in_order, sorted_by}

-- tests of two lists are passed by as many values of the one as of the other
abbrev pub SameCounts : {Item : Type 0} → List Item → List Item → Type 0
SameCounts {Item} left right = (test : Item → Bool) → count_by test left ≡ count_by test right

gt_not_lt : (answer : Ordering) → is_gt answer ≡ true → is_lt answer ≡ false
gt_not_lt Less e = absurd (true≢false (sym e))
gt_not_lt Equal e = absurd (true≢false (sym e))
gt_not_lt Greater e = refl

lt_reversed : (answer : Ordering) → is_lt (ordering_reverse answer) ≡ is_gt answer
lt_reversed Less = refl
lt_reversed Equal = refl
lt_reversed Greater = refl

neither : (answer : Ordering) → is_lt answer ≡ false → is_lt (ordering_reverse answer) ≡ false → answer ≡ Equal
neither Less e f = absurd (true≢false e)
neither Equal e f = refl
neither Greater e f = absurd (true≢false f)

true_or_false : {Goal : Type 0} (answer : Bool) → (answer ≡ true → Goal) → (answer ≡ false → Goal) → Goal
true_or_false true if_true if_false = if_true refl
true_or_false false if_true if_false = if_false refl

count_more : {Item : Type 0} (test : Item → Bool) (item : Item) (items : List Item) → count_by test (item ∷ items) ≡ cond (test item) 1 0 + count_by test items
count_more test item items = sum_by-cons (λ x. cond (test x) 1 0) item items

count_none : {Item : Type 0} (test : Item → Bool) (items : List Item) → All (λ item. test item ≡ false) items → count_by test items ≡ 0
count_none test [] all = refl
count_none {Item} test (item ∷ items) all =
    let P : Item → Type 0 = λ x. test x ≡ false in
    let fails : test item ≡ false = All-head P item items all in
    let here : cond {A = ℕ} (test item) 1 0 ≡ 0 = ap (λ answer. cond {A = ℕ} answer 1 0) fails in
    let later : count_by test items ≡ 0 = count_none test items (All-tail P item items all) in
    omega (arith, count_more test item items)

count_one : {Item : Type 0} (test : Item → Bool) (item : Item) (items : List Item) → test item ≡ true → 0 < count_by test (item ∷ items)
count_one test item items passes =
    let one : cond {A = ℕ} (test item) 1 0 ≡ 1 = ap (λ answer. cond {A = ℕ} answer 1 0) passes in
    omega (arith, count_more test item items)

module _ {Item : Type 0} (order : Item → Item → Ordering) where
  placed : (later : Bool) (item first : Item) (rest : List Item) → IsPermutation (item ∷ rest) (put_in_order order item rest)
      → IsPermutation (item ∷ first ∷ rest) (if later then first ∷ put_in_order order item rest else item ∷ first ∷ rest)
  placed true item first rest inner =
      IsPermutation-trans (item ∷ first ∷ rest) (first ∷ item ∷ rest) (first ∷ put_in_order order item rest)
      (IsPermutation-middle (item ∷ []) first rest) (IsPermutation-cons first (item ∷ rest) (put_in_order order item rest) inner)
  placed false item first rest inner = IsPermutation-refl (item ∷ first ∷ rest)

  put_permutes : (item : Item) (items : List Item) → IsPermutation (item ∷ items) (put_in_order order item items)
  put_permutes item [] = IsPermutation-refl (item ∷ [])
  put_permutes item (first ∷ rest) = placed (is_gt (order item first)) item first rest (put_permutes item rest)

  pub sorted_by_permutes : (items : List Item) → IsPermutation items (sorted_by order items)
  sorted_by_permutes [] = IsPermutation-refl []
  sorted_by_permutes (item ∷ items) =
      IsPermutation-trans (item ∷ items) (item ∷ sorted_by order items) (put_in_order order item (sorted_by order items))
      (IsPermutation-cons item items (sorted_by order items) (sorted_by_permutes items)) (put_permutes item (sorted_by order items))

  sorted_none : IsSorted order []
  sorted_none k d low below = absurd (omega arith)

  -- a value before a list in order, none of which stands before it
  sorted_more : (item : Item) (items : List Item) → All (λ other. is_lt (order other item) ≡ false) items → IsSorted order items → IsSorted order (item ∷ items)
  sorted_more item items all up zero d low below = all 0 d (omega arith)
  sorted_more item items all up (suc k) d low below =
      let more : suc k + 1 ≡ suc (k + 1) = omega arith in
      rw more (up k d (omega arith) (omega arith))

  sorted_rest : (item : Item) (items : List Item) → IsSorted order (item ∷ items) → IsSorted order items
  sorted_rest item items up k d low below =
      let more : suc k + 1 ≡ suc (k + 1) = omega arith in
      rw more at (up (suc k) d (omega arith) (omega arith))

  module _ (total : IsTotalOrder order) where
    weak : IsStrictWeakOrder (λ x y. is_lt (order x y))
    weak = ranks_by total (λ x. x)

    sorted_head : (item : Item) (items : List Item) → IsSorted order (item ∷ items) → All (λ other. is_lt (order other item) ≡ false) items
    sorted_head item items up k d within = sorted_far (λ x y. is_lt (order x y)) weak (item ∷ items) up 0 (suc k) d (omega arith) (omega arith)

    not_before : (item first : Item) → is_gt (order item first) ≡ false → is_lt (order first item) ≡ false
    not_before item first fails = ap is_lt (total.antisymm first item) ∙ lt_reversed (order item first) ∙ fails

    put_sorted_at : (later : Bool) (item first : Item) (rest : List Item) → is_gt (order item first) ≡ later → IsSorted order (first ∷ rest)
        → IsSorted order (put_in_order order item rest) → IsSorted order (if later then first ∷ put_in_order order item rest else item ∷ first ∷ rest)
    put_sorted_at true item first rest is up inner =
        let P : Item → Type 0 = λ other. is_lt (order other first) ≡ false in
        sorted_more first (put_in_order order item rest)
        (All-permutation P (item ∷ rest) (put_in_order order item rest) (put_permutes item rest)
        (All-cons P item rest (gt_not_lt (order item first) is) (sorted_head first rest up)))
        inner
    put_sorted_at false item first rest is up inner =
        let P : Item → Type 0 = λ other. is_lt (order other item) ≡ false in
        let here : is_lt (order first item) ≡ false = not_before item first is in
        sorted_more item (first ∷ rest)
        (All-cons P first rest here (λ k d within. weak.chain (get_or rest k d) first item (sorted_head first rest up k d within) here))
        up

    put_sorted : (item : Item) (items : List Item) → IsSorted order items → IsSorted order (put_in_order order item items)
    put_sorted item [] up = sorted_more item [] (All-nil (λ other. is_lt (order other item) ≡ false)) sorted_none
    put_sorted item (first ∷ rest) up =
        put_sorted_at (is_gt (order item first)) item first rest refl up (put_sorted item rest (sorted_rest first rest up))

    pub sorted_by_sorted : (items : List Item) → IsSorted order (sorted_by order items)
    sorted_by_sorted [] = sorted_none
    sorted_by_sorted (item ∷ items) = put_sorted item (sorted_by order items) (sorted_by_sorted items)

    -- of two lists in order with the same values, the first value of the one is not before the first of the other
    first_not_before : (left right : Item) (lefts rights : List Item) → IsSorted order (left ∷ lefts) → SameCounts (left ∷ lefts) (right ∷ rights)
        → is_lt (order right left) ≡ false
    first_not_before left right lefts rights up same =
        true_or_false (is_lt (order right left))
        (λ before.
        let test : Item → Bool = λ other. not (is_lt (order right other)) in
        let P : Item → Type 0 = λ other. test other ≡ false in
        let none : count_by test (left ∷ lefts) ≡ 0 =
        count_none test (left ∷ lefts) (All-cons P left lefts (ap not before)
        (λ k d within. ap not (true_or_false (is_lt (order right (get_or lefts k d))) (λ e. e)
        (λ fails. absurd (true≢false (sym before ∙ weak.chain right (get_or lefts k d) left fails (sorted_head left lefts up k d within))))))) in
        let itself : is_lt (order right right) ≡ false =
        true_or_false (is_lt (order right right)) (λ e. weak.one_way right right e) (λ e. e) in
        let some : 0 < count_by test (right ∷ rights) = count_one test right rights (ap not itself) in
        let equal : count_by test (left ∷ lefts) ≡ count_by test (right ∷ rights) = same test in
        absurd (omega arith))
        (λ e. e)

    pub same_sorted : (exact : (x y : Item) → order x y ≡ Equal → x ≡ y) (left right : List Item)
        → IsSorted order left → IsSorted order right → SameCounts left right → left ≡ right
    same_sorted exact [] [] up up' same = refl
    same_sorted exact [] (right ∷ rights) up up' same = let e : 0 ≡ 1 + count_by (λ x. true) rights = same (λ x. true) ∙ count_more (λ x. true) right rights in absurd (omega arith)
    same_sorted exact (left ∷ lefts) [] up up' same = let e : 1 + count_by (λ x. true) lefts ≡ 0 = sym (count_more (λ x. true) left lefts) ∙ same (λ x. true) in absurd (omega arith)
    same_sorted exact (left ∷ lefts) (right ∷ rights) up up' same =
        let not_right = first_not_before left right lefts rights up same in
        let not_left = first_not_before right left rights lefts up' (λ test. sym (same test)) in
        let head : left ≡ right =
        exact left right (neither (order left right) not_left (ap is_lt (sym (total.antisymm right left)) ∙ not_right)) in
        let rest : SameCounts lefts rights = λ test.
        let heads : cond {A = ℕ} (test left) 1 0 ≡ cond {A = ℕ} (test right) 1 0 = ap (λ x. cond {A = ℕ} (test x) 1 0) head in
        let all : cond {A = ℕ} (test left) 1 0 + count_by test lefts ≡ cond {A = ℕ} (test right) 1 0 + count_by test rights =
        sym (count_more test left lefts) ∙ same test ∙ count_more test right rights in
        omega arith in
        ap (λ x. x ∷ lefts) head ∙ ap (λ xs. right ∷ xs) (same_sorted exact lefts rights (sorted_rest left lefts up) (sorted_rest right rights up') rest)

    pub sorted_once : (exact : (x y : Item) → order x y ≡ Equal → x ≡ y) (items sorted : List Item)
        → IsPermutation items sorted → IsSorted order sorted → sorted ≡ sorted_by order items
    sorted_once exact items sorted moved up =
        same_sorted exact sorted (sorted_by order items) up (sorted_by_sorted items)
        (λ test.
        sum_by-IsPermutation (λ x. cond (test x) 1 0) items sorted moved
        ∙ sym (sum_by-IsPermutation (λ x. cond (test x) 1 0) items (sorted_by order items) (sorted_by_permutes items)))
