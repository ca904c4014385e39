-- A list in order that keeps the order of what ties is the list that is put in order value by value.
use Rattle.std.proofs.Common.{◌≡◌, suc, ◌+◌, Bool, true, false, not, ◌&&◌, cond, List, [], ◌∷◌, filter, refl, sym, ap, ◌∙◌, arith, true≢false, get_or}
use Rattle.std.specs.Prelude.{if◌then◌else◌}
use Rattle.std.specs.Ordering.{is_lt, is_gt, ordering_reverse}
use Rattle.std.specs.Cmp.{IsTotalOrder, IsStrictWeakOrder}
use Rattle.std.specs.List.{All}
use Rattle.std.specs.List.Sorted.{IsSorted, IsStableBy, ties}
use Rattle.std.specs.declared.cmp.Ordering.{Ordering}
use Rattle.std.specs.declared.cmp.Ordering.TheVariants.{Less, Equal, Greater}
use Rattle.std.proofs.lemmas.List.Elements.{All-cons, All-head, All-tail}
use Rattle.std.proofs.lemmas.List.Sorted.{ranks_by, sorted_far}
use Rattle.function_rules.specs.Lists.{put_in_order, sorted_by}
use Rattle.function_rules.proofs.ListsSorted.{sorted_by_sorted}

by_truth : {Goal : Type 0} (b : Bool) → (b ≡ true → Goal) → (b ≡ false → Goal) → Goal
by_truth true yes_ no_ = yes_ refl
by_truth false yes_ no_ = no_ refl

reversed : (answer : Ordering) → is_gt answer ≡ true → is_lt (ordering_reverse answer) ≡ true
reversed Less e = absurd (true≢false (sym e))
reversed Equal e = absurd (true≢false (sym e))
reversed Greater e = refl

none_kept : {Item : Type 0} (test : Item → Bool) (items : List Item) → All (λ item. test item ≡ false) items → filter test items ≡ []
none_kept test [] none = refl
none_kept {Item} test (item ∷ items) none =
    let P : Item → Type 0 = λ one. test one ≡ false in
    ap (λ (b : Bool). cond b (item ∷ filter test items) (filter test items)) (All-head P item items none) ∙ none_kept test items (All-tail P item items none)

first_kept : {Item : Type 0} (test : Item → Bool) (item : Item) (items : List Item) → test item ≡ true → filter test (item ∷ items) ≡ item ∷ filter test items
first_kept test item items is = ap (λ (b : Bool). cond b (item ∷ filter test items) (filter test items)) is

first_left : {Item : Type 0} (test : Item → Bool) (item : Item) (items : List Item) → test item ≡ false → filter test (item ∷ items) ≡ filter test items
first_left test item items is = ap (λ (b : Bool). cond b (item ∷ filter test items) (filter test items)) is

rest_same : {Item : Type 0} (test : Item → Bool) (left right : Item) (lefts rights : List Item) → left ≡ right
    → filter test (left ∷ lefts) ≡ filter test (right ∷ rights) → filter test lefts ≡ filter test rights
rest_same {Item} test left right lefts rights head same =
    by_truth (test left)
    (λ is. let both : left ∷ filter test lefts ≡ right ∷ filter test rights =
    sym (first_kept test left lefts is) ∙ same ∙ first_kept test right rights (sym (ap test head) ∙ is) in cc)
    (λ is. sym (first_left test left lefts is) ∙ same ∙ first_left test right rights (sym (ap test head) ∙ is))

swapped : {Item : Type 0} (item first : Item) (rest : List Item) (a b : Bool) → (a ≡ true → b ≡ true → ⊥)
    → cond b (first ∷ cond a (item ∷ rest) rest) (cond a (item ∷ rest) rest) ≡ cond a (item ∷ cond b (first ∷ rest) rest) (cond b (first ∷ rest) rest)
swapped item first rest true true never = absurd (never refl refl)
swapped item first rest true false never = refl
swapped item first rest false true never = refl
swapped item first rest false false never = refl

module _ {Item : Type 0} (order : Item → Item → Ordering) (total : IsTotalOrder order) where
  abbrev less : Item → Item → Bool
  less left right = is_lt (order left right)

  weak : IsStrictWeakOrder less
  weak = ranks_by total (λ x. x)

  itself : (item : Item) → less item item ≡ false
  itself item = by_truth (less item item) (λ is. weak.one_way item item is) (λ is. is)

  tied : (left right : Item) → less left right ≡ false → less right left ≡ false → ties less left right ≡ true
  tied left right here there = ap (λ (b : Bool). not b && not (less right left)) here ∙ ap (λ (b : Bool). not b) there

  tied_here : (left right : Item) → ties less left right ≡ true → less left right ≡ false
  tied_here left right is = by_truth (less left right)
      (λ before. absurd (true≢false (sym is ∙ ap (λ (b : Bool). not b && not (less right left)) before))) (λ e. e)

  tied_there : (left right : Item) → ties less left right ≡ true → less right left ≡ false
  tied_there left right is = by_truth (less right left)
      (λ behind. absurd (true≢false (sym is ∙ ap (λ (b : Bool). not b && not (less right left)) (tied_here left right is) ∙ ap (λ (b : Bool). not b) behind))) (λ e. e)

  apart : (left right : Item) → less left right ≡ true → ties less left right ≡ false
  apart left right before = ap (λ (b : Bool). not b && not (less right left)) before

  rest_sorted : (item : Item) (items : List Item) → IsSorted order (item ∷ items) → IsSorted order items
  rest_sorted item items up k d low below =
      let more : suc k + 1 ≡ suc (k + 1) = omega arith in
      rw more at (up (suc k) d (omega arith) (omega arith))

  least_first : (item : Item) (items : List Item) → IsSorted order (item ∷ items) → All (λ other. less other item ≡ false) items
  least_first item items up k d within = sorted_far less weak (item ∷ items) up 0 (suc k) d (omega arith) (omega arith)

  not_before : (left right : Item) (lefts rights : List Item) → IsSorted order (right ∷ rights)
      → filter (ties less left) (left ∷ lefts) ≡ filter (ties less left) (right ∷ rights) → less left right ≡ false
  not_before left right lefts rights up same = by_truth (less left right)
      (λ before.
      let P : Item → Type 0 = λ other. ties less left other ≡ false in
      let beyond : (other : Item) → less other right ≡ false → P other = λ other least. apart left other (by_truth (less left other) (λ e. e)
      (λ fails. absurd (true≢false (sym before ∙ weak.chain left other right fails least)))) in
      let none : filter (ties less left) (right ∷ rights) ≡ [] = none_kept (ties less left) (right ∷ rights)
      (All-cons P right rights (apart left right before) (λ k d within. beyond (get_or rights k d) (least_first right rights up k d within))) in
      absurd (let no : left ∷ filter (ties less left) lefts ≡ [] =
      sym (first_kept (ties less left) left lefts (tied left left (itself left) (itself left))) ∙ same ∙ none in cc))
      (λ e. e)

  same_ties : (left right : List Item) → IsSorted order left → IsSorted order right → ((item : Item) → filter (ties less item) left ≡ filter (ties less item) right) → left ≡ right
  same_ties [] [] up up' same = refl
  same_ties [] (right ∷ rights) up up' same =
      absurd (let no : [] ≡ right ∷ filter (ties less right) rights = same right ∙ first_kept (ties less right) right rights (tied right right (itself right) (itself right)) in cc)
  same_ties (left ∷ lefts) [] up up' same =
      absurd (let no : left ∷ filter (ties less left) lefts ≡ [] = sym (first_kept (ties less left) left lefts (tied left left (itself left) (itself left))) ∙ same left in cc)
  same_ties (left ∷ lefts) (right ∷ rights) up up' same =
      let here = not_before left right lefts rights up' (same left) in
      let there = not_before right left rights lefts up (sym (same right)) in
      let both : left ∷ filter (ties less left) lefts ≡ right ∷ filter (ties less left) rights =
      sym (first_kept (ties less left) left lefts (tied left left (itself left) (itself left))) ∙ same left ∙ first_kept (ties less left) right rights (tied left right here there) in
      let head : left ≡ right = cc in
      let rest = same_ties lefts rights (rest_sorted left lefts up) (rest_sorted right rights up')
      (λ item. rest_same (ties less item) left right lefts rights head (same item)) in
      ap (λ x. x ∷ lefts) head ∙ ap (λ xs. right ∷ xs) rest

  moved : (tie item first : Item) (rest : List Item) (later : Bool) → is_gt (order item first) ≡ later
      → filter (ties less tie) (put_in_order order item rest) ≡ filter (ties less tie) (item ∷ rest)
      → filter (ties less tie) (if later then first ∷ put_in_order order item rest else item ∷ first ∷ rest) ≡ filter (ties less tie) (item ∷ first ∷ rest)
  moved tie item first rest false is inner = refl
  moved tie item first rest true is inner =
      let before : less first item ≡ true = ap is_lt (total.antisymm first item) ∙ reversed (order item first) is in
      ap (λ (xs : List Item). cond (ties less tie first) (first ∷ xs) xs) inner
      ∙ swapped item first (filter (ties less tie) rest) (ties less tie item) (ties less tie first)
      (λ one other. true≢false (sym before ∙ weak.chain first tie item (tied_there tie first other) (tied_here tie item one)))

  put_stable : (tie item : Item) (items : List Item) → filter (ties less tie) (put_in_order order item items) ≡ filter (ties less tie) (item ∷ items)
  put_stable tie item [] = refl
  put_stable tie item (first ∷ rest) = moved tie item first rest (is_gt (order item first)) refl (put_stable tie item rest)

  sorted_by_stable : (tie : Item) (items : List Item) → filter (ties less tie) (sorted_by order items) ≡ filter (ties less tie) items
  sorted_by_stable tie [] = refl
  sorted_by_stable tie (item ∷ items) =
      put_stable tie item (sorted_by order items)
      ∙ ap (λ (xs : List Item). cond (ties less tie item) (item ∷ xs) xs) (sorted_by_stable tie items)

  pub stable_sort_once : (items sorted : List Item) → IsSorted order sorted → IsStableBy less items sorted → sorted ≡ sorted_by order items
  stable_sort_once items sorted up stable =
      same_ties sorted (sorted_by order items) up (sorted_by_sorted order total items) (λ tie. stable tie ∙ sym (sorted_by_stable tie items))
