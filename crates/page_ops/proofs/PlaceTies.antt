-- Places that stand in an order stand by themselves where it ties.
use Rattle.std.proofs.Common.{◌≡◌, ℕ, zero, suc, ◌+◌, ◌<◌, List, [], ◌∷◌, refl, ap, ◌∙◌, arith}
use Rattle.std.specs.Prelude.{if◌then◌else◌}
use Rattle.std.specs.Ordering.{is_gt, nat_cmp, then_cmp, ordering_then}
use Rattle.std.specs.Cmp.{nat_cmp_is}
use Rattle.std.specs.List.{All, range_with_len}
use Rattle.std.specs.declared.cmp.Ordering.{Ordering}
use Rattle.std.specs.declared.cmp.Ordering.TheVariants.{Less, Equal, Greater}
use Rattle.std.proofs.lemmas.List.Elements.{All-head, All-tail}
use Rattle.std.proofs.lemmas.List.FromFn.{length-range_with_len, get_or-range_with_len}
use Rattle.std.proofs.lemmas.List.Sorted.{All-permutation}
use Rattle.function_rules.specs.Lists.{put_in_order, sorted_by}
use Rattle.function_rules.proofs.ListsSorted.{sorted_by_permutes}

behind : (here next : Ordering) → Less ≡ next → is_gt here ≡ is_gt (ordering_then here next)
behind Less next is = refl
behind Equal next is = ap is_gt is
behind Greater next is = refl

all_above : (from count : ℕ) → All (λ other. from < other) (range_with_len (from + 1) count)
all_above from count place other within =
    let inside : place < count = rw (length-range_with_len (from + 1) count) at within in
    rw (get_or-range_with_len (from + 1) count place other inside) (omega arith)

module _ (order : ℕ → ℕ → Ordering) where
  same_put : (place : ℕ) (places : List ℕ) → All (λ other. place < other) places → put_in_order order place places ≡ put_in_order (then_cmp order nat_cmp) place places
  same_put place [] above = refl
  same_put place (first ∷ rest) above =
      let later = behind (order place first) (nat_cmp place first) (nat_cmp_is place first Less (All-head (λ other. place < other) first rest above)) in
      let tail = same_put place rest (All-tail (λ other. place < other) first rest above) in
      λ i. if later i then first ∷ tail i else place ∷ first ∷ rest

  pub same_sorted : (from count : ℕ) → sorted_by order (range_with_len from count) ≡ sorted_by (then_cmp order nat_cmp) (range_with_len from count)
  same_sorted from zero = refl
  same_sorted from (suc count) =
      let others = range_with_len (from + 1) count in
      same_put from (sorted_by order others) (All-permutation (λ other. from < other) others (sorted_by order others) (sorted_by_permutes order others) (all_above from count))
      ∙ ap (put_in_order (then_cmp order nat_cmp) from) (same_sorted (from + 1) count)
