-- The best so far, with one more place, and past several places that hold nothing better.
use Rattle.std.proofs.Common.{◌≡◌, ℕ, ◌+◌, ◌-◌, ◌<◌, ◌≤◌, Bool, true, false, Option, Some, None, List, cond, refl, sym, ap, ◌∙◌, subst, ⊎_elim, eqb, bit_and, arith}
use Rattle.std.proofs.lemmas.Bool.{cases_lt, eqb-true, false_from_ne_true}
use Rattle.std.proofs.lemmas.Int.{ints}
use Rattle.std.proofs.lemmas.Nat.Bits.{bit_at-zero}
use Rattle.std.specs.Int.{bit_at}
use Rattle.num_folds.proofs.Lanes.{and_bits}
use borrow.Author.Count.{below_more}
use lib.IntN.{ℤ}
use Rattle.num_folds.specs.Lanes.{at, Marks}
use Rattle.num_folds.specs.Totals.{AsGood, IsBest, IsNoBetter, better_of, both_at, is_better}

not_better : (sought : Bool) (x best : ℤ) → is_better sought x best ≡ false → AsGood sought best x
not_better true x best e = grind (arith, ints)
not_better false x best e = grind (arith, ints)

better_is_as_good : (sought : Bool) (x best : ℤ) → is_better sought x best ≡ true → AsGood sought x best
better_is_as_good true x best e = grind (arith, ints)
better_is_as_good false x best e = grind (arith, ints)

as_good_chain : (sought : Bool) (x y z : ℤ) → AsGood sought x y → AsGood sought y z → AsGood sought x z
as_good_chain true x y z first second = omega (arith, ints)
as_good_chain false x y z first second = omega (arith, ints)

as_good_itself : (sought : Bool) (x : ℤ) → AsGood sought x x
as_good_itself true x = omega (arith, ints)
as_good_itself false x = omega (arith, ints)

-- where no bit is 1 both in the one and in the other, the other's test fails at each bit of the one
test_fails : (bits tests k : ℕ) (p : Bool) → eqb (bit_and bits tests) 0 ≡ true → eqb (bit_at bits k) 1 ≡ true → eqb (bit_at tests k) 1 ≡ p → p ≡ false
test_fails bits tests k p none marked tested =
    sym (and_bits bits tests k marked tested) ∙ ap (λ (m : ℕ). eqb (bit_at m k) 1) (eqb-true (bit_and bits tests) 0 none) ∙ ap (λ (b : ℕ). eqb b 1) (bit_at-zero k)

pub no_better_lane : (sought : Bool) (numbers : List ℤ) (start n bits tests : ℕ) {so_far : Option ℤ} {best : ℤ} → so_far ≡ Some best → Marks n tests (λ k. is_better sought (at numbers (start + k)) best) → eqb (bit_and bits tests) 0 ≡ true
    → (k : ℕ) → k < n → eqb (bit_at bits k) 1 ≡ true → IsNoBetter (AsGood sought) so_far (at numbers (start + k))
no_better_lane sought numbers start n bits tests {so_far} {best} is tested none k below marked =
    let x = at numbers (start + k) in
    subst (λ (o : Option ℤ). IsNoBetter (AsGood sought) o x) (sym is)
    (not_better sought x best (test_fails bits tests k (is_better sought x best) none marked (tested k below)))

pub skip_lanes : (R : ℤ → ℤ → Type 0) (values : List ℤ) (valid keep : List Bool) (start n : ℕ) (so_far : Option ℤ)
    → ((k : ℕ) → k < n → both_at valid keep (start + k) ≡ true → IsNoBetter R so_far (at values (start + k))) → IsBest R values valid keep start so_far → IsBest R values valid keep (start + n) so_far
skip_lanes R values valid keep start n None lanes none = λ k below. ⊎_elim
    (λ (before : k < start). none k before)
    (λ (from : start ≤ k).
    let place : start + (k - start) ≡ k = omega arith in
    false_from_ne_true (both_at valid keep k) (λ kept. lanes (k - start) (omega arith) (ap (both_at valid keep) place ∙ kept)))
    (cases_lt k start)
skip_lanes R values valid keep start n (Some best) lanes bound = (
  λ k below kept. ⊎_elim
      (λ (before : k < start). bound.0 k before kept)
      (λ (from : start ≤ k).
      let place : start + (k - start) ≡ k = omega arith in
      subst (λ (i : ℕ). R best (at values i)) place (lanes (k - start) (omega arith) (ap (both_at valid keep) place ∙ kept)))
      (cases_lt k start),
  (bound.1.0, (let within = bound.1.1 in omega arith), bound.1.2, bound.1.3),
)

module _ (values : List ℤ) (valid keep : List Bool) (n : ℕ) (sought : Bool) where
  take_kept : both_at valid keep n ≡ true → (best : ℤ) (b : Bool) → is_better sought (at values n) best ≡ b → IsBest (AsGood sought) values valid keep n (Some best)
      → IsBest (AsGood sought) values valid keep (n + 1) (cond b (Some (at values n)) (Some best))
  take_kept kept best false e bound = (
    below_more (λ k. both_at valid keep k ≡ true → AsGood sought best (at values k)) n bound.0 (λ is. not_better sought (at values n) best e),
    (bound.1.0, (let within = bound.1.1 in omega arith), bound.1.2, bound.1.3),
  )
  take_kept kept best true e bound = (
    below_more (λ k. both_at valid keep k ≡ true → AsGood sought (at values n) (at values k)) n
        (λ k below is. as_good_chain sought (at values n) best (at values k) (better_is_as_good sought (at values n) best e) (bound.0 k below is))
        (λ is. as_good_itself sought (at values n)),
    (n, omega arith, kept, refl),
  )

  take_one : (b : Bool) → both_at valid keep n ≡ b → (so_far : Option ℤ) → IsBest (AsGood sought) values valid keep n so_far → IsBest (AsGood sought) values valid keep (n + 1) (cond b (better_of sought so_far (at values n)) so_far)
  take_one false e None none = below_more (λ k. both_at valid keep k ≡ false) n none e
  take_one false e (Some best) bound = (
    below_more (λ k. both_at valid keep k ≡ true → AsGood sought best (at values k)) n bound.0 (λ kept. cc (e, kept)),
    (bound.1.0, (let within = bound.1.1 in omega arith), bound.1.2, bound.1.3),
  )
  take_one true e None none = (
    below_more (λ k. both_at valid keep k ≡ true → AsGood sought (at values n) (at values k)) n (λ k below kept. cc (none k below, kept)) (λ kept. as_good_itself sought (at values n)),
    (n, omega arith, e, refl),
  )
  take_one true e (Some best) bound = take_kept e best (is_better sought (at values n) best) refl bound

  -- one more place
  pub take_place : {kept : Bool} {x : ℤ} {next : Option ℤ} (so_far : Option ℤ) → kept ≡ both_at valid keep n → x ≡ at values n → next ≡ cond kept (better_of sought so_far x) so_far → IsBest (AsGood sought) values valid keep n so_far
      → IsBest (AsGood sought) values valid keep (n + 1) next
  take_place {kept} {x} {next} so_far kept_is x_is next_is bound =
      let is : next ≡ cond kept (better_of sought so_far (at values n)) so_far = next_is ∙ ap (λ (y : ℤ). cond kept (better_of sought so_far y) so_far) x_is in
      subst (IsBest (AsGood sought) values valid keep (n + 1)) (sym is) (take_one kept (sym kept_is) so_far bound)
