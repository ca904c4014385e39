-- Sums of series, and the steps of the loops that take them.
use Rattle.std.proofs.Common.{◌≡◌, ℕ, zero, suc, ◌+◌, ◌*◌, ◌%◌, ◌^◌, ◌<◌, ◌≤◌, Bool, true, false, cond, ◌&&◌, List, [], ◌∷◌, length, get_or, refl, sym, ap, ◌∙◌, subst, arith, w32, w64}
use Rattle.std.proofs.lemmas.Int.{ints, int_wrap_fits, int_wrap-add_left, wrapping_add-bits, fits_signed_from_abs, to_z-of_z}
use Rattle.std.proofs.lemmas.Nat.{pow_pos}
use Rattle.std.proofs.Math.Nat.{mod-lt}
use Rattle.std.proofs.Math.Facts.{sfits_to_z, sfits_widen, Fits-of_z}
use Rattle.std.specs.Int.{int_wrap}
use Rattle.std.specs.Int.RustNames.{unsigned_abs}
use lib.IntN.{ℤ, pos, negsuc, ◌+ℤ◌}
use lib.Lanes.{fold_l}
use mir.Syntax.{Width}
use mir.Val.{bits, hbits, of_z, to_z, SFits}
use Rattle.num_folds.specs.Totals.{total, IsTotal}

abs-add : (a b : ℤ) → unsigned_abs (a +ℤ b) ≤ unsigned_abs a + unsigned_abs b
abs-add (pos a) (pos b) = omega arith
abs-add (pos a) (negsuc b) = grind (arith, ints)
abs-add (negsuc a) (pos b) = grind (arith, ints)
abs-add (negsuc a) (negsuc b) = omega arith

pub abs_of_fitting : (w : Width) (x : ℤ) → SFits w x → unsigned_abs x ≤ 2 ^ hbits w
abs_of_fitting w (pos a) f = let s = f.sfits in omega arith
abs_of_fitting w (negsuc a) f = let s = f.sfits in omega arith

pub total-split : (f : ℕ → ℤ) (a n m : ℕ) → m ≡ a + n → total f m ≡ total f a +ℤ total (λ k. f (a + k)) n
total-split f a zero m e = ap (total f) (let same : m ≡ a = omega arith in same) ∙ (let none : total f a ≡ total f a +ℤ pos 0 = omega (arith, ints) in none)
total-split f a (suc n) zero e = absurd (omega arith)
total-split f a (suc n) (suc m) e =
    let rest = total-split f a n m (omega arith) in
    let last : f m ≡ f (a + n) = ap f (omega arith) in
    omega (arith, ints, rest, last)

pub total-same : (f g : ℕ → ℤ) (n : ℕ) → ((k : ℕ) → k < n → f k ≡ g k) → total f n ≡ total g n
total-same f g zero same = refl
total-same f g (suc n) same = ap (λ (z : ℤ). z +ℤ f n) (total-same f g n (λ k below. same k (omega arith))) ∙ ap (λ (z : ℤ). total g n +ℤ z) (same n (omega arith))

pub total_small : (size : ℕ) (f : ℕ → ℤ) (n : ℕ) → ((k : ℕ) → k < n → unsigned_abs (f k) ≤ 2 ^ size) → unsigned_abs (total f n) ≤ n * 2 ^ size
total_small size f zero each = omega arith
total_small size f (suc n) each = omega (arith, abs-add (total f n) (f n), total_small size f n (λ k below. each k (omega arith)), each n (omega arith))

-- the sum of a vector's lanes, which wraps
pub wrapped_sum : (w : Width) (start : ℕ) (xs : List ℕ) (f : ℕ → ℤ) → start < 2 ^ bits w → ((k : ℕ) → k < length xs → (get_or xs k 0 < 2 ^ bits w) × (to_z w (get_or xs k 0) ≡ f k))
    → to_z w (fold_l (λ a b. (a + b) % 2 ^ bits w) start xs) ≡ int_wrap w (to_z w start +ℤ total f (length xs))
wrapped_sum w start [] f small each =
    sym (int_wrap_fits w (to_z w start) (sfits_to_z (record { fits = small })))
    ∙ ap (int_wrap w) (let none : to_z w start ≡ to_z w start +ℤ pos 0 = omega (arith, ints) in none)
wrapped_sum w start (x ∷ xs) f small each =
    let next = (start + x) % 2 ^ bits w in
    let first = each 0 (omega arith) in
    let rest : to_z w (fold_l (λ a b. (a + b) % 2 ^ bits w) next xs) ≡ int_wrap w (to_z w next +ℤ total (λ k. f (suc k)) (length xs)) =
    wrapped_sum w next xs (λ k. f (suc k)) (mod-lt (start + x) (pow_pos (bits w))) (λ k below. each (suc k) (omega arith)) in
    let whole : total f (suc (length xs)) ≡ f 0 +ℤ total (λ k. f (suc k)) (length xs) =
    total-split f 1 (length xs) (suc (length xs)) (omega arith)
    ∙ ap (λ (z : ℤ). total f 1 +ℤ z) (total-same (λ k. f (1 + k)) (λ k. f (suc k)) (length xs) (λ k below. ap f (omega arith)))
    ∙ ap (λ (z : ℤ). z +ℤ total (λ k. f (suc k)) (length xs)) (let one : pos 0 +ℤ f 0 ≡ f 0 = omega (arith, ints) in one) in
    rest
    ∙ ap (λ (z : ℤ). int_wrap w (z +ℤ total (λ k. f (suc k)) (length xs))) (wrapping_add-bits w start x small first.0)
    ∙ int_wrap-add_left w (to_z w start +ℤ to_z w x) (total (λ k. f (suc k)) (length xs))
    ∙ ap (λ (z : ℤ). int_wrap w (to_z w start +ℤ z +ℤ total (λ k. f (suc k)) (length xs))) first.1
    ∙ ap (int_wrap w) (let moved : to_z w start +ℤ f 0 +ℤ total (λ k. f (suc k)) (length xs) ≡ to_z w start +ℤ (f 0 +ℤ total (λ k. f (suc k)) (length xs)) = omega (arith, ints) in moved)
    ∙ ap (λ (z : ℤ). int_wrap w (to_z w start +ℤ z)) (sym whole)

module _ (size : ℕ) (f : ℕ → ℤ) where
  -- one more number
  pub total_one : (n : ℕ) (sum value : ℤ) → IsTotal size f n sum → value ≡ f n → unsigned_abs value ≤ 2 ^ size → IsTotal size f (n + 1) (sum +ℤ value)
  total_one n sum value so_far is small = record {
    is = subst (λ (m : ℕ). sum +ℤ value ≡ total f m) (let e : suc n ≡ n + 1 = omega arith in e) (ap (λ (z : ℤ). z +ℤ value) so_far.is ∙ ap (λ (z : ℤ). total f n +ℤ z) is);
    small = omega (arith, abs-add sum value, so_far.small);
  }

  -- as many more as there are lanes
  pub total_lanes : (g : ℕ → ℤ) (start n : ℕ) (sum part : ℤ) → IsTotal size f start sum → IsTotal size g n part → ((k : ℕ) → k < n → g k ≡ f (start + k)) → IsTotal size f (start + n) (sum +ℤ part)
  total_lanes g start n sum part so_far lanes same = record {
    is = ap (λ (z : ℤ). z +ℤ part) so_far.is ∙ ap (λ (z : ℤ). total f start +ℤ z) (lanes.is ∙ total-same g (λ k. f (start + k)) n same) ∙ sym (total-split f start n (start + n) refl);
    small = omega (arith, abs-add sum part, so_far.small, lanes.small);
  }

-- a sum of few numbers fits twice their bits
pub sum_fits : (w : Width) (size n : ℕ) (sum value : ℤ) (m : ℕ) → unsigned_abs sum ≤ n * 2 ^ size → unsigned_abs value ≤ m * 2 ^ size → (n + m) * 2 ^ size < 2 ^ hbits w → SFits w (sum +ℤ value)
sum_fits w size n sum value m small small_value room = fits_signed_from_abs w (sum +ℤ value) (omega (arith, abs-add sum value))

pub few_fit : (w : Width) (size n : ℕ) (sum : ℤ) → unsigned_abs sum ≤ n * 2 ^ size → n * 2 ^ size < 2 ^ hbits w → SFits w sum
few_fit w size n sum small room = fits_signed_from_abs w sum (omega arith)

-- the lanes of a vector, each widened, and their sum
pub lanes_total : (lanes : List ℕ) (f : ℕ → ℤ) (n : ℕ) → length lanes ≡ n → n ≤ 16 → ((k : ℕ) → k < n → get_or lanes k 0 ≡ of_z w64 (f k)) → ((k : ℕ) → k < n → SFits w32 (f k))
    → IsTotal 31 f n (to_z w64 (fold_l (λ a b. (a + b) % 2 ^ 64) 0 lanes))
lanes_total lanes f n long few each fit =
    let small : unsigned_abs (total f n) ≤ n * 2 ^ 31 = total_small 31 f n (λ k below. abs_of_fitting w32 (f k) (fit k below)) in
    let fits : SFits w64 (total f n) = few_fit w64 31 n (total f n) small (omega arith) in
    let is : to_z w64 (fold_l (λ a b. (a + b) % 2 ^ 64) 0 lanes) ≡ total f n =
    wrapped_sum w64 0 lanes f (omega arith) (λ k below.
    let within : k < n = omega arith in
    let wide : SFits w64 (f k) = sfits_widen tt (fit k within) in
    (subst (λ (x : ℕ). x < 2 ^ 64) (sym (each k within)) (Fits-of_z wide).fits, ap (to_z w64) (each k within) ∙ to_z-of_z w64 (f k) wide))
    ∙ ap (λ (m : ℕ). int_wrap w64 (pos 0 +ℤ total f m)) long
    ∙ ap (int_wrap w64) (let none : pos 0 +ℤ total f n ≡ total f n = omega (arith, ints) in none)
    ∙ int_wrap_fits w64 (total f n) fits in
    record { is = is; small = subst (λ (z : ℤ). unsigned_abs z ≤ n * 2 ^ 31) (sym is) small }

pub kept_fits : (w : Width) (b : Bool) (x : ℤ) → SFits w x → SFits w (cond b x (pos 0))
kept_fits w true x fits = fits
kept_fits w false x fits = record { sfits = pow_pos (hbits w) }

pub kept_value : (w : Width) (valid keep : Bool) (x value : ℤ) → SFits w x → value ≡ cond (valid && keep) (to_z w (of_z w x)) (pos 0) → value ≡ cond (valid && keep) x (pos 0)
kept_value w valid keep x value fits is = is ∙ ap (λ (z : ℤ). cond (valid && keep) z (pos 0)) (to_z-of_z w x fits)

pub kept_small : (w : Width) (b : Bool) (x value : ℤ) → SFits w x → value ≡ cond b x (pos 0) → unsigned_abs value ≤ 2 ^ hbits w
kept_small w true x value fits is = subst (λ (z : ℤ). unsigned_abs z ≤ 2 ^ hbits w) (sym is) (abs_of_fitting w x fits)
kept_small w false x value fits is = subst (λ (z : ℤ). unsigned_abs z ≤ 2 ^ hbits w) (sym is) (let least : 0 ≤ 2 ^ hbits w = omega arith in least)
