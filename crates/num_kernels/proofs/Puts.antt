-- What the kernels put at n places: each lane's value, and what stays.
use Rattle.std.proofs.Common.{◌≡◌, ℕ, zero, suc, ◌+◌, ◌-◌, ◌^◌, ◌<◌, ◌≤◌, false, cond, eqb, List, [], ◌∷◌, length, get_or, map, replicate, sym, ap, ◌∙◌, subst, arith}
use Rattle.std.proofs.lemmas.List.{get_or-map, length-map}
use Rattle.std.proofs.lemmas.Simd.{length-put_chunk, get_or-put_chunk_at, get_or-put_chunk_below, get_or-put_chunk_above}
use Rattle.std.specs.Int.{bit_at}
use Rattle.std.specs.Int.RustNames.{int_div, int_rem}
use lib.IntN.{ℤ, pos, negsuc}
use lib.Lanes.{put_chunk, Each2, sel_l, zip2, top}
use mir.Syntax.{Width}
use mir.Val.{bits, hbits, of_z, to_z, SFits}
use Rattle.num_kernels.specs.Numbers.{div, mod_of, exact, fails}
use Rattle.num_kernels.specs.Steps.{CanLoad, CanPut, IsPut}
use Rattle.num_folds.specs.Lanes.{Holds, at}
use Rattle.num_folds.proofs.Lanes.{Lane, lane_select, lane_splat, lane_zip}
use Rattle.num_folds.proofs.Marks.{lane_pick, chosen_value}
use Rattle.num_kernels.proofs.Marked.{lanes_of, left_lane, right_lane}
use Rattle.num_kernels.proofs.Quotients.{divisor_of, quotient_asks, quotient_value, remainder_asks, remainder_value}

-- a fact of each pair of lanes
pub each_pair : (P : ℕ → ℕ → Type 0) (n : ℕ) (xs ys : List ℕ) → length xs ≡ n → length ys ≡ n → ((k : ℕ) → k < n → P (get_or xs k 0) (get_or ys k 0)) → Each2 P xs ys
each_pair P n [] ys long_xs long_ys each = tt
each_pair P n (x ∷ xs) [] long_xs long_ys each = tt
each_pair P zero (x ∷ xs) (y ∷ ys) long_xs long_ys each = absurd (omega arith)
each_pair P (suc n) (x ∷ xs) (y ∷ ys) long_xs long_ys each = (each 0 (omega arith), each_pair P n xs ys (omega arith) (omega arith) (λ k below. each (suc k) (omega arith)))

pub each_lanes : (P : ℕ → ℕ → Type 0) (n : ℕ) (xs ys : List ℕ) → 0 < n → ((k : ℕ) → k < n → (a : ℕ) × (b : ℕ) × Lane n xs k a × Lane n ys k b × P a b) → Each2 P xs ys
each_lanes P n xs ys some each = each_pair P n xs ys (each 0 some).2.long (each 0 some).3.long
    (λ k below. let there = each k below in subst (λ (a : ℕ). P a (get_or ys k 0)) (sym there.2.is) (subst (P there.0) (sym there.3.is) there.4))

module _ (w : Width) (op n start bits : ℕ) (left right old : List ℤ) (lanes : List ℕ) (some : 0 < n) (room : start + n ≤ length old)
    (each : (k : ℕ) → k < n → (a : ℕ) × Lane n lanes k a × (to_z w a ≡ cond (eqb (bit_at bits k) 1) (exact op (at left (start + k)) (at right (start + k))) (pos 0))) where
  long : length (map (to_z w) lanes) ≡ n
  long = length-map lanes (to_z w) ∙ (each 0 some).1.long

  pub put_is : IsPut op n start bits left right old (put_chunk start old (map (to_z w) lanes))
  put_is = record {
    same_length = length-put_chunk start old (map (to_z w) lanes);
    inside = λ k below.
        let there = each k below in
        let length_is = there.1.long in
        get_or-put_chunk_at start old (map (to_z w) lanes) k (pos 0) (let e = long in omega arith) (let e = long in omega arith)
        ∙ get_or-map (to_z w) lanes k 0 (pos 0) (omega arith)
        ∙ ap (to_z w) there.1.is
        ∙ there.2;
    before = λ k below. get_or-put_chunk_below start old (map (to_z w) lanes) k (pos 0) below;
    after = λ k past. get_or-put_chunk_above start old (map (to_z w) lanes) k (pos 0) (let e = long in omega arith);
  }

-- the lanes that are chosen by marks
abbrev pub chosen_of : Width → List ℤ → List ℕ → List ℕ → List ℕ
chosen_of w marks us vs = sel_l (map (top (hbits w)) (map (of_z w) marks)) us vs

-- divisors with 1 in place of -1
abbrev pub turned_of : Width → ℕ → List ℕ → List ℕ
turned_of w n lanes = sel_l (map (top (hbits w)) (zip2 (λ x y. cond (eqb x y) (2 ^ bits w - 1) 0) lanes (replicate n (2 ^ bits w - 1)))) (replicate n 1) lanes

module _ (w : Width) (n start fine : ℕ) (left right marks : List ℤ) (load : CanLoad w n start left right)
    (marked : Holds n marks (λ k. cond (eqb (bit_at fine k) 1) (negsuc 0) (pos 0))) where
  chosen : {k c d : ℕ} {us vs : List ℕ} → k < n → Lane n us k c → Lane n vs k d → Lane n (chosen_of w marks us vs) k (cond (eqb (bit_at fine k) 1) c d)
  chosen {k} below = lane_pick below w marks (eqb (bit_at fine k) 1) marked.long (marked.each k below)

  dividend : {k : ℕ} (below : k < n) → Lane n (chosen_of w marks (lanes_of w n start left) (replicate n 0)) k (cond (eqb (bit_at fine k) 1) (of_z w (at left (start + k))) 0)
  dividend below = chosen below (left_lane w load below) (lane_splat below 0)

  divisor : {k : ℕ} (below : k < n) → Lane n (chosen_of w marks (lanes_of w n start right) (replicate n 1)) k (cond (eqb (bit_at fine k) 1) (of_z w (at right (start + k))) 1)
  divisor below = chosen below (right_lane w load below) (lane_splat below 1)

  -- results that are 0 at a lane that is not fine
  pub chosen_put : (op : ℕ) (old : List ℤ) → CanPut w op n start fine left right old → (f : ℕ → ℕ → ℕ)
      → ((x y : ℤ) → SFits w x → SFits w y → fails w op x y ≡ false → to_z w (f (of_z w x) (of_z w y)) ≡ exact op x y)
      → IsPut op n start fine left right old (put_chunk start old (map (to_z w) (chosen_of w marks (zip2 f (lanes_of w n start left) (lanes_of w n start right)) (replicate n 0))))
  chosen_put op old can f value = put_is w op n start fine left right old _ load.some can.room (λ k below. (
    _,
    chosen below (lane_zip below f (left_lane w load below) (right_lane w load below)) (lane_splat below 0),
    chosen_value w (eqb (bit_at fine k) 1) _ (exact op (at left (start + k)) (at right (start + k))) (λ is. value _ _ (load.fit_left k below) (load.fit_right k below) (can.sound k below is)),
  ))

  module _ (one : 1 < 2 ^ hbits w) where
    module _ (old : List ℤ) (can : CanPut w div n start fine left right old) where
      pub quotients_ask : Each2 (λ a b. (0 < b) × SFits w (int_div (to_z w a) (to_z w b))) (chosen_of w marks (lanes_of w n start left) (replicate n 0)) (chosen_of w marks (lanes_of w n start right) (replicate n 1))
      quotients_ask = each_lanes _ n _ _ load.some (λ k below. (
        _,
        _,
        dividend below,
        divisor below,
        quotient_asks w _ _ (load.fit_left k below) (load.fit_right k below) one (eqb (bit_at fine k) 1) (can.sound k below),
      ))

      pub quotients_put : IsPut div n start fine left right old (put_chunk start old (map (to_z w) (zip2 (λ a b. of_z w (int_div (to_z w a) (to_z w b))) (chosen_of w marks (lanes_of w n start left) (replicate n 0)) (chosen_of w marks (lanes_of w n start right) (replicate n 1)))))
      quotients_put = put_is w div n start fine left right old _ load.some can.room (λ k below. (
        _,
        lane_zip below (λ a b. of_z w (int_div (to_z w a) (to_z w b))) (dividend below) (divisor below),
        quotient_value w _ _ (load.fit_left k below) (load.fit_right k below) one (eqb (bit_at fine k) 1) (can.sound k below),
      ))

    turned : {k : ℕ} (below : k < n) → Lane n (turned_of w n (chosen_of w marks (lanes_of w n start right) (replicate n 1))) k (divisor_of w (at left (start + k)) (at right (start + k)) (load.fit_left k below) (load.fit_right k below) one (eqb (bit_at fine k) 1))
    turned below = lane_select below w eqb (divisor below) (lane_splat below (2 ^ bits w - 1)) (lane_splat below 1) (divisor below)

    module _ (old : List ℤ) (can : CanPut w mod_of n start fine left right old) where
      pub remainders_ask : Each2 (λ a b. (0 < b) × SFits w (int_div (to_z w a) (to_z w b))) (chosen_of w marks (lanes_of w n start left) (replicate n 0)) (turned_of w n (chosen_of w marks (lanes_of w n start right) (replicate n 1)))
      remainders_ask = each_lanes _ n _ _ load.some (λ k below. (
        _,
        _,
        dividend below,
        turned below,
        remainder_asks w _ _ (load.fit_left k below) (load.fit_right k below) one (eqb (bit_at fine k) 1) (can.sound k below),
      ))

      pub remainders_put : IsPut mod_of n start fine left right old (put_chunk start old (map (to_z w) (zip2 (λ a b. of_z w (int_rem (to_z w a) (to_z w b))) (chosen_of w marks (lanes_of w n start left) (replicate n 0)) (turned_of w n (chosen_of w marks (lanes_of w n start right) (replicate n 1))))))
      remainders_put = put_is w mod_of n start fine left right old _ load.some can.room (λ k below. (
        _,
        lane_zip below (λ a b. of_z w (int_rem (to_z w a) (to_z w b))) (dividend below) (turned below),
        remainder_value w _ _ (load.fit_left k below) (load.fit_right k below) one (eqb (bit_at fine k) 1) (can.sound k below),
      ))
