-- One lane at a time: what a vector's operation leaves in a lane.
use Rattle.std.proofs.Common.{◌≡◌, ℕ, ◌+◌, ◌-◌, ◌%◌, ◌^◌, ◌<◌, ◌≤◌, Bool, false, cond, eqb, ◌&&◌, List, length, get_or, map, replicate, sym, ap, ◌∙◌, subst, arith}
use Rattle.std.proofs.lemmas.List.{get_or-map, length-map, map-id}
use Rattle.std.proofs.lemmas.Simd.{length-zip2, get_or-zip2, length-replicate, get_or-replicate, tops_compared, length-sel_l, get_or-sel_l, mask_l-mod, bit_mask_l, length-chunk, get_or-chunk}
use Rattle.std.specs.Int.{bit_at}
use Rattle.std.specs.Int.RustNames.{bit_and, int_lt}
use Rattle.std.proofs.lemmas.Int.{to_z-of_z}
use Rattle.bit_masks.proofs.Places.{bit_of_and, one_is}
use lib.IntN.{ℤ, pos}
use lib.Lanes.{zip2, sel_l, mask_l, top, chunk}
use mir.Syntax.{Width}
use mir.Val.{bits, hbits, of_z, to_z, SFits}
use Rattle.num_folds.specs.Lanes.{at, Marks}

-- a vector of n lanes whose lane k holds the bits a
pub record Lane (n : ℕ) (lanes : List ℕ) (k a : ℕ) : Type 0 where
  pub long : length lanes ≡ n
  pub is : get_or lanes k 0 ≡ a

module _ {n k : ℕ} (within : k < n) where
  pub lane_of : (w : Width) (xs : List ℤ) → length xs ≡ n → Lane n (map (of_z w) xs) k (of_z w (at xs k))
  lane_of w xs long = record { long = length-map xs (of_z w) ∙ long; is = get_or-map (of_z w) xs k (pos 0) 0 (omega arith) }

  -- a load from a slice
  pub lane_loaded : (w : Width) (xs : List ℤ) (start : ℕ) → start + n ≤ length xs → Lane n (map (of_z w) (chunk start n xs)) k (of_z w (at xs (start + k)))
  lane_loaded w xs start room = record {
    long = length-map (chunk start n xs) (of_z w) ∙ length-chunk start n xs room;
    is = get_or-map (of_z w) (chunk start n xs) k (pos 0) 0 (let e = length-chunk start n xs room in omega arith) ∙ ap (of_z w) (get_or-chunk start n xs k (pos 0) within);
  }

  pub lane_splat : (c : ℕ) → Lane n (replicate n c) k c
  lane_splat c = record { long = length-replicate n c; is = get_or-replicate n k c 0 within }

  pub lane_zip : (f : ℕ → ℕ → ℕ) {xs ys : List ℕ} {a b : ℕ} → Lane n xs k a → Lane n ys k b → Lane n (zip2 f xs ys) k (f a b)
  lane_zip f {xs} {ys} {a} {b} left right = record {
    long = length-zip2 f xs ys (left.long ∙ sym right.long) ∙ left.long;
    is = get_or-zip2 f xs ys k 0 0 0 (let e = left.long in omega arith) (let e = right.long in omega arith) ∙ ap (λ (x : ℕ). f x (get_or ys k 0)) left.is ∙ ap (f a) right.is;
  }

  pub lane_map : (f : ℕ → ℕ) {xs : List ℕ} {a : ℕ} → Lane n xs k a → Lane n (map f xs) k (f a)
  lane_map f {xs} lane = record { long = length-map xs f ∙ lane.long; is = get_or-map f xs k 0 0 (let e = lane.long in omega arith) ∙ ap f lane.is }

  module _ (w : Width) (t : ℕ → ℕ → Bool) {xs ys : List ℕ} {a b : ℕ} (left : Lane n xs k a) (right : Lane n ys k b) where
    tested : get_or (zip2 t xs ys) k false ≡ t a b
    tested = get_or-zip2 t xs ys k 0 0 false (let e = left.long in omega arith) (let e = right.long in omega arith) ∙ ap (λ (x : ℕ). t x (get_or ys k 0)) left.is ∙ ap (t a) right.is

    long_tested : length (zip2 t xs ys) ≡ n
    long_tested = length-zip2 t xs ys (left.long ∙ sym right.long) ∙ left.long

    -- the bit of a comparison's mask
    pub lane_bit : n ≤ 64 → eqb (bit_at (mask_l (map (top (hbits w)) (zip2 (λ x y. cond (t x y) (2 ^ bits w - 1) 0) xs ys)) % 2 ^ 64) k) 1 ≡ t a b
    lane_bit few =
        let long = long_tested in
        ap (λ (ms : List Bool). eqb (bit_at (mask_l ms % 2 ^ 64) k) 1) (tops_compared w t xs ys)
        ∙ ap (λ (m : ℕ). eqb (bit_at m k) 1) (mask_l-mod (zip2 t xs ys) 64 (omega arith))
        ∙ ap (λ (m : ℕ). eqb m 1) (bit_mask_l (zip2 t xs ys) k ∙ ap (λ (b : Bool). cond b 1 0) tested)
        ∙ one_is (t a b)

    -- a choice by a comparison
    pub lane_select : {us vs : List ℕ} {c d : ℕ} → Lane n us k c → Lane n vs k d → Lane n (sel_l (map (top (hbits w)) (zip2 (λ x y. cond (t x y) (2 ^ bits w - 1) 0) xs ys)) us vs) k (cond (t a b) c d)
    lane_select {us} {vs} {c} {d} chosen other =
        subst (λ (ms : List Bool). Lane n (sel_l ms us vs) k (cond (t a b) c d)) (sym (tops_compared w t xs ys)) (
        let long = long_tested in
        let long_chosen = chosen.long in
        let long_other = other.long in
        record {
          long = length-sel_l (zip2 t xs ys) us vs (omega arith) (omega arith) ∙ long;
          is = get_or-sel_l (zip2 t xs ys) us vs k 0 (omega arith) (omega arith) (omega arith)
              ∙ ap (λ (m : Bool). cond m (get_or us k 0) (get_or vs k 0)) tested
              ∙ ap (λ (x : ℕ). cond (t a b) x (get_or vs k 0)) chosen.is
              ∙ ap (cond (t a b) c) other.is;
        })

  -- the number of a lane
  pub lane_at : (w : Width) {xs : List ℕ} {a : ℕ} → Lane n xs k a → at (map (to_z w) xs) k ≡ to_z w a
  lane_at w {xs} lane = get_or-map (to_z w) xs k 0 (pos 0) (let e = lane.long in omega arith) ∙ ap (to_z w) lane.is

pub lane_at_length : {n k : ℕ} {xs : List ℕ} {a : ℕ} (w : Width) → Lane n xs k a → length (map (to_z w) xs) ≡ n
lane_at_length {n} {k} {xs} w lane = length-map xs (to_z w) ∙ lane.long

-- the numbers of two lanes, compared
module _ (w : Width) (x y : ℤ) (fx : SFits w x) (fy : SFits w y) where
  pub lt_is : int_lt (to_z w (of_z w x)) (to_z w (of_z w y)) ≡ int_lt x y
  lt_is = ap (λ (z : ℤ). int_lt z (to_z w (of_z w y))) (to_z-of_z w x fx) ∙ ap (int_lt x) (to_z-of_z w y fy)

-- a number that was read from a column
pub read_at : {A : Type 0} (whole : A → ℤ) (xs : List A) (place : ℕ) (x : A) → place < length xs → x ≡ get_or xs place x → whole x ≡ at (map whole xs) place
read_at whole xs place x within is = ap whole is ∙ sym (get_or-map whole xs place x (pos 0) within)

-- a load's lanes, compared with one number
module _ (w : Width) (n start : ℕ) (few : n ≤ 16) (values : List ℤ) (room : start + n ≤ length values) (fits : (k : ℕ) → k < n → SFits w (at values (start + k))) (bound : ℤ) (bound_fits : SFits w bound) where
  whole_at : (k : ℕ) → at values (start + k) ≡ at (map (λ (x : ℤ). x) values) (start + k)
  whole_at k = ap (λ (xs : List ℤ). at xs (start + k)) (sym (map-id values))

  pub marks_below : Marks n (mask_l (map (top (hbits w)) (zip2 (λ x y. cond (int_lt (to_z w x) (to_z w y)) (2 ^ bits w - 1) 0) (map (of_z w) (chunk start n values)) (replicate n (of_z w bound)))) % 2 ^ 64) (λ k. int_lt (at (map (λ (x : ℤ). x) values) (start + k)) bound)
  marks_below k below =
      lane_bit below w (λ a b. int_lt (to_z w a) (to_z w b)) (lane_loaded below w values start room) (lane_splat below (of_z w bound)) (omega arith)
      ∙ lt_is w (at values (start + k)) bound (fits k below) bound_fits
      ∙ ap (λ (x : ℤ). int_lt x bound) (whole_at k)

  pub marks_above : Marks n (mask_l (map (top (hbits w)) (zip2 (λ x y. cond (int_lt (to_z w x) (to_z w y)) (2 ^ bits w - 1) 0) (replicate n (of_z w bound)) (map (of_z w) (chunk start n values)))) % 2 ^ 64) (λ k. int_lt bound (at (map (λ (x : ℤ). x) values) (start + k)))
  marks_above k below =
      lane_bit below w (λ a b. int_lt (to_z w a) (to_z w b)) (lane_splat below (of_z w bound)) (lane_loaded below w values start room) (omega arith)
      ∙ lt_is w bound (at values (start + k)) bound_fits (fits k below)
      ∙ ap (int_lt bound) (whole_at k)

-- the bits of two masks that are put together
module _ {p q : Bool} (a b k : ℕ) (left : eqb (bit_at a k) 1 ≡ p) (right : eqb (bit_at b k) 1 ≡ q) where
  pub and_bits : eqb (bit_at (bit_and a b) k) 1 ≡ (p && q)
  and_bits = bit_of_and a b k ∙ ap (λ (x : Bool). x && eqb (bit_at b k) 1) left ∙ ap (λ (x : Bool). p && x) right

pub length-lanes : (w : Width) (n : ℕ) (xs : List ℕ) → length xs ≡ n → length (map (to_z w) xs) ≡ n
length-lanes w n xs long = length-map xs (to_z w) ∙ long
