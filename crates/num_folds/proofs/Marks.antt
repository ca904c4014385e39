-- Marked lanes: the lane that a bit makes, and what a choice by marks leaves.
use Rattle.std.proofs.Common.{◌≡◌, ℕ, zero, suc, ◌-◌, ◌*◌, ◌^◌, ◌<◌, Bool, true, false, cond, eqb, not, List, length, get_or, map, refl, ap, ◌∙◌, arith, bit_and}
use Rattle.std.proofs.lemmas.List.{get_or-map, length-map}
use Rattle.std.proofs.lemmas.Nat.{pow_pos}
use Rattle.std.proofs.lemmas.Nat.Bits.{and_pow, bit_at-lt}
use Rattle.std.proofs.lemmas.Int.{to_z_pos, to_z-of_z}
use Rattle.std.proofs.lemmas.Simd.{length-sel_l, get_or-sel_l}
use Rattle.std.proofs.lemmas.Bool.{le-leb, lt-leb, ne_eqb}
use Rattle.std.specs.Int.{bit_at}
use lib.IntN.{ℤ, pos, negsuc}
use lib.Lanes.{sel_l, top}
use mir.Syntax.{Width}
use mir.Val.{bits, hbits, of_z, to_z}
use mir.ValLaws.{pow-bits}
use Rattle.num_folds.specs.Lanes.{at}
use Rattle.num_folds.proofs.Lanes.{Lane}

top_of_mark : (w : Width) (b : Bool) → top (hbits w) (of_z w (cond b (negsuc 0) (pos 0))) ≡ b
top_of_mark w true = le-leb (2 ^ hbits w) (2 ^ bits w - 1) (omega (arith, pow-bits w, pow_pos (hbits w)))
top_of_mark w false = lt-leb (2 ^ hbits w) 0 (pow_pos (hbits w))

-- a choice by marked lanes
pub lane_pick : {n k : ℕ} → k < n → (w : Width) (marks : List ℤ) (b : Bool) {us vs : List ℕ} {c d : ℕ} → length marks ≡ n → at marks k ≡ cond b (negsuc 0) (pos 0) → Lane n us k c → Lane n vs k d
    → Lane n (sel_l (map (top (hbits w)) (map (of_z w) marks)) us vs) k (cond b c d)
lane_pick {n} {k} below w marks b {us} {vs} {c} {d} long marked chosen other =
    let long_chosen = chosen.long in
    let long_other = other.long in
    let long_bits = length-map marks (of_z w) in
    let tops = map (top (hbits w)) (map (of_z w) marks) in
    let long_tops : length tops ≡ n = length-map (map (of_z w) marks) (top (hbits w)) ∙ long_bits ∙ long in
    let is : get_or tops k false ≡ b =
    get_or-map (top (hbits w)) (map (of_z w) marks) k 0 false (omega arith)
    ∙ ap (top (hbits w)) (get_or-map (of_z w) marks k (pos 0) 0 (omega arith) ∙ ap (of_z w) marked)
    ∙ top_of_mark w b in
    record {
      long = length-sel_l tops us vs (omega arith) (omega arith) ∙ long_tops;
      is = get_or-sel_l tops us vs k 0 (omega arith) (omega arith) (omega arith)
          ∙ ap (λ (m : Bool). cond m (get_or us k 0) (get_or vs k 0)) is
          ∙ ap (λ (x : ℕ). cond b x (get_or vs k 0)) chosen.is
          ∙ ap (cond b c) other.is;
    }

all_ones : (w : Width) → to_z w (2 ^ bits w - 1) ≡ negsuc 0
all_ones w = to_z-of_z w (negsuc 0) (record { sfits = pow_pos (hbits w) })

by_bit : (w : Width) (b k : ℕ) → b < 2 → to_z w (cond (not (eqb (b * 2 ^ k) 0)) (2 ^ bits w - 1) 0) ≡ cond (eqb b 1) (negsuc 0) (pos 0)
by_bit w zero k small = ap (λ (m : ℕ). to_z w (cond (not (eqb m 0)) (2 ^ bits w - 1) 0)) (let none : 0 * 2 ^ k ≡ 0 = omega arith in none) ∙ to_z_pos w 0 (pow_pos (hbits w))
by_bit w (suc zero) k small =
    ap (λ (m : Bool). to_z w (cond (not m) (2 ^ bits w - 1) 0)) (ne_eqb (1 * 2 ^ k) 0 (λ e. absurd (let p = pow_pos k in omega arith)))
    ∙ all_ones w
by_bit w (suc (suc b)) k small = absurd (omega arith)

-- the lane that a mark's bit makes
pub mark_value : (w : Width) (word k : ℕ) → to_z w (cond (not (eqb (bit_and word (2 ^ k)) 0)) (2 ^ bits w - 1) 0) ≡ cond (eqb (bit_at word k) 1) (negsuc 0) (pos 0)
mark_value w word k = ap (λ (m : ℕ). to_z w (cond (not (eqb m 0)) (2 ^ bits w - 1) 0)) (and_pow word k) ∙ by_bit w (bit_at word k) k (bit_at-lt word k)

-- a result that is 0 where its bit is not 1
pub chosen_value : (w : Width) (b : Bool) (a : ℕ) (v : ℤ) → (b ≡ true → to_z w a ≡ v) → to_z w (cond b a 0) ≡ cond b v (pos 0)
chosen_value w true a v is = is refl
chosen_value w false a v is = to_z_pos w 0 (pow_pos (hbits w))
