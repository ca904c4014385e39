-- The steps of the kernels' loops.
use Rattle.std.proofs.Common.{◌≡◌, ◌≢◌, ℕ, ◌+◌, ◌-◌, ◌*◌, ◌%◌, ◌^◌, ◌<◌, ◌≤◌, ⊎_elim, Bool, true, false, cond, eqb, not, ◌&&◌, List, length, get_or, set, take, drop, refl, sym, ap, ◌∙◌, subst, arith, bit_and, bit_or, w64}
use Rattle.std.proofs.lemmas.Bool.{cases_eq, cases_lt, false≢true}
use Rattle.std.proofs.lemmas.List.{get_or-set_same, get_or-set_other}
use Rattle.std.proofs.lemmas.Nat.Bits.{bit_at_set_same, bit_at_set_other}
use Rattle.std.specs.Int.{bit_at, bit_not}
use lib.IntN.{ℤ}
use lib.Lanes.{mask_l}
use Rattle.num_folds.specs.Lanes.{set_at, Marks}
use Rattle.num_folds.proofs.Steps.{part_short, both_bits}
use Rattle.num_kernels.proofs.Bits.{not_bits}

-- a loop that writes one place after another
module _ {X : Type 0} (d : X) (P : ℕ → X) (xs : List X) (start place : ℕ) (value : X) where
  pub set_done : place < length xs → value ≡ P place → ((k : ℕ) → start ≤ k → k < place → get_or xs k d ≡ P k) → (k : ℕ) → start ≤ k → k < place + 1 → get_or (set xs place value) k d ≡ P k
  set_done within is done k from below = ⊎_elim
      (λ (here : k ≡ place). ap (λ (i : ℕ). get_or (set xs place value) i d) here ∙ get_or-set_same xs place value d within ∙ is ∙ ap P (sym here))
      (λ (other : k ≢ place). get_or-set_other xs place k value d other ∙ done k from (omega arith))
      (cases_eq k place)

  pub set_kept : start ≤ place → (k : ℕ) → k < start → get_or (set xs place value) k d ≡ get_or xs k d
  set_kept from k below = get_or-set_other xs place k value d (λ e. omega arith)

-- a loop that writes n places at a time
module _ {X : Type 0} (d : X) (P : ℕ → X) (old new : List X) (start n : ℕ) where
  pub lanes_done : ((k : ℕ) → k < n → get_or new (start + k) d ≡ P (start + k)) → ((k : ℕ) → k < start → get_or new k d ≡ get_or old k d) → ((k : ℕ) → k < start → get_or old k d ≡ P k) → (k : ℕ) → k < start + n → get_or new k d ≡ P k
  lanes_done inside before done k below = ⊎_elim
      (λ (earlier : k < start). before k earlier ∙ done k earlier)
      (λ (from : start ≤ k). subst (λ (i : ℕ). get_or new i d ≡ P i) (let e : start + (k - start) ≡ k = omega arith in e) (inside (k - start) (omega arith)))
      (cases_lt k start)

-- the bits of a mask's part, by a test that was made of its places
module _ (valid : List Bool) (start n bits : ℕ) (part : bits ≡ mask_l (take n (drop start valid))) where
  pub bits_short : start + n ≤ length valid → (other : ℕ) → bit_and bits other < 2 ^ n
  bits_short room other = subst (λ (b : ℕ). bit_and b other < 2 ^ n) (sym part) (part_short valid start n room other)

  module _ (tests : ℕ) (p : ℕ → Bool) (marked : Marks n tests p) (k : ℕ) (below : k < n) where
    pub bit_where : eqb (bit_at (bit_and bits tests) k) 1 ≡ (set_at valid (start + k) && p k)
    bit_where = ap (λ (b : ℕ). eqb (bit_at (bit_and b tests) k) 1) part ∙ both_bits valid start n tests p marked k below

    pub bit_where_not : n ≤ 16 → tests < 2 ^ 64 → eqb (bit_at (bit_and bits (bit_not w64 tests)) k) 1 ≡ (set_at valid (start + k) && not (p k))
    bit_where_not few fits = ap (λ (b : ℕ). eqb (bit_at (bit_and b (bit_not w64 tests)) k) 1) part
        ∙ both_bits valid start n (bit_not w64 tests) (λ j. not (p j)) (not_bits n tests p few fits marked) k below

-- a result by a flag and two numbers
pub by_all : {A : Type 0} (f : Bool → ℤ → ℤ → A) {b c : Bool} {x y u v : ℤ} → b ≡ c → x ≡ u → y ≡ v → f b x y ≡ f c u v
by_all f {b} {c} {x} {y} {u} p q r = ap (λ (t : Bool). f t x y) p ∙ ap (λ (z : ℤ). f c z y) q ∙ ap (f c u) r

-- a place that is valid and does not fail
pub fine_is_sound : (valid failing : Bool) → (valid && not failing) ≡ true → failing ≡ false
fine_is_sound true false e = refl
fine_is_sound true true e = sym e
fine_is_sound false failing e = absurd (false≢true e)

-- a loop that sets a bit where a test is true
module _ (P : ℕ → Bool) (bits k : ℕ) (short : k < 64) (done : (j : ℕ) → j < k → eqb (bit_at bits j) 1 ≡ P j) (ahead : (j : ℕ) → k ≤ j → bit_at bits j ≡ 0) where
  pub mark_done : (t : Bool) → t ≡ P k → (j : ℕ) → j < k + 1 → eqb (bit_at (cond t (bit_or bits (1 * 2 ^ k % 2 ^ 64)) bits) j) 1 ≡ P j
  mark_done true is j below = ⊎_elim
      (λ (here : j ≡ k). ap (λ (i : ℕ). eqb (bit_at (bit_or bits (1 * 2 ^ k % 2 ^ 64)) i) 1) here ∙ ap (λ (b : ℕ). eqb b 1) (bit_at_set_same w64 bits k short) ∙ is ∙ ap P (sym here))
      (λ (other : j ≢ k). ap (λ (b : ℕ). eqb b 1) (bit_at_set_other w64 bits k short j other) ∙ done j (omega arith))
      (cases_eq j k)
  mark_done false is j below = ⊎_elim
      (λ (here : j ≡ k). ap (λ (b : ℕ). eqb b 1) (ahead j (omega arith)) ∙ is ∙ ap P (sym here))
      (λ (other : j ≢ k). done j (omega arith))
      (cases_eq j k)

  pub mark_ahead : (t : Bool) → (j : ℕ) → k + 1 ≤ j → bit_at (cond t (bit_or bits (1 * 2 ^ k % 2 ^ 64)) bits) j ≡ 0
  mark_ahead true j past = bit_at_set_other w64 bits k short j (λ e. omega arith) ∙ ahead j (omega arith)
  mark_ahead false j past = ahead j (omega arith)
