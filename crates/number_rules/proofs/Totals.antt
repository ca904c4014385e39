-- Sums that a kind holds are the plain sums.
use Rattle.std.proofs.Common.{◌≡◌, ℕ, ◌+◌, ◌*◌, ◌^◌, ◌<◌, ℤ, pos, negsuc, neg_ℤ, ◌+ℤ◌, ◌≤ℤ◌, Bool, true, false, cond, List, [], ◌∷◌, length, Option, Some, None, refl, ap, arith}
use Rattle.std.proofs.lemmas.Int.{ints}
use Rattle.std.proofs.lemmas.List.Elements.{All-head, All-tail}
use Rattle.std.proofs.lemmas.Bool.Decides.{nat_tests}
use Rattle.std.specs.List.{All, fold}
use Rattle.number_rules.specs.Ranges.{fits_bits, fits_128, IsLong}
use Rattle.number_rules.specs.Sums.{plus_128, sum_in, sum_within, total_of}

none_stays : (numbers : List ℤ) → fold plus_128 None numbers ≡ None
none_stays [] = refl
none_stays (number ∷ numbers) = none_stays numbers

-- one number on: the partial sum fits, or there is no sum
from_next : (next : ℤ) (numbers : List ℤ) (total : ℤ) → (fold plus_128 (Some next) numbers ≡ Some total → total ≡ fold ◌+ℤ◌ next numbers) → (fits : Bool) → fold plus_128 (cond fits (Some next) None) numbers ≡ Some total → total ≡ fold ◌+ℤ◌ next numbers
from_next next numbers total rest true e = rest e
from_next next numbers total rest false e = cc (none_stays numbers)

plain_from : (start : ℤ) (numbers : List ℤ) (total : ℤ) → fold plus_128 (Some start) numbers ≡ Some total → total ≡ fold ◌+ℤ◌ start numbers
plain_from start [] total e = cc
plain_from start (number ∷ numbers) total e =
    from_next (start +ℤ number) numbers total (plain_from (start +ℤ number) numbers total) (fits_128 (start +ℤ number)) e

if_fits : (fits : Bool) (sum total : ℤ) → cond fits (Some sum) None ≡ Some total → sum ≡ total
if_fits true sum total e = cc
if_fits false sum total e = cc

held : (bits : ℕ) (sum : Option ℤ) (total : ℤ) → sum_in bits sum ≡ Some total → sum ≡ Some total
held bits None total e = cc
held bits (Some sum) total e = cc (if_fits (fits_bits bits sum) sum total e)

pub plain_sum : (bits : ℕ) (numbers : List ℤ) (total : ℤ) → sum_within bits numbers ≡ Some total → total ≡ fold ◌+ℤ◌ (pos 0) numbers
plain_sum bits numbers total e = plain_from (pos 0) numbers total (held bits (total_of numbers) total e)

-- a sum of so many longs
record IsSumOf (count : ℕ) (sum : ℤ) : Type 0 where
  above : neg_ℤ (pos (count * 2 ^ 63)) ≤ℤ sum
  below : sum ≤ℤ pos (count * 2 ^ 63)

fits_128-sum : (count : ℕ) (sum : ℤ) → count < 2 ^ 64 → IsSumOf count sum → fits_128 sum ≡ true
fits_128-sum count (pos n) few h = let small : n < 2 ^ 127 = omega (arith, ints) in grind (arith, nat_tests)
fits_128-sum count (negsuc n) few h = let small : n < 2 ^ 127 = omega (arith, ints) in grind (arith, nat_tests)

IsSumOf-one : (number : ℤ) → IsLong number → IsSumOf 1 number
IsSumOf-one (pos n) h = let small : n < 2 ^ 63 = grind (arith, nat_tests) in record { above = omega (arith, ints); below = omega (arith, ints) }
IsSumOf-one (negsuc n) h = let small : n < 2 ^ 63 = grind (arith, nat_tests) in record { above = omega (arith, ints); below = omega (arith, ints) }

IsSumOf-next : (count : ℕ) (sum number : ℤ) → IsSumOf count sum → IsSumOf 1 number → IsSumOf (count + 1) (sum +ℤ number)
IsSumOf-next count sum number h one = record { above = omega (arith, ints); below = omega (arith, ints) }

longs_from : (count : ℕ) (sum : ℤ) (numbers : List ℤ) → IsSumOf count sum → All IsLong numbers → count + length numbers < 2 ^ 64 → fold plus_128 (Some sum) numbers ≡ Some (fold ◌+ℤ◌ sum numbers)
longs_from count sum [] h fit few = refl
longs_from count sum (number ∷ numbers) h fit few =
    let next = IsSumOf-next count sum number h (IsSumOf-one number (All-head IsLong number numbers fit)) in
    let fits = fits_128-sum (count + 1) (sum +ℤ number) (omega arith) next in
    rw fits (longs_from (count + 1) (sum +ℤ number) numbers next (All-tail IsLong number numbers fit) (omega arith))

pub sum_of_longs : (bits : ℕ) (numbers : List ℤ) → All IsLong numbers → length numbers < 2 ^ 64 → sum_within bits numbers ≡ sum_in bits (Some (fold ◌+ℤ◌ (pos 0) numbers))
sum_of_longs bits numbers fit few =
    ap (sum_in bits) (longs_from 0 (pos 0) numbers (record { above = omega (arith, ints); below = omega (arith, ints) }) fit (omega arith))
