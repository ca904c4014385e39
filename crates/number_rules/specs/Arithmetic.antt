-- Arithmetic on the numbers of a kind, which are those with so many bits beside their sign.
use Rattle.std.specs.Prelude.{ℕ, ℤ, pos, neg_ℤ, ◌+ℤ◌, ◌-ℤ◌, ◌*ℤ◌, int_div, int_rem, unsigned_abs, Bool, true, false, ◌&&◌, Result, Ok, Err, if◌then◌else◌}
use Rattle.std.specs.Ordering.{int_eq}
use Rattle.number_rules.specs.declared.Arithmetic.{Arithmetic}
use Rattle.number_rules.specs.declared.Arithmetic.TheVariants.{Add, Sub, Mul, Div, Mod}
use Rattle.number_rules.specs.declared.NumberFault.{NumberFault}
use Rattle.number_rules.specs.declared.NumberFault.TheVariants.{ByZero, Overflow}
use Rattle.number_rules.specs.Ranges.{fits_bits}

-- the number that an operation gives, which a kind may not hold; quotients round toward zero, and a remainder has the sign of
-- the left number
abbrev pub exact : Arithmetic → ℤ → ℤ → ℤ
exact Add left right = left +ℤ right
exact Sub left right = left -ℤ right
exact Mul left right = left *ℤ right
exact Div left right = int_div left right
exact Mod left right = int_rem left right

abbrev pub divides : Arithmetic → Bool
divides Add = false
divides Sub = false
divides Mul = false
divides Div = true
divides Mod = true

-- a result that the kind holds, or an overflow
abbrev pub within : ℕ → ℤ → Result ℤ NumberFault
within bits number = if fits_bits bits number then Ok number else Err Overflow

-- A zero divisor has no result, nor has an operation whose result lies outside the kind. So the least number divided by -1
-- overflows, and its remainder by -1 is 0.
abbrev pub arithmetic : ℕ → Arithmetic → ℤ → ℤ → Result ℤ NumberFault
arithmetic bits op left right = if divides op && int_eq right (pos 0) then Err ByZero else within bits (exact op left right)

-- the number with the other sign, which for the least one lies outside the kind
abbrev pub negated : ℕ → ℤ → Result ℤ NumberFault
negated bits number = within bits (neg_ℤ number)

-- the number without its sign, which for the least one lies outside the kind
abbrev pub absolute : ℕ → ℤ → Result ℤ NumberFault
absolute bits number = within bits (pos (unsigned_abs number))
