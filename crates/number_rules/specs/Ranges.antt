-- The ranges of numbers.
use Rattle.std.specs.Prelude.{ℕ, ◌^◌, ℤ, pos, negsuc, Bool, IsTrue, nat_lt}

-- a number with a sign and so many bits beside it
abbrev pub fits_bits : ℕ → ℤ → Bool
fits_bits bits (pos n) = nat_lt n (2 ^ bits)
fits_bits bits (negsuc n) = nat_lt n (2 ^ bits)

-- the number is an integer of 32 bits
abbrev pub fits_integer : ℤ → Bool
fits_integer = fits_bits 31

-- the number is a long of 64 bits
abbrev pub fits_long : ℤ → Bool
fits_long = fits_bits 63

abbrev pub IsLong : ℤ → Type 0
IsLong number = IsTrue (fits_long number)

-- the number has 128 bits, as a partial sum has
abbrev pub fits_128 : ℤ → Bool
fits_128 = fits_bits 127
