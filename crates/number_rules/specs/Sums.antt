-- Sums, which go through 128 bits in order.
use Rattle.std.specs.Prelude.{ℕ, ℤ, pos, ◌+ℤ◌, List, Option, Some, None, if◌then◌else◌}
use Rattle.std.specs.List.{fold}
use Rattle.number_rules.specs.Ranges.{fits_bits, fits_128}

-- one more number on a partial sum; where a partial sum leaves 128 bits there is none any more
abbrev pub plus_128 : Option ℤ → ℤ → Option ℤ
plus_128 None number = None
plus_128 (Some total) number = if fits_128 (total +ℤ number) then Some (total +ℤ number) else None

-- the sum of numbers in order, where no partial sum leaves 128 bits
abbrev pub total_of : List ℤ → Option ℤ
total_of = fold plus_128 (Some (pos 0))

-- a sum that a kind holds, which has so many bits beside the sign
abbrev pub sum_in : ℕ → Option ℤ → Option ℤ
sum_in bits None = None
sum_in bits (Some total) = if fits_bits bits total then Some total else None

-- the sum of numbers in a kind, where no partial sum leaves 128 bits and the whole stays in the kind
abbrev pub sum_within : ℕ → List ℤ → Option ℤ
sum_within bits numbers = sum_in bits (total_of numbers)
