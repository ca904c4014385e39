-- The numbers that texts spell.
use Rattle.std.specs.Prelude.{ℕ, ◌&&◌, ℤ, Bool, nat_lt, List, length, Option, Some, None, if◌then◌else◌}
use Rattle.std.specs.Str.{all_ascii_digits}
use Rattle.std.specs.Str.Parse.{without_leading_sign, signed_digits_value}
use Rattle.number_rules.specs.Ranges.{fits_integer, fits_long}

-- a text spells a number where it is an optional sign and one ASCII digit or more
abbrev pub is_spelled : List ℕ → Bool
is_spelled text = nat_lt 0 (length (without_leading_sign text)) && all_ascii_digits (without_leading_sign text)

-- the integer that a text spells
abbrev pub spelled_integer : List ℕ → Option ℤ
spelled_integer text = if is_spelled text && fits_integer (signed_digits_value 10 text) then Some (signed_digits_value 10 text) else None

-- the long that a text spells
abbrev pub spelled_long : List ℕ → Option ℤ
spelled_long text = if is_spelled text && fits_long (signed_digits_value 10 text) then Some (signed_digits_value 10 text) else None
