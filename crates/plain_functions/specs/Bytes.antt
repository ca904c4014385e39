-- The bytes of a text.
use Rattle.std.specs.Prelude.{ℕ, Bool, ◌||◌, nat_lt, nat_le}

-- a character begins with this byte: each other byte of it is one from 128 to 191
abbrev pub begins_character : ℕ → Bool
begins_character byte = nat_lt byte 0x80 || nat_le 0xc0 byte
