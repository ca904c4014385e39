-- Counts of calls and of faults, which never fall.
use Rattle.std.specs.Prelude.{◌≡◌, ◌⊎◌, ℕ, ◌+◌, ◌<◌, ◌==◌, min, Bool, List}
use Rattle.std.specs.List.{list_any}

-- the count is greater than before, or stands at the end of its type
abbrev pub Rose : ℕ → ℕ → Type 0
Rose old new = (old < new) ⊎ (new ≡ 18446744073709551615)

-- the number after a count, which stops at the end of its type
abbrev pub next_count : ℕ → ℕ
next_count count = min (count + 1) 18446744073709551615

-- the call of this number is one of those that fail
abbrev pub is_listed : List ℕ → ℕ → Bool
is_listed failing calls = list_any (λ call. call == calls) failing
