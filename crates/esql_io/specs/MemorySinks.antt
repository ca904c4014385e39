-- What a sink in memory is, and how it answers a write.
use Rattle.std.specs.Prelude.{ℕ, ◌-◌, ◌||◌, Bool, List, length, min, nat_le}
use Rattle.esql_types.specs.Counts.{is_listed}

-- The bytes that were taken, the most bytes that are taken at all and in one write, the numbers of the writes that
-- fail, how many writes were tried, and how many failed.
pub record MemorySinkState : Type 0 where
  pub taken : List ℕ
  pub room : ℕ
  pub piece : ℕ
  pub failing : List ℕ
  pub calls : ℕ
  pub faults : ℕ

-- the next write fails: its number is one that fails, or there is no room
abbrev pub is_failing : MemorySinkState → Bool
is_failing sink = is_listed sink.failing sink.calls || nat_le sink.room (length sink.taken)

-- how many of so many bytes the next write takes, where it does not fail
abbrev pub taken_of : MemorySinkState → ℕ → ℕ
taken_of sink count = min count (min sink.piece (sink.room - length sink.taken))
