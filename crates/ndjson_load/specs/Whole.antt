-- Reading a file in pieces.
use Rattle.std.specs.Prelude.{◌≡◌, ℕ, ◌≤◌, ◌<◌, List, [], length}

-- so many of the bytes that are left were read: none of a piece that is not empty exactly where nothing is left
pub record IsNext (left : List ℕ) (count size : ℕ) : Type 0 where
  pub within : count ≤ length left
  pub some : 0 < size → count ≡ 0 → left ≡ []
