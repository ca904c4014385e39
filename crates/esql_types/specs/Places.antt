-- Lines and columns of a text.
use Rattle.std.specs.Prelude.{ℕ, ◌+◌, ◌==◌, not, List, take, count_by}
use Rattle.std.specs.List.{suffix_len}
use Rattle.std.specs.Str.{chars}

-- 1 plus the line feeds before the offset
abbrev pub line_at : List ℕ → ℕ → ℕ
line_at text at = 1 + count_by (λ c. c == 10) (chars (take at text))

-- 1 plus the characters since the last line feed before the offset
abbrev pub column_at : List ℕ → ℕ → ℕ
column_at text at = 1 + suffix_len (λ c. not (c == 10)) (chars (take at text))
