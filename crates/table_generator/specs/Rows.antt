-- The rows of the table that is made from a seed.
use Rattle.std.specs.Prelude.{ℕ, zero, suc, ◌+◌, ◌*◌, ◌/◌, ◌%◌, pos, List, [], ◌∷◌}
use Rattle.esql_types.specs.declared.value.Value.{Value}
use Rattle.esql_types.specs.declared.value.Value.TheVariants.{Int, Long, Text}

-- a number of 64 bits from the one before it
abbrev pub next_number : ℕ → ℕ
next_number number = (number * 6364136223846793005 + 1442695040888963407) % 18446744073709551616

-- what is taken of a number: its upper 31 bits
abbrev pub taken_of : ℕ → ℕ
taken_of number = number / 8589934592

-- the letter d, and the digit of the remainder by 7
abbrev pub department_of : ℕ → List ℕ
department_of taken = 100 ∷ (48 + taken % 7) ∷ []

-- the cells of dept, id and pay
abbrev pub cells_of : ℕ → ℕ → List (List Value)
cells_of id taken = (Text (department_of taken) ∷ []) ∷ (Long (pos id) ∷ []) ∷ (Int (pos (taken % 100000)) ∷ []) ∷ []

-- so many rows behind those before, on from the number that comes next
abbrev pub rows_behind : ℕ → ℕ → ℕ → List (List (List Value))
rows_behind zero before number = []
rows_behind (suc more) before number = cells_of (before + 1) (taken_of number) ∷ rows_behind more (before + 1) (next_number number)

-- The rows have the numbers on from 1. The number that tells a row comes from that of the row before, that of the first from the seed.
abbrev pub generated_rows : ℕ → ℕ → List (List (List Value))
generated_rows seed rows = rows_behind rows 0 (next_number seed)
