-- The query that is answered over the table that is made, and the line behind its answer.
use Rattle.std.specs.Prelude.{ℕ, List, ◌++◌, codes, decimal}

abbrev pub generated_query : List ℕ
generated_query = codes "FROM gen | WHERE pay >= 1000 | STATS n = COUNT(*), total = SUM(pay), top = MAX(pay) BY dept | SORT dept"

-- both as decimal numbers
abbrev pub generated_line : ℕ → ℕ → List ℕ
generated_line seed rows = codes "generated " ++ decimal rows ++ codes " rows from " ++ decimal seed ++ codes "\n"
