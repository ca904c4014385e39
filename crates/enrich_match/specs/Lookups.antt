-- What a lookup is seen as.
use Rattle.std.specs.Prelude.{ℕ, List, ◌++◌, ◌∷◌, [], refl}
use Rattle.std.specs.Coded.{Coded, code_by, coded×, coded_list}
use Rattle.esql_types.specs.declared.value.Value.{Value}
use Rattle.esql_types.specs.contracts.value.Value as value
use Rattle.enrich_match.specs.Matches.{MatchRow}

-- how many fields each row has, and the rows that were added, in order
pub record Matching : Type 0 where
  pub fields : ℕ
  pub rows : List MatchRow

abbrev pub match_row : List Value → List (List Value) → MatchRow
match_row key fields = record { key = key; fields = fields }

-- with one more row
abbrev pub with_match_row : MatchRow → Matching → Matching
with_match_row row matching = record { fields = matching.fields; rows = matching.rows ++ row ∷ [] }

-- How lists of such rows are stored ------------------------------------------------------------------------------------------

abbrev cell_code : Coded (List Value)
cell_code = coded_list value.the_row.coded

abbrev row_code : Coded MatchRow
row_code = code_by (List Value × List (List Value)) (coded× cell_code (coded_list cell_code)) (λ row. (row.key, row.fields)) (λ cells. match_row cells.0 cells.1) (λ _. refl)

abbrev pub rows_code : Coded (List MatchRow)
rows_code = coded_list row_code
