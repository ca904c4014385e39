-- Rows of cells as rows of numbered columns.
use Rattle.std.proofs.Common.{◌≡◌, ℕ, zero, suc, ◌<◌, ◌==◌, Bool, true, false, List, [], ◌∷◌, length, get_or, set, replicate, map, refl, ap, ◌∙◌, arith}
use Rattle.std.specs.Prelude.{if◌then◌else◌}
use Rattle.std.proofs.lemmas.Bool.Decides.{nat_tests}
use Rattle.std.proofs.lemmas.List.{get_or-set_same, get_or-set_other}
use Rattle.esql_types.specs.declared.value.Value.{Value}
use Rattle.esql_scalar.specs.Rows.{row_of}
use Rattle.plan_semantics.specs.Tables.{empty_row, with_cell}
use Rattle.stats_groups.specs.Cells.{put_cell}

null_everywhere : (columns id : ℕ) → get_or (replicate {A = List Value} columns []) id [] ≡ []
null_everywhere zero id = refl
null_everywhere (suc columns) zero = refl
null_everywhere (suc columns) (suc id) = null_everywhere columns id

-- a row of nulls
pub row_of-nulls : (columns : ℕ) → row_of (replicate columns []) ≡ empty_row
row_of-nulls columns = λ i id. null_everywhere columns id i

cell_at : (cells : List (List Value)) (id : ℕ) (cell : List Value) (other : ℕ) → id < length cells
    → get_or (set cells id cell) other [] ≡ (if other == id then cell else get_or cells other [])
cell_at cells id cell other within = by_case (other == id) refl where
  by_case : (b : Bool) → other == id ≡ b → get_or (set cells id cell) other [] ≡ (if b then cell else get_or cells other [])
  by_case true is =
      let same : other ≡ id = grind (arith, nat_tests, is) in
      rw same (get_or-set_same cells id cell [] within)
  by_case false is = get_or-set_other cells id other cell [] (λ same. grind (arith, nat_tests, is, same))

-- a row with another cell at a place that it has
pub row_of-set : (cells : List (List Value)) (id : ℕ) (cell : List Value) → id < length cells → row_of (set cells id cell) ≡ with_cell (row_of cells) id cell
row_of-set cells id cell within = λ i other. cell_at cells id cell other within i

put_here : (cells : List (List Value)) (id : ℕ) (cell : List Value) → get_or (put_cell cells id cell) id [] ≡ cell
put_here [] zero cell = refl
put_here [] (suc id) cell = put_here [] id cell
put_here (first ∷ cells) zero cell = refl
put_here (first ∷ cells) (suc id) cell = put_here cells id cell

put_elsewhere : (cells : List (List Value)) (id : ℕ) (cell : List Value) (other : ℕ) → (other ≡ id → ⊥) → get_or (put_cell cells id cell) other [] ≡ get_or cells other []
put_elsewhere [] zero cell zero apart = absurd (apart refl)
put_elsewhere [] zero cell (suc other) apart = refl
put_elsewhere [] (suc id) cell zero apart = refl
put_elsewhere [] (suc id) cell (suc other) apart = put_elsewhere [] id cell other (λ same. apart (ap suc same))
put_elsewhere (first ∷ cells) zero cell zero apart = absurd (apart refl)
put_elsewhere (first ∷ cells) zero cell (suc other) apart = refl
put_elsewhere (first ∷ cells) (suc id) cell zero apart = refl
put_elsewhere (first ∷ cells) (suc id) cell (suc other) apart = put_elsewhere cells id cell other (λ same. apart (ap suc same))

cell_put : (cells : List (List Value)) (id : ℕ) (cell : List Value) (other : ℕ) → get_or (put_cell cells id cell) other [] ≡ (if other == id then cell else get_or cells other [])
cell_put cells id cell other = by_case (other == id) refl where
  by_case : (b : Bool) → other == id ≡ b → get_or (put_cell cells id cell) other [] ≡ (if b then cell else get_or cells other [])
  by_case true is =
      let same : other ≡ id = grind (arith, nat_tests, is) in
      rw same (put_here cells id cell)
  by_case false is = put_elsewhere cells id cell other (λ same. grind (arith, nat_tests, is, same))

-- a row with a cell at a place
pub row_of-put : (cells : List (List Value)) (id : ℕ) (cell : List Value) → row_of (put_cell cells id cell) ≡ with_cell (row_of cells) id cell
row_of-put cells id cell = λ i other. cell_put cells id cell other i
