-- One more row.
use Rattle.std.proofs.Common.{◌≡◌, ℕ, suc, ◌+◌, ◌-◌, ◌<◌, List, [], ◌∷◌, ◌++◌, ap, sym, ◌∙◌, append_assoc, arith}
use Rattle.std.proofs.lemmas.List.{append-nil}
use Rattle.esql_types.specs.declared.value.Value.{Value}
use Rattle.table_generator.specs.Rows.{next_number, taken_of, cells_of, rows_behind, generated_rows}

one_less : (rows before : ℕ) → before < rows → rows - before ≡ suc (rows - (before + 1))
one_less rows before less = omega (arith, less)

pub row_made : (made whole : List (List (List Value))) (rows before number : ℕ) → before < rows → made ++ rows_behind (rows - before) before (next_number number) ≡ whole
    → (made ++ cells_of (before + 1) (taken_of (next_number number)) ∷ []) ++ rows_behind (rows - (before + 1)) (before + 1) (next_number (next_number number)) ≡ whole
row_made made whole rows before number less is =
    append_assoc made (cells_of (before + 1) (taken_of (next_number number)) ∷ []) (rows_behind (rows - (before + 1)) (before + 1) (next_number (next_number number)))
    ∙ ap (λ (more : ℕ). made ++ rows_behind more before (next_number number)) (sym (one_less rows before less))
    ∙ is

pub all_made : (made whole : List (List (List Value))) (rows before number : ℕ) → rows - before ≡ 0 → made ++ rows_behind (rows - before) before (next_number number) ≡ whole → made ≡ whole
all_made made whole rows before number none is =
    sym (append-nil made) ∙ ap (λ (more : ℕ). made ++ rows_behind more before (next_number number)) (sym none) ∙ is

-- the same by what the calls of one turn answer
pub turn : (made new whole : List (List (List Value))) (cells : List (List Value)) (rows before number next taken : ℕ)
    → new ≡ made ++ cells ∷ [] → cells ≡ cells_of (before + 1) taken → taken ≡ taken_of next → next ≡ next_number number → before < rows
    → made ++ rows_behind (rows - before) before (next_number number) ≡ whole
    → new ++ rows_behind (rows - (before + 1)) (before + 1) (next_number next) ≡ whole
turn made new whole cells rows before number next taken pushed cells_are taken_is next_is less is =
    let row = cells_are ∙ (λ i. cells_of (before + 1) ((taken_is ∙ ap taken_of next_is) i)) in
    (λ i. (pushed ∙ ap (λ (one : List (List Value)). made ++ one ∷ []) row) i ++ rows_behind (rows - (before + 1)) (before + 1) (next_number (next_is i)))
    ∙ row_made made whole rows before number less is
