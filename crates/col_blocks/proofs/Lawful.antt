-- The laws of blocks and pages.
use Rattle.std.proofs.Common.{◌≡◌, ℕ, zero, suc, ◌+◌, ◌-◌, ◌<◌, ◌≤◌, Bool, true, false, List, [], ◌∷◌, length, take, drop, replicate, refl, sym, ap, ◌∙◌, arith}
use Rattle.std.proofs.Math.Path.{fun_ext}
use Rattle.std.proofs.lemmas.List.{drop-drop, drop-take, take-take}
use Rattle.esql_types.specs.declared.value.Value.{Value}
use Rattle.col_blocks.specs.Kept.{kept_by, scattered}
use Rattle.col_blocks.specs.Pages.{Columns, first_cell, later_cells, rows_by}
use Rattle.col_blocks.proofs.Keeps.{set_count, count-cons, kept_none}

pub all_kept : (cells : List (List Value)) → kept_by (replicate (length cells) true) cells ≡ cells
all_kept [] = refl
all_kept (cell ∷ cells) = ap (λ rest. cell ∷ rest) (all_kept cells)

pub scattered_kept : (places : List Bool) (cells : List (List Value)) → set_count places ≡ length cells → kept_by places (scattered places cells) ≡ cells
scattered_kept [] [] many = refl
scattered_kept [] (cell ∷ cells) many = let none : set_count [] ≡ 0 = refl in absurd (omega arith)
scattered_kept (false ∷ places) cells many = scattered_kept places cells (omega (arith, count-cons false places))
scattered_kept (true ∷ places) [] many = absurd (omega (arith, count-cons true places))
scattered_kept (true ∷ places) (cell ∷ cells) many = ap (λ rest. cell ∷ rest) (scattered_kept places cells (omega (arith, count-cons true places)))

pub scattered_fills : (places : List Bool) (cells : List (List Value)) → length (scattered places cells) ≡ length places
scattered_fills [] cells = refl
scattered_fills (false ∷ places) cells = ap suc (scattered_fills places cells)
scattered_fills (true ∷ places) [] = ap suc (scattered_fills places [])
scattered_fills (true ∷ places) (cell ∷ cells) = ap suc (scattered_fills places cells)

pub sliced_twice : (cells : List (List Value)) (start len from count : ℕ) → from + count ≤ len → take count (drop from (take len (drop start cells))) ≡ take count (drop (start + from) cells)
sliced_twice cells start len from count within =
    let all : len ≡ from + (len - from) = omega arith in
    ap (λ (n : ℕ). take count (drop from (take n (drop start cells)))) all
    ∙ ap (take count) (drop-take from (len - from) (drop start cells))
    ∙ take-take count (len - from) (drop from (drop start cells)) (omega arith)
    ∙ ap (take count) (drop-drop from start cells)

kept_first : (keeps : List Bool) (cells : List (List Value)) → first_cell (kept_by (true ∷ keeps) cells) ≡ first_cell cells
kept_first keeps [] = refl
kept_first keeps (cell ∷ cells) = refl

kept_rest : (keeps : List Bool) (cells : List (List Value)) → later_cells (kept_by (true ∷ keeps) cells) ≡ kept_by keeps (later_cells cells)
kept_rest keeps [] = sym (kept_none keeps)
kept_rest keeps (cell ∷ cells) = refl

kept_later : (keeps : List Bool) (cells : List (List Value)) → kept_by (false ∷ keeps) cells ≡ kept_by keeps (later_cells cells)
kept_later keeps [] = sym (kept_none keeps)
kept_later keeps (cell ∷ cells) = refl

pub filtered_rows : (keeps : List Bool) (columns : Columns) → rows_by (set_count keeps) (λ id. kept_by keeps (columns id)) ≡ kept_by keeps (rows_by (length keeps) columns)
filtered_rows [] columns = refl
filtered_rows (true ∷ keeps) columns =
    let more : set_count (true ∷ keeps) ≡ suc (set_count keeps) = omega (arith, count-cons true keeps) in
    ap (λ (rows : ℕ). rows_by rows (λ id. kept_by (true ∷ keeps) (columns id))) more
    ∙ (λ i. (λ id. kept_first keeps (columns id) i) ∷ (ap (rows_by (set_count keeps)) (fun_ext (λ id. kept_rest keeps (columns id))) ∙ filtered_rows keeps (λ id. later_cells (columns id))) i)
filtered_rows (false ∷ keeps) columns =
    let same : set_count (false ∷ keeps) ≡ set_count keeps = omega (arith, count-cons false keeps) in
    ap (λ (rows : ℕ). rows_by rows (λ id. kept_by (false ∷ keeps) (columns id))) same
    ∙ ap (rows_by (set_count keeps)) (fun_ext (λ id. kept_later keeps (columns id)))
    ∙ filtered_rows keeps (λ id. later_cells (columns id))
