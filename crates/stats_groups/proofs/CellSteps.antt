-- Cells that are put into rows, one after another.
use Rattle.std.proofs.Common.{◌≡◌, ℕ, zero, suc, ◌<◌, ◌≤◌, List, [], ◌∷◌, ◌++◌, length, set, drop, append_assoc, Some, None, refl, sym, ap, ◌∙◌, arith}
use Rattle.std.specs.List.{flat_map}
use Rattle.std.specs.Prelude.{slice_get}
use Rattle.esql_types.specs.declared.names.ColId.{ColId}
use Rattle.esql_types.specs.declared.value.Value.{Value}
use Rattle.stats_groups.specs.Cells.{put_cell, put_cells}

-- at a place that the row has, the cell there is another
pub put_within : (row : List (List Value)) (place : ℕ) (cell : List Value) → place < length row → put_cell row place cell ≡ set row place cell
put_within [] place cell within = absurd (omega (arith, within))
put_within (first ∷ row) zero cell within = refl
put_within (first ∷ row) (suc place) cell within = ap (λ rest. first ∷ rest) (put_within row place cell (omega (arith, within)))

-- behind the last place the cell is added
pub put_last : (row : List (List Value)) (place : ℕ) (cell : List Value) → place ≡ length row → put_cell row place cell ≡ row ++ cell ∷ []
put_last [] zero cell is = refl
put_last [] (suc place) cell is = absurd (omega (arith, is))
put_last (first ∷ row) zero cell is = absurd (omega (arith, is))
put_last (first ∷ row) (suc place) cell is = ap (λ rest. first ∷ rest) (put_last row place cell (omega (arith, is)))

-- before a place further on there may be a null more
pub put_behind_null : (row : List (List Value)) (place : ℕ) (cell : List Value) → length row < place → put_cell (row ++ [] ∷ []) place cell ≡ put_cell row place cell
put_behind_null [] zero cell behind = absurd (omega (arith, behind))
put_behind_null [] (suc place) cell behind = refl
put_behind_null (first ∷ row) zero cell behind = absurd (omega (arith, behind))
put_behind_null (first ∷ row) (suc place) cell behind = ap (λ rest. first ∷ rest) (put_behind_null row place cell (omega (arith, behind)))

pub put_none : (row : List (List Value)) (columns : List ColId) → put_cells row columns [] ≡ row
put_none row [] = refl
put_none row (to ∷ columns) = refl

-- the first cell, and then those behind it
pub put_turn : (row : List (List Value)) (columns : List ColId) (cell : List Value) (cells : List (List Value))
    → put_cells (put_cells row columns (cell ∷ [])) (drop 1 columns) cells ≡ put_cells row columns (cell ∷ cells)
put_turn row [] cell cells = refl
put_turn row (to ∷ columns) cell cells = ap (λ these. put_cells these columns cells) (put_none (put_cell row to.0 cell) columns)

-- some cells, and then those behind them
pub put_append : (these those row : List (List Value)) (columns : List ColId)
    → put_cells (put_cells row columns these) (drop (length these) columns) those ≡ put_cells row columns (these ++ those)
put_append [] those row columns = ap (λ one. put_cells one columns those) (put_none row columns)
put_append (cell ∷ these) those row [] = refl
put_append (cell ∷ these) those row (to ∷ columns) = put_append these those (put_cell row to.0 cell) columns

-- one turn of a loop that puts cells
pub placed_turn : (row new : List (List Value)) (left behind : List ColId) (cell : List Value) (rest items : List (List Value))
    → new ≡ put_cells row left (cell ∷ []) → behind ≡ drop 1 left → items ≡ cell ∷ rest → put_cells new behind rest ≡ put_cells row left items
placed_turn row new left behind cell rest items made are next =
    (λ i. put_cells (made i) (are i) rest) ∙ put_turn row left cell rest ∙ ap (put_cells row left) (sym next)

pub placed_end : (row : List (List Value)) (left : List ColId) (items : List (List Value)) → items ≡ [] → row ≡ put_cells row left items
placed_end row left items none = sym (put_none row left) ∙ ap (put_cells row left) (sym none)

-- at the first of columns, if there is one
pub put_none_there : (row : List (List Value)) (columns : List ColId) (cell : List Value) → slice_get columns 0 ≡ None → row ≡ put_cells row columns (cell ∷ [])
put_none_there row [] cell none = refl
put_none_there row (to ∷ columns) cell none = absurd cc

pub put_at_first : (row : List (List Value)) (columns : List ColId) (to : ColId) (cell : List Value) → slice_get columns 0 ≡ Some to
    → put_cell row to.0 cell ≡ put_cells row columns (cell ∷ [])
put_at_first row [] to cell there = absurd cc
put_at_first row (first ∷ columns) to cell there =
    let same : to ≡ first = cc in
    ap (λ (one : ColId). put_cell row one.0 cell) same ∙ sym (put_none (put_cell row first.0 cell) columns)

-- what the items so far give, and the next one
pub given_turn : {A B : Type 0} (f : A → List B) (before after whole : List B) (item : A) (rest items : List A)
    → before ++ flat_map f items ≡ whole → items ≡ item ∷ rest → after ≡ before ++ f item → after ++ flat_map f rest ≡ whole
given_turn f before after whole item rest items so_far next made =
    ap (λ these. these ++ flat_map f rest) made
    ∙ append_assoc before (f item) (flat_map f rest)
    ∙ ap (λ these. before ++ flat_map f these) (sym next)
    ∙ so_far
