-- Pages with a column more, and with some of the columns.
use Rattle.std.proofs.Common.{◌≡◌, ℕ, zero, suc, ◌+◌, ◌<◌, ◌≤◌, ◌==◌, eqb, Bool, true, false, cond, ◌||◌, List, [], ◌∷◌, ◌++◌, Option, Some, None, map, length, get_or, take, drop, All, refl, sym, ap, ◌∙◌, subst, arith, add-one}
use Rattle.std.proofs.Math.Path.{fun_ext}
use Rattle.std.specs.List.{list_any, slice_get}
use Rattle.std.proofs.lemmas.Bool.{eqb-true, or_parts}
use Rattle.std.proofs.lemmas.List.{map_push, map_more}
use Rattle.std.proofs.lemmas.List.Elements.{All-head, All-tail, All-push, All-cons}
use Rattle.esql_types.specs.declared.value.Value.{Value}
use Rattle.esql_types.specs.declared.names.ColId.{ColId}
use Rattle.col_blocks.specs.Seen.{BlockSeen}
use Rattle.col_blocks.specs.Pages.{PageRow, Columns, first_cell, later_cells, rows_by, with_column, found_by, cells_found, has_column, restricted}

-- the columns of numbers and blocks
abbrev pub columned : List ColId → List BlockSeen → Columns
columned columns blocks = λ (id : ℕ). cells_found (found_by columns blocks id)

-- a new column is found under its number

put_at : (columns : List ColId) (blocks : List BlockSeen) (id : ColId) (block : BlockSeen) (other : ℕ) → length columns ≡ length blocks → has_column columns id.0 ≡ false
    → cells_found (found_by (columns ++ id ∷ []) (blocks ++ block ∷ []) other) ≡ cond {A = List (List Value)} (id.0 == other) block.cells (cells_found (found_by columns blocks other))
put_at [] [] id block other many new = at (id.0 == other)
  where
    at : (b : Bool) → cells_found (cond {A = Option BlockSeen} b (Some block) None) ≡ cond {A = List (List Value)} b block.cells []
    at true = refl
    at false = refl
put_at [] (one ∷ blocks) id block other many new = absurd (omega (arith, many))
put_at (column ∷ columns) [] id block other many new = absurd (omega (arith, many))
put_at (column ∷ columns) (one ∷ blocks) id block other many new =
    let apart = or_parts (column.0 == id.0) (has_column columns id.0) new in
    at (column.0 == other) refl (put_at columns blocks id block other (omega (arith, many)) apart.1) apart.0
  where
    at : (b : Bool) → column.0 == other ≡ b
        → cells_found (found_by (columns ++ id ∷ []) (blocks ++ block ∷ []) other) ≡ cond {A = List (List Value)} (id.0 == other) block.cells (cells_found (found_by columns blocks other))
        → column.0 == id.0 ≡ false
        → cells_found (cond {A = Option BlockSeen} b (Some one) (found_by (columns ++ id ∷ []) (blocks ++ block ∷ []) other)) ≡ cond {A = List (List Value)} (id.0 == other) block.cells (cells_found (cond {A = Option BlockSeen} b (Some one) (found_by columns blocks other)))
    at true is same differs = ap (λ (b : Bool). cond {A = List (List Value)} b block.cells one.cells) (sym (ap (λ (n : ℕ). id.0 == n) (sym (eqb-true column.0 other is)) ∙ flipped column.0 id.0 differs))
      where
        flipped : (a b : ℕ) → a == b ≡ false → b == a ≡ false
        flipped a b differs = grind (arith, differs)
    at false is same differs = same

pub put_columns : (columns : List ColId) (blocks : List BlockSeen) (id : ColId) (block : BlockSeen) → length columns ≡ length blocks → has_column columns id.0 ≡ false
    → columned (columns ++ id ∷ []) (blocks ++ block ∷ []) ≡ with_column (columned columns blocks) id.0 block.cells
put_columns columns blocks id block many new = fun_ext (λ other. put_at columns blocks id block other many new)

-- some columns alone

chosen_at : (columns ids : List ColId) (blocks chosen : List BlockSeen) (id : ℕ) → map Some chosen ≡ map (λ (id : ColId). found_by columns blocks id.0) ids
    → cells_found (found_by ids chosen id) ≡ cond {A = List (List Value)} (has_column ids id) (cells_found (found_by columns blocks id)) []
chosen_at columns [] blocks chosen id are = refl
chosen_at columns (one ∷ ids) blocks [] id are = absurd cc
chosen_at columns (one ∷ ids) blocks (block ∷ chosen) id are =
    let here : Some block ≡ found_by columns blocks one.0 = cc in
    let there : map Some chosen ≡ map (λ (id : ColId). found_by columns blocks id.0) ids = cc in
    at (one.0 == id) refl here (chosen_at columns ids blocks chosen id there)
  where
    at : (b : Bool) → one.0 == id ≡ b → Some block ≡ found_by columns blocks one.0
        → cells_found (found_by ids chosen id) ≡ cond {A = List (List Value)} (has_column ids id) (cells_found (found_by columns blocks id)) []
        → cells_found (cond {A = Option BlockSeen} b (Some block) (found_by ids chosen id)) ≡ cond {A = List (List Value)} (b || has_column ids id) (cells_found (found_by columns blocks id)) []
    at true is here same = ap cells_found here ∙ ap (λ (n : ℕ). cells_found (found_by columns blocks n)) (eqb-true one.0 id is)
    at false is here same = same

some_rows : (keep : ℕ → Bool) (rows : ℕ) (columns : Columns)
    → rows_by rows (λ id. cond (keep id) (columns id) []) ≡ map (λ (row : PageRow) id. cond (keep id) (row id) []) (rows_by rows columns)
some_rows keep zero columns = refl
some_rows keep (suc rows) columns =
    λ i. (λ id. at_first (keep id) (columns id) i) ∷ (ap (rows_by rows) (fun_ext (λ id. at_rest (keep id) (columns id))) ∙ some_rows keep rows (λ id. later_cells (columns id))) i
  where
    at_first : (b : Bool) (cells : List (List Value)) → first_cell (cond b cells []) ≡ cond b (first_cell cells) []
    at_first true cells = refl
    at_first false cells = refl

    at_rest : (b : Bool) (cells : List (List Value)) → later_cells (cond b cells []) ≡ cond b (later_cells cells) []
    at_rest true cells = refl
    at_rest false cells = refl

pub chosen_rows : (rows : ℕ) (columns ids : List ColId) (blocks chosen : List BlockSeen) → map Some chosen ≡ map (λ (id : ColId). found_by columns blocks id.0) ids
    → rows_by rows (columned ids chosen) ≡ map (restricted ids) (rows_by rows (columned columns blocks))
chosen_rows rows columns ids blocks chosen are = ap (rows_by rows) (fun_ext (λ id. chosen_at columns ids blocks chosen id are)) ∙ some_rows (has_column ids) rows (columned columns blocks)

-- a block that is found is one of the page's
found_all : (P : BlockSeen → Type 0) (columns : List ColId) (blocks : List BlockSeen) (id : ℕ) (block : BlockSeen) → All P blocks → Some block ≡ found_by columns blocks id → P block
found_all P [] blocks id block all is = absurd cc
found_all P (column ∷ columns) [] id block all is = absurd cc
found_all P (column ∷ columns) (one ∷ blocks) id block all is = at (column.0 == id) (λ is. found_all P columns blocks id block (All-tail P one blocks all) is) is
  where
    at : (b : Bool) → (Some block ≡ found_by columns blocks id → P block) → Some block ≡ cond {A = Option BlockSeen} b (Some one) (found_by columns blocks id) → P block
    at true later is = let same : one ≡ block = cc in subst P same (All-head P one blocks all)
    at false later is = later is

pub chosen_all : (P : BlockSeen → Type 0) (columns ids : List ColId) (blocks chosen : List BlockSeen) → All P blocks → map Some chosen ≡ map (λ (id : ColId). found_by columns blocks id.0) ids → All P chosen
chosen_all P columns ids blocks [] all are = λ k d within. absurd (omega (arith, within))
chosen_all P columns [] blocks (block ∷ chosen) all are = absurd cc
chosen_all P columns (one ∷ ids) blocks (block ∷ chosen) all are =
    let here : Some block ≡ found_by columns blocks one.0 = cc in
    let there : map Some chosen ≡ map (λ (id : ColId). found_by columns blocks id.0) ids = cc in
    All-cons P block chosen (found_all P columns blocks one.0 block all here) (chosen_all P columns ids blocks chosen all there)

-- a column that is there has a block
pub found_there : (columns : List ColId) (blocks : List BlockSeen) (id : ℕ) → length columns ≡ length blocks → has_column columns id ≡ true → None ≡ found_by columns blocks id → ⊥
found_there [] blocks id many there none = cc
found_there (column ∷ columns) [] id many there none = omega (arith, many)
found_there (column ∷ columns) (block ∷ blocks) id many there none = at (column.0 == id) (λ there none. found_there columns blocks id (omega (arith, many)) there none) there none
  where
    at : (b : Bool) → (has_column columns id ≡ true → None ≡ found_by columns blocks id → ⊥) → (b || has_column columns id) ≡ true → None ≡ cond {A = Option BlockSeen} b (Some block) (found_by columns blocks id) → ⊥
    at true later there none = cc
    at false later there none = later there none

-- a walk over the columns
pub found_here : (columns : List ColId) (blocks : List BlockSeen) (place id : ℕ) (d : ColId) → length columns ≡ length blocks → place < length columns → (get_or columns place d).0 ≡ id → found_by (drop place columns) (drop place blocks) id ≡ slice_get blocks place
found_here [] blocks place id d many within is = absurd (omega (arith, within))
found_here (column ∷ columns) [] place id d many within is = absurd (omega (arith, many))
found_here (column ∷ columns) (block ∷ blocks) zero id d many within is = ap (λ (b : Bool). cond {A = Option BlockSeen} b (Some block) (found_by columns blocks id)) (same column.0 id is)
  where
    same : (a b : ℕ) → a ≡ b → a == b ≡ true
    same a b is = grind (arith, is)
found_here (column ∷ columns) (block ∷ blocks) (suc place) id d many within is = found_here columns blocks place id d (omega (arith, many)) (omega (arith, within)) is

found_later : (columns : List ColId) (blocks : List BlockSeen) (place id : ℕ) (d : ColId) → length columns ≡ length blocks → place < length columns → ((get_or columns place d).0 ≡ id → ⊥) → found_by (drop place columns) (drop place blocks) id ≡ found_by (drop (suc place) columns) (drop (suc place) blocks) id
found_later [] blocks place id d many within other = absurd (omega (arith, within))
found_later (column ∷ columns) [] place id d many within other = absurd (omega (arith, many))
found_later (column ∷ columns) (block ∷ blocks) zero id d many within other = ap (λ (b : Bool). cond {A = Option BlockSeen} b (Some block) (found_by columns blocks id)) (differs column.0 id other)
  where
    differs : (a b : ℕ) → (a ≡ b → ⊥) → a == b ≡ false
    differs a b other = grind (arith, other)
found_later (column ∷ columns) (block ∷ blocks) (suc place) id d many within other = found_later columns blocks place id d (omega (arith, many)) (omega (arith, within)) other

pub found_next : (columns : List ColId) (blocks : List BlockSeen) (place id : ℕ) (d : ColId) (all : Option BlockSeen) → length columns ≡ length blocks → place < length columns → ((get_or columns place d).0 ≡ id → ⊥)
    → found_by (drop place columns) (drop place blocks) id ≡ all → found_by (drop (place + 1) columns) (drop (place + 1) blocks) id ≡ all
found_next columns blocks place id d all many within other before = rw add-one (sym (found_later columns blocks place id d many within other) ∙ before)

pub found_nowhere : (columns : List ColId) (blocks : List BlockSeen) (place id : ℕ) → length columns ≤ place → None ≡ found_by (drop place columns) (drop place blocks) id
found_nowhere [] blocks zero id past = refl
found_nowhere [] blocks (suc place) id past = refl
found_nowhere (column ∷ columns) blocks zero id past = absurd (omega (arith, past))
found_nowhere (column ∷ columns) [] (suc place) id past = at (drop place columns)
  where
    at : (columns : List ColId) → None ≡ found_by {X = BlockSeen} columns [] id
    at [] = refl
    at (column ∷ columns) = refl
found_nowhere (column ∷ columns) (block ∷ blocks) (suc place) id past = found_nowhere columns blocks place id (omega (arith, past))

-- one more block that is chosen
pub chosen_more : {R : Type 0} (value : R → BlockSeen) (found : ColId → Option BlockSeen) (ids : List ColId) (i : ℕ) (d : ColId) (old new : List R) (r : R) → i < length ids
    → map Some (map value old) ≡ map found (take i ids) → Some (value r) ≡ found (get_or ids i d) → new ≡ old ++ r ∷ [] → map Some (map value new) ≡ map found (take (i + 1) ids)
chosen_more {R} value found ids i d old new r within before is pushed =
    ap (λ (rs : List R). map Some (map value rs)) pushed
    ∙ ap (map Some) (map_push value old r)
    ∙ map_push Some (map value old) (value r)
    ∙ (λ j. before j ++ is j ∷ [])
    ∙ sym (map_more found ids i d within)
