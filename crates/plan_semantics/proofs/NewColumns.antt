-- What a row has in new columns, and beside them.
use Rattle.std.proofs.Common.{◌≡◌, ℕ, zero, suc, ◌==◌, Bool, true, false, List, [], ◌∷◌, ◌++◌, map, length, All, refl, ◌∙◌, if◌then◌else◌}
use Rattle.std.specs.List.{AllByRecursion}
use Rattle.std.proofs.lemmas.List.Elements.{All-nil, All-cons, All-head, All-tail}
use Rattle.std.proofs.lemmas.Map.Keys.{IsDistinct-head, IsDistinct-tail}
use Rattle.esql_types.specs.declared.value.Kind.{Kind}
use Rattle.esql_types.specs.declared.value.Value.{Value}
use Rattle.esql_types.specs.declared.names.ColId.{ColId}
use Rattle.esql_plan.specs.declared.step.NewColumn.{NewColumn}
use Rattle.esql_plan.specs.Values.{NumberedRow}
use Rattle.plan_semantics.specs.Tables.{with_cell}
use Rattle.plan_semantics.specs.Taken.{nulls, with_new}
use Rattle.plan_semantics.specs.WellFormed.{Bounds, MadeColumn, made_as, IsNew, new_made, new_ids, new_kinds, AreOnce, NewStand, RowHas}
use Rattle.plan_semantics.proofs.Keeps.{other_number, cell_kept, AreNew, are_new}
use Rattle.plan_semantics.proofs.ResultKinds.{Has}
use Rattle.plan_semantics.proofs.RowKinds.{HasColumn, has_new, put_there}
use Rattle.plan_semantics.proofs.TakenKinds.{CellsHave}

abbrev same_number : ℕ → ℕ → Bool
same_number this that = this == that

abbrev pub Elsewhere : ℕ → List NewColumn → Type 0
Elsewhere id to = All (λ (new : NewColumn). new.id.0 == id ≡ false) to

-- a column that is none of the new ones has what it had
pub beside_new : (to : List NewColumn) (cells : List (List Value)) (row : NumberedRow) (id : ℕ) → Elsewhere id to → with_new row to cells id ≡ row id
beside_new [] cells row id elsewhere = refl
beside_new (new ∷ to) [] row id elsewhere =
    let P : NewColumn → Type 0 = λ new. new.id.0 == id ≡ false in
    beside_new to [] (with_cell row new.id.0 []) id (All-tail P new to elsewhere) ∙ cell_kept row new.id.0 id [] (All-head P new to elsewhere)
beside_new (new ∷ to) (cell ∷ cells) row id elsewhere =
    let P : NewColumn → Type 0 = λ new. new.id.0 == id ≡ false in
    beside_new to cells (with_cell row new.id.0 cell) id (All-tail P new to elsewhere) ∙ cell_kept row new.id.0 id cell (All-head P new to elsewhere)

others_elsewhere : (id : ColId) (to : List NewColumn) → AllByRecursion (λ other. id.0 == other ≡ false) (map (λ (one : ColId). one.0) (new_ids to)) → Elsewhere id.0 to
others_elsewhere id [] all = All-nil (λ (new : NewColumn). new.id.0 == id.0 ≡ false)
others_elsewhere id (new ∷ to) all = All-cons (λ (new : NewColumn). new.id.0 == id.0 ≡ false) new to (other_number id.0 new.id.0 all.0) (others_elsewhere id to all.1)

-- new columns that differ have the cells
pub at_new : (to : List NewColumn) (cells : List (List Value)) (row : NumberedRow) → AreOnce (new_ids to) → length cells ≡ length to
    → map (λ (new : NewColumn). with_new row to cells new.id.0) to ≡ cells
at_new [] [] row once same = refl
at_new [] (cell ∷ cells) row once same = absurd cc
at_new (new ∷ to) [] row once same = absurd cc
at_new (new ∷ to) (cell ∷ cells) row once same =
    let next = with_cell row new.id.0 cell in
    let ids : List ℕ = map (λ (one : ColId). one.0) (new_ids to) in
    let own : with_new next to cells new.id.0 ≡ cell =
    beside_new to cells next new.id.0 (others_elsewhere new.id to (IsDistinct-head same_number new.id.0 ids once)) ∙ put_there row new.id.0 cell in
    let rest = at_new to cells next (IsDistinct-tail same_number new.id.0 ids once) cc in
    λ i. own i ∷ rest i

-- null stays null, and is in each new column
null_put : (row : NumberedRow) (id to : ℕ) → row id ≡ [] → with_cell row to [] id ≡ []
null_put row id to null = elim (id == to) as (λ b. (if b then [] else row id) ≡ []) [ true ↦ refl | false ↦ null ]

null_stays : (to : List NewColumn) (count : ℕ) (row : NumberedRow) (id : ℕ) → row id ≡ [] → with_new row to (nulls count) id ≡ []
null_stays [] count row id null = null
null_stays (new ∷ to) zero row id null = null_stays to zero (with_cell row new.id.0 []) id (null_put row id new.id.0 null)
null_stays (new ∷ to) (suc count) row id null = null_stays to count (with_cell row new.id.0 []) id (null_put row id new.id.0 null)

pub nulls_new : (to : List NewColumn) (count : ℕ) (row : NumberedRow) → All (λ (new : NewColumn). with_new row to (nulls count) new.id.0 ≡ []) to
nulls_new [] count row = All-nil (λ (new : NewColumn). row new.id.0 ≡ [])
nulls_new (new ∷ to) zero row =
    let next = with_cell row new.id.0 [] in
    All-cons (λ (one : NewColumn). with_new next to (nulls zero) one.id.0 ≡ []) new to (null_stays to zero next new.id.0 (put_there row new.id.0 [])) (nulls_new to zero next)
nulls_new (new ∷ to) (suc count) row =
    let next = with_cell row new.id.0 [] in
    All-cons (λ (one : NewColumn). with_new next to (nulls count) one.id.0 ≡ []) new to (null_stays to count next new.id.0 (put_there row new.id.0 [])) (nulls_new to count next)

-- kinds ----------------------------------------------------------------------------------------------------------------------------------

moved : {Item : Type 0} (P : Item → Type 0) (xs : List Item) (y : Item) (ys : List Item) → All P (xs ++ y ∷ ys) → All P (y ∷ xs ++ ys)
moved P [] y ys all = all
moved P (x ∷ xs) y ys all =
    let rest = moved P xs y ys (All-tail P x (xs ++ y ∷ ys) all) in
    All-cons P y (x ∷ xs ++ ys) (All-head P y (xs ++ ys) rest) (All-cons P x (xs ++ ys) (All-head P x (xs ++ y ∷ ys) all) (All-tail P y (xs ++ ys) rest))

new_later : (made : List MadeColumn) (id : ColId) (kind : Kind) (to : List NewColumn) → AreNew made to → Elsewhere id.0 to → AreNew (made_as id kind ∷ made) to
new_later made id kind [] new elsewhere = All-nil (λ (one : NewColumn). IsNew (made_as id kind ∷ made) one.id)
new_later made id kind (first ∷ to) new elsewhere =
    let P : NewColumn → Type 0 = λ one. one.id.0 == id.0 ≡ false in
    let Q : NewColumn → Type 0 = λ one. IsNew made one.id in
    All-cons (λ (one : NewColumn). IsNew (made_as id kind ∷ made) one.id) first to
    (All-cons (λ (column : MadeColumn). first.id.0 == column.id ≡ false) (made_as id kind) made (All-head P first to elsewhere) (All-head Q first to new))
    (new_later made id kind to (All-tail Q first to new) (All-tail P first to elsewhere))

-- the first of new columns that differ, and those behind it
first_has : (made : List MadeColumn) (one : NewColumn) (to : List NewColumn) (cell : List Value) (cells : List (List Value)) (row : NumberedRow) → AreNew made (one ∷ to)
    → AreOnce (new_ids (one ∷ to)) → Has one.kind cell → RowHas made row
    → (AreNew (made_as one.id one.kind ∷ made) to → AreOnce (new_ids to) → RowHas (made_as one.id one.kind ∷ made) (with_cell row one.id.0 cell)
    → RowHas (new_made to ++ made_as one.id one.kind ∷ made) (with_new (with_cell row one.id.0 cell) to cells))
    → RowHas (new_made (one ∷ to) ++ made) (with_new (with_cell row one.id.0 cell) to cells)
first_has made one to cell cells row new once own has rest =
    let Q : NewColumn → Type 0 = λ new. IsNew made new.id in
    let ids : List ℕ = map (λ (id : ColId). id.0) (new_ids to) in
    let column = made_as one.id one.kind in
    moved (HasColumn (with_new (with_cell row one.id.0 cell) to cells)) (new_made to) column made
    (rest
    (new_later made one.id one.kind to (All-tail Q one to new) (others_elsewhere one.id to (IsDistinct-head same_number one.id.0 ids once)))
    (IsDistinct-tail same_number one.id.0 ids once)
    (has_new made one.id one.kind row cell (All-head Q one to new) own has))

-- a row with cells of their kinds in new columns that differ
row_has_new : (made : List MadeColumn) (to : List NewColumn) (cells : List (List Value)) (row : NumberedRow) → AreNew made to → AreOnce (new_ids to) → CellsHave cells (new_kinds to)
    → RowHas made row → RowHas (new_made to ++ made) (with_new row to cells)
row_has_new made [] cells row new once kinds has = has
row_has_new made (one ∷ to) [] row new once kinds has =
    first_has made one to [] [] row new once refl has (λ new once has. row_has_new (made_as one.id one.kind ∷ made) to [] (with_cell row one.id.0 []) new once tt has)
row_has_new made (one ∷ to) (cell ∷ cells) row new once kinds has =
    first_has made one to cell cells row new once kinds.0 has
    (λ new once has. row_has_new (made_as one.id one.kind ∷ made) to cells (with_cell row one.id.0 cell) new once kinds.1 has)

-- the row after a step that makes new columns
pub new_has : (bounds : Bounds) (made : List MadeColumn) (to : List NewColumn) (cells : List (List Value)) (row : NumberedRow) → NewStand bounds made to → CellsHave cells (new_kinds to)
    → RowHas made row → RowHas (new_made to ++ made) (with_new row to cells)
new_has bounds made to cells row stands kinds has = row_has_new made to cells row (are_new bounds made to stands) stands.once kinds has
