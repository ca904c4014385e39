-- A table with one row more.
use Rattle.std.proofs.Common.{◌≡◌, ℕ, zero, suc, ◌+◌, ◌<◌, List, [], ◌∷◌, ◌++◌, All, map, length, get_or, refl, sym, ap, ◌∙◌, subst, ⊎_elim, arith}
use Rattle.std.specs.List.{range_with_len}
use Rattle.std.proofs.lemmas.List.FromFn.{map-range_with_len_more}
use Rattle.std.proofs.lemmas.List.Elements.{All-map}
use Rattle.std.proofs.lemmas.List.{length_push, length-map}
use Rattle.esql_types.specs.declared.value.Value.{Value}
use Rattle.table_columns.specs.declared.growing.GrowingColumn.{GrowingColumn}
use Rattle.table_columns.specs.Held.{Held, IsHeld, AreHeld, held_cell, held_row, table_of, grown, all_grown, IsClosed, AreClosed}
use Rattle.table_columns.specs.Placing.{with_cell}
use Rattle.table_columns.proofs.Rises.{rises_more, rises_push}
use Rattle.table_columns.proofs.Items.{item_push_other, item_push_same, item_past}
use Rattle.table_columns.proofs.Places.{IsPut}

-- lists whose items are alike at each place
pub each_same : {X Y Z : Type 0} (f : Y → Z) (g : X → Y) (xs ys : List X) → length xs ≡ length ys → ((k : ℕ) (d : X) → k < length xs → f (g (get_or xs k d)) ≡ f (g (get_or ys k d))) → map f (map g xs) ≡ map f (map g ys)
each_same f g [] [] long same = refl
each_same f g [] (y ∷ ys) long same = absurd (omega arith)
each_same f g (x ∷ xs) [] long same = absurd (omega arith)
each_same f g (x ∷ xs) (y ∷ ys) long same = λ i. same zero x (omega arith) i ∷ each_same f g xs ys (omega arith) (λ k d within. same (suc k) d (omega arith)) i

pub range_each : {X Y Z : Type 0} (f : Y → Z) (g : X → Y) (of : ℕ → Z) (a : ℕ) (xs : List X) → ((k : ℕ) (d : X) → k < length xs → f (g (get_or xs k d)) ≡ of (a + k)) → map f (map g xs) ≡ map of (range_with_len a (length xs))
range_each f g of a [] same = refl
range_each f g of a (x ∷ xs) same =
    let here : a + 0 ≡ a = omega arith in
    λ i. (same zero x (omega arith) ∙ ap of here) i ∷ range_each f g of (a + 1) xs (λ k d within. let there : a + suc k ≡ a + 1 + k = omega arith in same (suc k) d (omega arith) ∙ ap of there) i

pub range_same : {Z : Type 0} (f g : ℕ → Z) (a n : ℕ) → ((k : ℕ) → k < a + n → f k ≡ g k) → map f (range_with_len a n) ≡ map g (range_with_len a n)
range_same f g a zero same = refl
range_same f g a (suc n) same = λ i. same a (omega arith) i ∷ range_same f g (a + 1) n (λ k below. same k (omega arith)) i

pub all_unmapped : {X Y : Type 0} (P : Y → Type 0) (g : X → Y) (xs : List X) → All P (map g xs) → All (λ (x : X). P (g x)) xs
all_unmapped P g xs all k d within = subst P (get_mapped g xs k d) (all k (g d) (omega (arith, length-map xs g)))
  where
    get_mapped : {X Y : Type 0} (g : X → Y) (xs : List X) (k : ℕ) (d : X) → get_or (map g xs) k (g d) ≡ g (get_or xs k d)
    get_mapped g [] k d = refl
    get_mapped g (x ∷ xs) zero d = refl
    get_mapped g (x ∷ xs) (suc k) d = get_mapped g xs k d

-- one column
module _ (number : ℕ) (cell : List Value) (before after : GrowingColumn) (is : IsPut number cell before after) (kept : IsHeld number (grown before)) where
  pub now_it_has : held_cell number (grown after) ≡ cell
  now_it_has = ⊎_elim
      (λ (put : after ≡ with_cell number cell before). ap (λ (c : GrowingColumn). held_cell number (grown c)) put ∙ item_push_same 0 before.numbers before.cells.cells number cell kept.paired kept.rise)
      (λ (left : (after ≡ before) × (cell ≡ [])). ap (λ (c : GrowingColumn). held_cell number (grown c)) left.0 ∙ item_past 0 before.numbers before.cells.cells number kept.rise ∙ sym left.1)
      is

  pub it_still_has : (row : ℕ) → row < number → held_cell row (grown after) ≡ held_cell row (grown before)
  it_still_has row below = ⊎_elim
      (λ (put : after ≡ with_cell number cell before). ap (λ (c : GrowingColumn). held_cell row (grown c)) put ∙ item_push_other before.numbers before.cells.cells number cell row kept.paired (λ same. omega arith))
      (λ (left : (after ≡ before) × (cell ≡ [])). ap (λ (c : GrowingColumn). held_cell row (grown c)) left.0)
      is

  pub its_kind : after.cells.kind ≡ before.cells.kind
  its_kind = ⊎_elim
      (λ (put : after ≡ with_cell number cell before). ap (λ (c : GrowingColumn). c.cells.kind) put)
      (λ (left : (after ≡ before) × (cell ≡ [])). ap (λ (c : GrowingColumn). c.cells.kind) left.0)
      is

  pub it_is_closed : IsClosed before → IsClosed after
  it_is_closed closed = ⊎_elim
      (λ (put : after ≡ with_cell number cell before). ap (λ (c : GrowingColumn). c.cells.row) put ∙ closed)
      (λ (left : (after ≡ before) × (cell ≡ [])). ap (λ (c : GrowingColumn). c.cells.row) left.0 ∙ closed)
      is

  with_it : IsHeld (number + 1) (grown (with_cell number cell before))
  with_it = record {
    rise = rises_push 0 before.numbers number kept.rise;
    paired = length_push before.numbers number ∙ ap (λ (n : ℕ). n + 1) kept.paired ∙ sym (length_push before.cells.cells cell);
  }

  as_it_was : IsHeld (number + 1) (grown before)
  as_it_was = record {
    rise = rises_more 0 before.numbers number (number + 1) (omega arith) kept.rise;
    paired = kept.paired;
  }

  pub it_is_held : IsHeld (number + 1) (grown after)
  it_is_held = ⊎_elim
      (λ (put : after ≡ with_cell number cell before). subst (λ (c : GrowingColumn). IsHeld (number + 1) (grown c)) (sym put) with_it)
      (λ (left : (after ≡ before) × (cell ≡ [])). subst (λ (c : GrowingColumn). IsHeld (number + 1) (grown c)) (sym left.0) as_it_was)
      is

-- all columns, each of which has the cell of one row more
module _ (number : ℕ) (of : ℕ → List Value) (columns after : List GrowingColumn) (long : length after ≡ length columns) (kept : AreHeld number (all_grown columns))
    (each : (k : ℕ) (d : GrowingColumn) → k < length columns → IsPut number (of k) (get_or columns k d) (get_or after k d)) where
  held_each : (k : ℕ) (d : GrowingColumn) → k < length columns → IsHeld number (grown (get_or columns k d))
  held_each = all_unmapped (IsHeld number) grown columns kept

  more_kinds : map (λ (c : Held). c.kind) (all_grown after) ≡ map (λ (c : Held). c.kind) (all_grown columns)
  more_kinds = each_same (λ (c : Held). c.kind) grown after columns long
      (λ k d within. let w : k < length columns = omega (arith, long) in its_kind number (of k) (get_or columns k d) (get_or after k d) (each k d w) (held_each k d w))

  rows_before : map (held_row (all_grown after)) (range_with_len 0 number) ≡ map (held_row (all_grown columns)) (range_with_len 0 number)
  rows_before = range_same (held_row (all_grown after)) (held_row (all_grown columns)) 0 number
      (λ row below. each_same (held_cell row) grown after columns long
      (λ k d within. let w : k < length columns = omega (arith, long) in it_still_has number (of k) (get_or columns k d) (get_or after k d) (each k d w) (held_each k d w) row (omega arith)))

  row_now : held_row (all_grown after) number ≡ map of (range_with_len 0 (length columns))
  row_now =
      range_each (held_cell number) grown of 0 after
      (λ k d within. let w : k < length columns = omega (arith, long) in let place : k ≡ 0 + k = omega arith in
      now_it_has number (of k) (get_or columns k d) (get_or after k d) (each k d w) (held_each k d w) ∙ ap of place)
      ∙ ap (λ (width : ℕ). map of (range_with_len 0 width)) long

  pub table_more : table_of (number + 1) (all_grown after)
      ≡ record (table_of number (all_grown columns)) { rows = (table_of number (all_grown columns)).rows ++ map of (range_with_len 0 (length columns)) ∷ [] }
  table_more = λ i. record {
    kinds = more_kinds i;
    rows = (map-range_with_len_more (held_row (all_grown after)) 0 number number (omega arith) ∙ (λ j. rows_before j ++ row_now j ∷ [])) i;
  }

  pub held_more : AreHeld (number + 1) (all_grown after)
  held_more = All-map (IsHeld (number + 1)) grown after
      (λ k d within. let w : k < length columns = omega (arith, long) in it_is_held number (of k) (get_or columns k d) (get_or after k d) (each k d w) (held_each k d w))

  pub closed_more : AreClosed columns → AreClosed after
  closed_more closed k d within = let w : k < length columns = omega (arith, long) in
      it_is_closed number (of k) (get_or columns k d) (get_or after k d) (each k d w) (held_each k d w) (closed k d w)
