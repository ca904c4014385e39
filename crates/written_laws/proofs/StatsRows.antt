-- The row of a group: its cells stand at columns of numbers in turn, and every column below these is null.
use Rattle.std.proofs.Common.{◌≡◌, ℕ, zero, suc, ◌+◌, ◌<◌, ◌≤◌, ◌==◌, Bool, false, cond, List, [], ◌∷◌, ◌++◌, map, length, refl, ap, subst, ◌∙◌, arith}
use Rattle.std.specs.List.{AllByRecursion}
use Rattle.std.proofs.lemmas.List.{append-nil}
use Rattle.esql_types.specs.declared.names.ColId.{ColId}
use Rattle.esql_types.specs.declared.value.Value.{Value}
use Rattle.esql_plan.specs.declared.step.Aggregate.{Aggregate}
use Rattle.esql_plan.specs.declared.step.GroupColumn.{GroupColumn}
use Rattle.esql_plan.specs.Values.{NumberedRow}
use Rattle.plan_semantics.specs.Tables.{with_cell}
use Rattle.plan_semantics.specs.Stats.{stats_columns, row_of_columns}
use Rattle.query_semantics.specs.Writings.{column_at}
use Rattle.query_semantics.specs.WrittenStats.{CallInput, GroupInput, aggregates_from, groups_from}
use Rattle.query_semantics.proofs.Named.{IsSameBelow, cell_put, eq_below}
use Rattle.query_semantics.proofs.Distinct.{each_append}

-- so many column numbers, on from one
abbrev pub ids_from : ℕ → ℕ → List ColId
ids_from number zero = []
ids_from number (suc count) = column_at number ∷ ids_from (number + 1) count

calls_to : (number : ℕ) (calls : List CallInput) → map (λ (aggregate : Aggregate). aggregate.to) (aggregates_from number calls) ≡ ids_from number (length calls)
calls_to number [] = refl
calls_to number (call ∷ calls) = ap (λ (these : List ColId). column_at number ∷ these) (calls_to (number + 1) calls)

groups_to : (number : ℕ) (groups : List GroupInput) → map (λ (group : GroupColumn). group.to) (groups_from number groups) ≡ ids_from number (length groups)
groups_to number [] = refl
groups_to number (group ∷ groups) = ap (λ (these : List ColId). column_at number ∷ these) (groups_to (number + 1) groups)

pub columns_are : (first second : ℕ) (calls : List CallInput) (groups : List GroupInput)
    → stats_columns (aggregates_from first calls) (groups_from second groups) ≡ ids_from first (length calls) ++ ids_from second (length groups)
columns_are first second calls groups = λ i. calls_to first calls i ++ groups_to second groups i

-- these cells stand at numbers in turn, all of them below a bound
abbrev pub CellsAt : ℕ → NumberedRow → ℕ → List (List Value) → Type 0
CellsAt next row number [] = Unit {0}
CellsAt next row number (cell ∷ cells) = (number < next) × (row number ≡ cell) × CellsAt next row (number + 1) cells

pub at_kept : (next : ℕ) (row later : NumberedRow) (number : ℕ) (cells : List (List Value)) → IsSameBelow next row later → CellsAt next row number cells → CellsAt next later number cells
at_kept next row later number [] same at = tt
at_kept next row later number (cell ∷ cells) same at = (at.0, same number at.0 ∙ at.1, at_kept next row later (number + 1) cells same at.2)

pub at_split : (next : ℕ) (row : NumberedRow) (number : ℕ) (these those : List (List Value)) → CellsAt next row number (these ++ those)
    → CellsAt next row number these × CellsAt next row (number + length these) those
at_split next row number [] those at = (tt, subst (λ (n : ℕ). CellsAt next row n those) (same number) at)
  where
    same : (n : ℕ) → n ≡ n + 0
    same n = omega arith
at_split next row number (cell ∷ these) those at =
    let rest = at_split next row (number + 1) these those at.2 in
    ((at.0, at.1, rest.0), subst (λ (n : ℕ). CellsAt next row n those) (same number (length these)) rest.1)
  where
    same : (n m : ℕ) → n + 1 + m ≡ n + suc m
    same n m = omega arith

-- another cell below them
eq_other : (m n : ℕ) → m < n → n == m ≡ false
eq_other m n above = grind arith

at_above : (next : ℕ) (row : NumberedRow) (id : ℕ) (cell : List Value) (number : ℕ) (cells : List (List Value)) → id < number → CellsAt next row number cells → CellsAt next (with_cell row id cell) number cells
at_above next row id cell number [] above at = tt
at_above next row id cell number (first ∷ cells) above at = (
  at.0,
  ap (λ (b : Bool). cond b cell (row number)) (eq_other id number above) ∙ at.1,
  at_above next row id cell (number + 1) cells (omega (arith, above)) at.2,
)

-- the cells of the aggregates, whatever stands behind them
pub front_at : (next : ℕ) (these those : List (List Value)) (number : ℕ) (more : List ColId) → number + length these ≤ next
    → CellsAt next (row_of_columns (ids_from number (length these) ++ more) (these ++ those)) number these
front_at next [] those number more below = tt
front_at next (cell ∷ these) those number more below =
    let rest : NumberedRow = row_of_columns (ids_from (number + 1) (length these) ++ more) (these ++ those) in (
      omega (arith, below),
      cell_put rest number cell,
      at_above next rest number cell (number + 1) these (omega arith) (front_at next these those (number + 1) more (omega (arith, below))),
    )

-- and the cells of the key
pub back_at : (next : ℕ) (these those : List (List Value)) (number : ℕ) → number + length these + length those ≤ next
    → CellsAt next (row_of_columns (ids_from number (length these) ++ ids_from (number + length these) (length those)) (these ++ those)) (number + length these) those
back_at next these those number below = walk these number (number + length these) refl below
  where
    own : (second : ℕ) → second + length those ≤ next → CellsAt next (row_of_columns (ids_from second (length those)) those) second those
    own second less =
        subst (λ (row : NumberedRow). CellsAt next row second those) (λ i. row_of_columns (append-nil (ids_from second (length those)) i) (append-nil those i)) (front_at next those [] second [] less)

    walk : (these : List (List Value)) (first second : ℕ) → first + length these ≡ second → first + length these + length those ≤ next
        → CellsAt next (row_of_columns (ids_from first (length these) ++ ids_from second (length those)) (these ++ those)) second those
    walk [] first second is less = own second (omega (arith, is, less))
    walk (cell ∷ these) first second is less =
        at_above next (row_of_columns (ids_from (first + 1) (length these) ++ ids_from second (length those)) (these ++ those)) first cell second those
        (omega (arith, is)) (walk these (first + 1) second (omega (arith, is)) (omega (arith, less)))

-- Columns below are null ---------------------------------------------------------------------------------------------------

abbrev pub AreFrom : ℕ → List ColId → Type 0
AreFrom low columns = AllByRecursion (λ (to : ColId). low ≤ to.0) columns

ids_above : (low number count : ℕ) → low ≤ number → AreFrom low (ids_from number count)
ids_above low number zero less = tt
ids_above low number (suc count) less = (less, ids_above low (number + 1) count (omega (arith, less)))

below_null : (low : ℕ) (columns : List ColId) (cells : List (List Value)) → AreFrom low columns → (id : ℕ) → id < low → row_of_columns columns cells id ≡ []
below_null low [] cells from id less = refl
below_null low (to ∷ columns) [] from id less = refl
below_null low (to ∷ columns) (cell ∷ cells) from id less =
    let above = from.0 in
    ap (λ (b : Bool). cond b cell (row_of_columns columns cells id)) (eq_below id to.0 (omega (arith, above, less))) ∙ below_null low columns cells from.1 id less

pub columns_null : (low first second : ℕ) (these those : ℕ) (cells : List (List Value)) → low ≤ first → low ≤ second → (id : ℕ) → id < low → row_of_columns (ids_from first these ++ ids_from second those) cells id ≡ []
columns_null low first second these those cells before also id less =
    below_null low (ids_from first these ++ ids_from second those) cells
    (each_append (λ (to : ColId). low ≤ to.0) (ids_from first these) (ids_from second those) (ids_above low first these before) (ids_above low second those also)) id less
