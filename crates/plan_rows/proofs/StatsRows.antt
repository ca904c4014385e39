-- The rows of groups as they are kept are those of numbered columns.
use Rattle.std.proofs.Common.{◌≡◌, ℕ, ◌==◌, Bool, true, false, List, [], ◌∷◌, ◌++◌, length, map, append_assoc, refl, ap, sym, ◌∙◌, arith}
use Rattle.std.specs.Prelude.{Option, Some, None, if◌then◌else◌}
use Rattle.std.specs.Option.{option_map}
use Rattle.std.specs.List.{AllByRecursion}
use Rattle.std.proofs.lemmas.Bool.Decides.{nat_tests}
use Rattle.std.proofs.lemmas.List.{append-nil}
use Rattle.std.proofs.lemmas.Map.Keys.{IsDistinct-head, IsDistinct-tail}
use Rattle.esql_types.specs.declared.value.Value.{Value}
use Rattle.esql_types.specs.declared.cause.Failure.{Failure}
use Rattle.esql_types.specs.declared.names.ColId.{ColId}
use Rattle.esql_plan.specs.declared.step.Aggregate.{Aggregate}
use Rattle.esql_plan.specs.declared.step.GroupColumn.{GroupColumn}
use Rattle.esql_plan.specs.Values.{NumberedRow}
use Rattle.esql_scalar.specs.Rows.{row_of}
use Rattle.plan_semantics.specs.Groups.{Entry, rows_of_groups, failures_of_groups}
use Rattle.plan_semantics.specs.Tables.{empty_row, with_cell}
use Rattle.plan_semantics.specs.Stats.{entry_of, entries_of, row_of_columns, stats_columns, stats_rows, stats_failures}
use Rattle.stats_groups.specs.Entries.{entry_of_row}
use Rattle.stats_groups.specs.Cells.{put_cell, put_cells}
use Rattle.stats_groups.specs.Grouped.{Grouped, with_entry, rows_made, rows_grouped, failures_grouped}
use Rattle.plan_semantics.specs.WellFormed.{AreOnce}
use Rattle.plan_rows.specs.Kept.{rows_of, kept_stats}
use Rattle.plan_rows.proofs.NumberedRows.{row_of-put}

abbrev same_number : ℕ → ℕ → Bool
same_number this that = this == that

abbrev number_of : ColId → ℕ
number_of to = to.0

-- cells put into a numbered row, one after another
abbrev placed : NumberedRow → List ColId → List (List Value) → NumberedRow
placed row [] cells = row
placed row (to ∷ columns) [] = row
placed row (to ∷ columns) (cell ∷ cells) = placed (with_cell row to.0 cell) columns cells

kept_placed : (made : List ColId) (cells row : List (List Value)) → row_of (put_cells row made cells) ≡ placed (row_of row) made cells
kept_placed [] cells row = refl
kept_placed (to ∷ made) [] row = refl
kept_placed (to ∷ made) (cell ∷ cells) row =
    kept_placed made cells (put_cell row to.0 cell) ∙ ap (λ (these : NumberedRow). placed these made cells) (row_of-put row to.0 cell)

-- a cell at one column and one at another
cell_apart : (row : NumberedRow) (this that other : ℕ) (first second : List Value) → this == that ≡ false
    → with_cell (with_cell row this first) that second other ≡ with_cell (with_cell row that second) this first other
cell_apart row this that other first second apart = by_case (other == that) (other == this) refl refl where
  by_case : (a b : Bool) → other == that ≡ a → other == this ≡ b
      → (if a then second else if b then first else row other) ≡ (if b then first else if a then second else row other)
  by_case true true is_that is_this = absurd (let same : this == that ≡ true = grind (arith, nat_tests, is_that, is_this) in let no : true ≡ false = sym same ∙ apart in cc)
  by_case true false is_that is_this = refl
  by_case false true is_that is_this = refl
  by_case false false is_that is_this = refl

placed_apart : (made : List ColId) (cells : List (List Value)) (row : NumberedRow) (id : ℕ) (cell : List Value) → AllByRecursion (λ (number : ℕ). id == number ≡ false) (map number_of made)
    → placed (with_cell row id cell) made cells ≡ with_cell (placed row made cells) id cell
placed_apart [] cells row id cell apart = refl
placed_apart (to ∷ made) [] row id cell apart = refl
placed_apart (to ∷ made) (next ∷ cells) row id cell apart =
    ap (λ (these : NumberedRow). placed these made cells) (λ i other. cell_apart row id to.0 other cell next apart.0 i)
    ∙ placed_apart made cells (with_cell row to.0 next) id cell apart.1

placed_columns : (made : List ColId) (cells : List (List Value)) → AreOnce made → placed empty_row made cells ≡ row_of_columns made cells
placed_columns [] cells once = refl
placed_columns (to ∷ made) [] once = refl
placed_columns (to ∷ made) (cell ∷ cells) once =
    placed_apart made cells empty_row to.0 cell (IsDistinct-head same_number to.0 (map number_of made) once)
    ∙ ap (λ (row : NumberedRow). with_cell row to.0 cell) (placed_columns made cells (IsDistinct-tail same_number to.0 (map number_of made) once))

-- the row of a group
kept_row : (made : List ColId) (cells : List (List Value)) → AreOnce made → row_of (put_cells [] made cells) ≡ row_of_columns made cells
kept_row made cells once = kept_placed made cells [] ∙ placed_columns made cells once

kept_each : (made : List ColId) (rows : List (List (List Value))) → AreOnce made → map row_of (map (put_cells [] made) rows) ≡ map (row_of_columns made) rows
kept_each made [] once = refl
kept_each made (cells ∷ rows) once = λ i. kept_row made cells once i ∷ kept_each made rows once i

-- the rows of groups
pub rows_of-stats : (aggregates : List Aggregate) (groups : List GroupColumn) → AreOnce (stats_columns aggregates groups) → (rows : List (List (List Value)))
    → rows_of (kept_stats aggregates groups rows) ≡ stats_rows aggregates groups (rows_of rows)
rows_of-stats aggregates groups once rows = kept_each (stats_columns aggregates groups) (rows_of_groups (length groups) aggregates (entries_of aggregates groups (rows_of rows))) once

-- what groups look at in rows as they are kept
entries_kept : (aggregates : List Aggregate) (groups : List GroupColumn) (rows : List (List (List Value)))
    → map (λ (row : List (List Value)). entry_of aggregates groups (row_of row)) rows ≡ entries_of aggregates groups (rows_of rows)
entries_kept aggregates groups [] = refl
entries_kept aggregates groups (row ∷ rows) = λ i. entry_of aggregates groups (row_of row) ∷ entries_kept aggregates groups rows i

-- groups of these rows
abbrev pub grouped_rows : List Aggregate → List GroupColumn → List (List (List Value)) → Grouped
grouped_rows aggregates groups rows = record {
  columns = groups;
  aggregates = aggregates;
  entries = Some (map (λ (row : List (List Value)). entry_of aggregates groups (row_of row)) rows);
}

-- groups with these rows behind those that they have
abbrev pub with_rows : List Aggregate → List GroupColumn → List (List (List Value)) → Grouped → Grouped
with_rows aggregates groups rows grouped = record {
  columns = grouped.columns;
  aggregates = grouped.aggregates;
  entries = option_map (λ (entries : List Entry). entries ++ map (λ (row : List (List Value)). entry_of aggregates groups (row_of row)) rows) grouped.entries;
}

entries_turn : (entries : Option (List Entry)) (one : Entry) (rest : List Entry)
    → option_map (λ (these : List Entry). these ++ rest) (option_map (λ (these : List Entry). these ++ one ∷ []) entries) ≡ option_map (λ (these : List Entry). these ++ one ∷ rest) entries
entries_turn None one rest = refl
entries_turn (Some entries) one rest = ap Some (append_assoc entries (one ∷ []) rest)

-- the next of the rows is added
pub with_rows_turn : (aggregates : List Aggregate) (groups : List GroupColumn) (whole : List (List (List Value))) (row : List (List Value)) (rest items : List (List (List Value)))
    (before after : Grouped) → with_rows aggregates groups items before ≡ grouped_rows aggregates groups whole → items ≡ row ∷ rest
    → after ≡ with_entry (entry_of_row before.columns before.aggregates row) before → with_rows aggregates groups rest after ≡ grouped_rows aggregates groups whole
with_rows_turn aggregates groups whole row rest items before after so_far next made =
    let by : before.columns ≡ groups = ap (λ (one : Grouped). one.columns) so_far in
    let over : before.aggregates ≡ aggregates = ap (λ (one : Grouped). one.aggregates) so_far in
    let entry : List (List Value) → Entry = λ row. entry_of aggregates groups (row_of row) in
    ap (with_rows aggregates groups rest) (made ∙ (λ i. with_entry (entry_of_row (by i) (over i) row) before))
    ∙ (λ i. record { columns = before.columns; aggregates = before.aggregates; entries = entries_turn before.entries (entry row) (map entry rest) i })
    ∙ ap (λ (these : List (List (List Value))). with_rows aggregates groups these before) (sym next)
    ∙ so_far

none_behind : (entries : Option (List Entry)) → option_map (λ (these : List Entry). these ++ []) entries ≡ entries
none_behind None = refl
none_behind (Some entries) = ap Some (append-nil entries)

pub with_none : (aggregates : List Aggregate) (groups : List GroupColumn) (grouped : Grouped) → with_rows aggregates groups [] grouped ≡ grouped
with_none aggregates groups grouped = λ i. record { columns = grouped.columns; aggregates = grouped.aggregates; entries = none_behind grouped.entries i }

abbrev value_or : {Item : Type 0} → Item → Option Item → Item
value_or other None = other
value_or other (Some item) = item

-- the rows that groups give
pub rows_given : (aggregates : List Aggregate) (groups : List GroupColumn) (rows cells : List (List (List Value))) (grouped : Grouped)
    → grouped ≡ grouped_rows aggregates groups rows → Some cells ≡ rows_grouped grouped
    → cells ≡ kept_stats aggregates groups rows
rows_given aggregates groups rows cells grouped same given =
    ap (value_or cells) (given ∙ ap rows_grouped same) ∙ ap (rows_made groups aggregates) (entries_kept aggregates groups rows)

-- the failures that they give, behind none
pub failures_given : (aggregates : List Aggregate) (groups : List GroupColumn) (rows : List (List (List Value))) (before failures : List Failure) (grouped : Grouped)
    → grouped ≡ grouped_rows aggregates groups rows → before ≡ [] → Some failures ≡ option_map (λ (new : List Failure). before ++ new) (failures_grouped grouped)
    → failures ≡ stats_failures aggregates groups (rows_of rows)
failures_given aggregates groups rows before failures grouped same none given =
    ap (value_or failures) (given ∙ (λ i. option_map (λ (new : List Failure). none i ++ new) (failures_grouped (same i))))
    ∙ ap (λ (entries : List Entry). failures_of_groups (length groups) aggregates entries) (entries_kept aggregates groups rows)
