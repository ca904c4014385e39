-- Rows of names are what is seen of rows of numbers.
use Rattle.std.proofs.Common.{◌≡◌, ℕ, ◌+◌, ◌<◌, Bool, true, false, not, cond, ◌==◌, List, [], ◌∷◌, ◌++◌, map, filter, All, Some, None, refl, ap, sym, ◌∙◌, arith}
use Rattle.std.specs.Str.{bytes_eq}
use Rattle.std.proofs.lemmas.List.{map-append}
use Rattle.std.proofs.lemmas.List.Elements.{All-filter, All-map, All-push, All-weaker}
use Rattle.esql_types.specs.declared.value.Value.{Value}
use Rattle.esql_types.specs.declared.value.Kind.{Kind}
use Rattle.esql_types.specs.declared.names.Column.{Column}
use Rattle.esql_ast.specs.declared.query.NamePattern.{NamePattern}
use Rattle.esql_ast.specs.declared.query.RenamePair.{RenamePair}
use Rattle.name_rules.specs.NameRules.{Renaming, keep_places, drop_places, at_places, renamings, renamed_by}
use Rattle.esql_plan.specs.declared.plan.OutColumn.{OutColumn}
use Rattle.esql_plan.specs.Values.{NumberedRow}
use Rattle.plan_semantics.specs.Tables.{with_cell}
use Rattle.plan_semantics.specs.Steps.{expanded}
use Rattle.plan_semantics.specs.Plans.{columns_of, shown_row}
use Rattle.row_semantics.specs.declared.row.NamedCell.{NamedCell}
use Rattle.row_semantics.specs.Rows.{Row, cell_at, put}
use Rattle.row_semantics.specs.Columns.{names_of, put_column, column_as}
use Rattle.row_semantics.specs.Typed.{visible_named}
use Rattle.query_semantics.specs.Commands.{names_in, cells_of, kept_of_row, left_of_row, renamed_row, cell_as, with_named, expanded_at, expanded_row}
use Rattle.query_semantics.specs.Writings.{put_visible, visible_names, visible_as, column_at}
use Rattle.query_semantics.specs.Written.{renumbered, numbered_from}
use Rattle.query_semantics.specs.Named.{named_cell, named_row}
use Rattle.query_semantics.proofs.Squares.{map_all, map_map, filter_square, at_places-map, renamed_by-map, All-at_places, All-renamed_by}

-- the numbers are below the next one
abbrev pub IsBelow : ℕ → OutColumn → Type 0
IsBelow next column = column.id.0 < next

abbrev pub AllBelow : ℕ → List OutColumn → Type 0
AllBelow next visible = All (IsBelow next) visible

pub eq_itself : (n : ℕ) → n == n ≡ true
eq_itself n = grind arith

pub eq_below : (m n : ℕ) → m < n → m == n ≡ false
eq_below m n below = grind arith

pub cell_put : (row : NumberedRow) (id : ℕ) (cell : List Value) → with_cell row id cell id ≡ cell
cell_put row id cell = ap (λ (b : Bool). cond b cell (row id)) (eq_itself id)

cell_kept : (row : NumberedRow) (id other : ℕ) (cell : List Value) → other < id → with_cell row id cell other ≡ row other
cell_kept row id other cell below = ap (λ (b : Bool). cond b cell (row other)) (eq_below other id below)

-- the cells below a number are the same
abbrev pub IsSameBelow : ℕ → NumberedRow → NumberedRow → Type 0
IsSameBelow next before after = (id : ℕ) → id < next → after id ≡ before id

pub same_put : (row : NumberedRow) (id : ℕ) (cell : List Value) → IsSameBelow id row (with_cell row id cell)
same_put row id cell other below = cell_kept row id other cell below

pub named_same : (next : ℕ) (visible : List OutColumn) (before after : NumberedRow) → AllBelow next visible → IsSameBelow next before after → named_row visible after ≡ named_row visible before
named_same next visible before after below same =
    map_all (IsBelow next) (named_cell after) (named_cell before) (λ column less. ap (λ (cell : List Value). record { name = column.name; cell = cell }) (same column.id.0 less)) visible below

-- a new number is seen nowhere
named_kept : (visible : List OutColumn) (row : NumberedRow) (id : ℕ) (cell : List Value) → AllBelow id visible → named_row visible (with_cell row id cell) ≡ named_row visible row
named_kept visible row id cell below = named_same id visible row (with_cell row id cell) below (same_put row id cell)

abbrev is_other : List ℕ → OutColumn → Bool
is_other name column = not (bytes_eq column.name name)

pub named_put : (visible : List OutColumn) (row : NumberedRow) (name : List ℕ) (kind : Kind) (id : ℕ) (cell : List Value) → AllBelow id visible
    → put (named_row visible row) name cell ≡ named_row (put_visible visible name kind id) (with_cell row id cell)
named_put visible row name kind id cell below =
    let kept : List OutColumn = filter (is_other name) visible in
    let new : NumberedRow = with_cell row id cell in
    ap (λ (these : Row). these ++ record { name = name; cell = cell } ∷ []) (filter_square (λ (named : NamedCell). not (bytes_eq named.name name)) (named_cell row) (is_other name) (λ column. refl) visible)
    ∙ (λ i. sym (named_kept kept row id cell (All-filter (is_other name) (IsBelow id) visible below)) i ++ record { name = name; cell = sym (cell_put row id cell) i } ∷ [])
    ∙ sym (map-append (named_cell new) kept (record { name = name; kind = kind; id = column_at id } ∷ []))

abbrev column_of : OutColumn → Column
column_of column = record { name = column.name; kind = column.kind }

pub columns_put : (visible : List OutColumn) (name : List ℕ) (kind : Kind) (id : ℕ) → put_column (columns_of visible) name kind ≡ columns_of (put_visible visible name kind id)
columns_put visible name kind id =
    ap (λ (these : List Column). these ++ record { name = name; kind = kind } ∷ []) (filter_square (λ (column : Column). not (bytes_eq column.name name)) column_of (is_other name) (λ column. refl) visible)
    ∙ sym (map-append column_of (filter (is_other name) visible) (record { name = name; kind = kind; id = column_at id } ∷ []))

pub below_put : (visible : List OutColumn) (name : List ℕ) (kind : Kind) (id : ℕ) → AllBelow id visible → AllBelow (id + 1) (put_visible visible name kind id)
below_put visible name kind id below =
    All-push (IsBelow (id + 1)) (filter (is_other name) visible) (record { name = name; kind = kind; id = column_at id })
    (All-weaker (IsBelow id) (IsBelow (id + 1)) (λ column less. omega (arith, less)) _ (All-filter (is_other name) (IsBelow id) visible below))
    (omega arith)

-- names and cells
pub names_of-columns : (visible : List OutColumn) → names_of (columns_of visible) ≡ visible_names visible
names_of-columns visible = map_map (λ (column : Column). column.name) column_of visible

pub names_in-named : (visible : List OutColumn) (row : NumberedRow) → names_in (named_row visible row) ≡ visible_names visible
names_in-named visible row = map_map (λ (named : NamedCell). named.name) (named_cell row) visible

pub cells_of-named : (visible : List OutColumn) (row : NumberedRow) → cells_of (named_row visible row) ≡ shown_row visible row
cells_of-named visible row = map_map (λ (named : NamedCell). named.cell) (named_cell row) visible

-- KEEP, DROP and RENAME, on rows
pub kept-named : (patterns : List NamePattern) (visible : List OutColumn) (row : NumberedRow)
    → kept_of_row patterns (named_row visible row) ≡ named_row (at_places (keep_places (visible_names visible) patterns) visible) row
kept-named patterns visible row =
    ap (λ (names : List (List ℕ)). at_places (keep_places names patterns) (named_row visible row)) (names_in-named visible row)
    ∙ at_places-map (named_cell row) (keep_places (visible_names visible) patterns) visible

pub left-named : (patterns : List NamePattern) (visible : List OutColumn) (row : NumberedRow)
    → left_of_row patterns (named_row visible row) ≡ named_row (at_places (drop_places (visible_names visible) patterns) visible) row
left-named patterns visible row =
    ap (λ (names : List (List ℕ)). at_places (drop_places names patterns) (named_row visible row)) (names_in-named visible row)
    ∙ at_places-map (named_cell row) (drop_places (visible_names visible) patterns) visible

pub renamed-named : (pairs : List RenamePair) (visible : List OutColumn) (row : NumberedRow)
    → renamed_row pairs (named_row visible row) ≡ named_row (renamed_by visible_as (renamings (visible_names visible) pairs) visible) row
renamed-named pairs visible row =
    ap (λ (names : List (List ℕ)). renamed_by cell_as (renamings names pairs) (named_row visible row)) (names_in-named visible row)
    ∙ renamed_by-map (named_cell row) visible_as cell_as (λ name column. refl) (renamings (visible_names visible) pairs) visible

-- and on columns
pub columns-kept : (patterns : List NamePattern) (visible : List OutColumn)
    → at_places (keep_places (names_of (columns_of visible)) patterns) (columns_of visible) ≡ columns_of (at_places (keep_places (visible_names visible) patterns) visible)
columns-kept patterns visible =
    ap (λ (names : List (List ℕ)). at_places (keep_places names patterns) (columns_of visible)) (names_of-columns visible)
    ∙ at_places-map column_of (keep_places (visible_names visible) patterns) visible

pub columns-left : (patterns : List NamePattern) (visible : List OutColumn)
    → at_places (drop_places (names_of (columns_of visible)) patterns) (columns_of visible) ≡ columns_of (at_places (drop_places (visible_names visible) patterns) visible)
columns-left patterns visible =
    ap (λ (names : List (List ℕ)). at_places (drop_places names patterns) (columns_of visible)) (names_of-columns visible)
    ∙ at_places-map column_of (drop_places (visible_names visible) patterns) visible

pub columns-renamed : (pairs : List RenamePair) (visible : List OutColumn)
    → renamed_by column_as (renamings (names_of (columns_of visible)) pairs) (columns_of visible) ≡ columns_of (renamed_by visible_as (renamings (visible_names visible) pairs) visible)
columns-renamed pairs visible =
    ap (λ (names : List (List ℕ)). renamed_by column_as (renamings names pairs) (columns_of visible)) (names_of-columns visible)
    ∙ renamed_by-map column_of visible_as column_as (λ name column. refl) (renamings (visible_names visible) pairs) visible

pub below-places : (next : ℕ) (places : List ℕ) (visible : List OutColumn) → AllBelow next visible → AllBelow next (at_places places visible)
below-places next places visible below = All-at_places (IsBelow next) places visible below

pub below-renamed : (next : ℕ) (these : List Renaming) (visible : List OutColumn) → AllBelow next visible → AllBelow next (renamed_by visible_as these visible)
below-renamed next these visible below = All-renamed_by (IsBelow next) visible_as (λ name column less. less) these visible below

-- MV_EXPAND -----------------------------------------------------------------------------------------------------------------

-- the cell of a name is that of its column, or null
pub found_cell : (visible : List OutColumn) (name : List ℕ) (column : OutColumn) (row : NumberedRow) → visible_named visible name ≡ Some column → cell_at (named_row visible row) name ≡ row column.id.0
found_cell [] name column row is = absurd cc
found_cell (first ∷ visible) name column row is =
    elim (bytes_eq first.name name) as (λ same. cond same (Some first) (visible_named visible name) ≡ Some column → cond same (row first.id.0) (cell_at (named_row visible row) name) ≡ row column.id.0)
    [ true ↦ λ here. (let same : first ≡ column = cc in ap (λ (this : OutColumn). row this.id.0) same) | false ↦ λ there. found_cell visible name column row there ] is

no_cell : (visible : List OutColumn) (name : List ℕ) (row : NumberedRow) → visible_named visible name ≡ None → cell_at (named_row visible row) name ≡ []
no_cell [] name row is = refl
no_cell (first ∷ visible) name row is =
    elim (bytes_eq first.name name) as (λ same. cond same (Some first) (visible_named visible name) ≡ None → cond same (row first.id.0) (cell_at (named_row visible row) name) ≡ [])
    [ true ↦ λ here. absurd cc | false ↦ λ there. no_cell visible name row there ] is

-- another cell of a name
named_renumbered : (visible : List OutColumn) (name : List ℕ) (next : ℕ) (row : NumberedRow) (cell : List Value) → AllBelow next visible
    → with_named name cell (named_row visible row) ≡ named_row (map (renumbered name next) visible) (with_cell row next cell)
named_renumbered visible name next row cell below =
    map_map (λ (named : NamedCell). cond (bytes_eq named.name name) (record { name = named.name; cell = cell }) named) (named_cell row) visible
    ∙ map_all (IsBelow next) _ (λ column. named_cell (with_cell row next cell) (renumbered name next column)) one visible below
    ∙ sym (map_map (named_cell (with_cell row next cell)) (renumbered name next) visible)
  where
    one : (column : OutColumn) → column.id.0 < next
        → cond (bytes_eq column.name name) (record { name = column.name; cell = cell }) (named_cell row column) ≡ named_cell (with_cell row next cell) (renumbered name next column)
    one column less =
        elim (bytes_eq column.name name) as (λ same. cond same (record { name = column.name; cell = cell }) (named_cell row column)
        ≡ named_cell (with_cell row next cell) (cond same (record { name = column.name; kind = column.kind; id = column_at next }) column)) [
          | true ↦ ap (λ (these : List Value). record { name = column.name; cell = these }) (sym (cell_put row next cell))
          | false ↦ ap (λ (these : List Value). record { name = column.name; cell = these }) (sym (cell_kept row next column.id.0 cell less))
        ]

not_named : (visible : List OutColumn) (name : List ℕ) (row : NumberedRow) (cell : List Value) → visible_named visible name ≡ None → with_named name cell (named_row visible row) ≡ named_row visible row
not_named [] name row cell is = refl
not_named (column ∷ visible) name row cell is =
    elim (bytes_eq column.name name) as (λ same. cond same (Some column) (visible_named visible name) ≡ None
    → ◌≡◌ {A = Row} (cond same (record { name = column.name; cell = cell }) (named_cell row column) ∷ with_named name cell (named_row visible row)) (named_cell row column ∷ named_row visible row))
    [ true ↦ λ here. absurd cc | false ↦ λ there. ap (λ (rest : Row). named_cell row column ∷ rest) (not_named visible name row cell there) ] is

-- a row for each value, by names as by numbers
pub expanded-named : (visible : List OutColumn) (name : List ℕ) (column : OutColumn) (next : ℕ) (row : NumberedRow) → AllBelow next visible → visible_named visible name ≡ Some column
    → expanded_row name (named_row visible row) ≡ map (named_row (map (renumbered name next) visible)) (expanded row next (row column.id.0))
expanded-named visible name column next row below is =
    ap (expanded_at name (named_row visible row)) (found_cell visible name column row is) ∙ by_cell (row column.id.0)
  where
    each_value : (values : List Value)
        → map (λ (one : Value). with_named name (one ∷ []) (named_row visible row)) values
        ≡ map (named_row (map (renumbered name next) visible)) (map (λ (one : Value). with_cell row next (one ∷ [])) values)
    each_value [] = refl
    each_value (value ∷ values) = λ i. named_renumbered visible name next row (value ∷ []) below i ∷ each_value values i

    by_cell : (cell : List Value) → expanded_at name (named_row visible row) cell ≡ map (named_row (map (renumbered name next) visible)) (expanded row next cell)
    by_cell [] = ap (λ (one : Row). one ∷ []) (named_renumbered visible name next row [] below)
    by_cell (value ∷ values) = each_value (value ∷ values)

-- a name that cannot be seen
pub unexpanded-named : (visible : List OutColumn) (name : List ℕ) (row : NumberedRow) → visible_named visible name ≡ None → expanded_row name (named_row visible row) ≡ named_row visible row ∷ []
unexpanded-named visible name row is =
    ap (expanded_at name (named_row visible row)) (no_cell visible name row is) ∙ ap (λ (one : Row). one ∷ []) (not_named visible name row [] is)

pub columns-renumbered : (name : List ℕ) (next : ℕ) (visible : List OutColumn) → columns_of (map (renumbered name next) visible) ≡ columns_of visible
columns-renumbered name next [] = refl
columns-renumbered name next (column ∷ visible) = λ i. one i ∷ columns-renumbered name next visible i
  where
    one : column_of (renumbered name next column) ≡ column_of column
    one =
        elim (bytes_eq column.name name) as (λ same. column_of (cond same (record { name = column.name; kind = column.kind; id = column_at next }) column) ≡ column_of column) [ true ↦ refl | false ↦ refl ]

pub below-renumbered : (name : List ℕ) (next : ℕ) (visible : List OutColumn) → AllBelow next visible → AllBelow (next + 1) (map (renumbered name next) visible)
below-renumbered name next visible below =
    All-map (IsBelow (next + 1)) (renumbered name next) visible (All-weaker (IsBelow next) (λ column. IsBelow (next + 1) (renumbered name next column)) one visible below)
  where
    one : (column : OutColumn) → column.id.0 < next → (renumbered name next column).id.0 < next + 1
    one column less =
        elim (bytes_eq column.name name) as (λ same. (cond same (record { name = column.name; kind = column.kind; id = column_at next }) column).id.0 < next + 1)
        [ true ↦ omega arith | false ↦ omega (arith, less) ]

-- columns that are numbered in turn are the same columns
pub columns_of-numbered : (next : ℕ) (columns : List Column) → columns_of (numbered_from next columns) ≡ columns
columns_of-numbered next [] = refl
columns_of-numbered next (column ∷ columns) = ap (λ (these : List Column). column ∷ these) (columns_of-numbered (next + 1) columns)
