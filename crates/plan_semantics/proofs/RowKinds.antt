-- Rows that have cells of their kinds in the columns that are made, and those of a source.
use Rattle.std.proofs.Common.{◌≡◌, ℕ, zero, suc, ◌==◌, Bool, true, false, List, [], ◌∷◌, map, All, Option, Some, None, option_map, slice_get, refl, ap, sym, subst, ◌∙◌, arith, if◌then◌else◌}
use Rattle.std.specs.Prelude.{IfSome}
use Rattle.std.specs.List.{flat_map, AllZip, AllByRecursion, IsDistinct}
use Rattle.std.specs.Str.{bytes_eq}
use Rattle.std.specs.Ordering.{is_gt}
use Rattle.std.specs.declared.cmp.Ordering.{Ordering}
use Rattle.std.proofs.lemmas.List.Elements.{All-nil, All-cons, All-head, All-tail, All-append, All-contains}
use Rattle.std.proofs.lemmas.Option.{slice_get-map}
use Rattle.std.proofs.lemmas.Map.Made.{Contains-tail}
use Rattle.std.proofs.lemmas.Map.Keys.{IsDistinct-head, IsDistinct-tail}
use Rattle.esql_types.specs.declared.value.Value.{Value}
use Rattle.esql_types.specs.declared.value.Kind.{Kind}
use Rattle.esql_types.specs.declared.names.Column.{Column as NamedColumn}
use Rattle.esql_types.specs.declared.names.ColId.{ColId}
use Rattle.function_rules.specs.Lists.{put_in_order, sorted_by}
use Rattle.esql_plan.specs.declared.typed.TypedExpr.{TypedExpr}
use Rattle.esql_plan.specs.declared.catalog.Catalog.{Catalog}
use Rattle.esql_plan.specs.declared.plan.PlanSource.{PlanSource}
use Rattle.esql_plan.specs.declared.plan.PlanSource.TheVariants.{OneRow, Scan}
use Rattle.esql_plan.specs.declared.plan.ScanColumn.{ScanColumn}
use Rattle.esql_plan.specs.declared.plan.OutColumn.{OutColumn}
use Rattle.esql_plan.specs.declared.step.Step.{Step}
use Rattle.esql_plan.specs.Values.{NumberedRow}
use Rattle.esql_plan.specs.Fits.{ReadColumn, RowFits, columns_read, has_kind}
use Rattle.plan_semantics.specs.Tables.{TableHeld, catalog_tables, cell_named, empty_row, with_cell, scan_row, scan_table, source_rows}
use Rattle.plan_semantics.specs.Plans.{columns_of, shown_row}
use Rattle.plan_semantics.specs.WellFormed.{Bounds, MadeColumn, made_as, IsMadeAs, IsMade, IsNew, kind_made, source_made, step_made, steps_made, ExprStands, StepsStand, SourceStands, IsScannedAs, kind_named, IsTable, RowHas}
use Rattle.plan_semantics.specs.Laws.{IsKept}
use Rattle.plan_semantics.proofs.Keeps.{kept_at_new}
use Rattle.plan_semantics.proofs.ResultKinds.{Has}

-- lists of rows ------------------------------------------------------------------------------------------------------------------------

pub all_flat : {A B : Type 0} (P : A → Type 0) (Q : B → Type 0) (f : A → List B) → ((a : A) → P a → All Q (f a)) → (xs : List A) → All P xs → All Q (flat_map f xs)
all_flat P Q f each [] all = All-nil Q
all_flat P Q f each (x ∷ xs) all = All-append Q (f x) (flat_map f xs) (each x (All-head P x xs all)) (all_flat P Q f each xs (All-tail P x xs all))

module _ {Item : Type 0} (P : Item → Type 0) (order : Item → Item → Ordering) where
  all_put : (item : Item) (items : List Item) → P item → All P items → All P (put_in_order order item items)
  all_put item [] own all = All-cons P item [] own all
  all_put item (first ∷ rest) own all =
      elim (is_gt (order item first)) as (λ b. All P (if b then first ∷ put_in_order order item rest else item ∷ first ∷ rest)) [
        | true ↦ All-cons P first (put_in_order order item rest) (All-head P first rest all) (all_put item rest own (All-tail P first rest all))
        | false ↦ All-cons P item (first ∷ rest) own all
      ]

  pub all_sorted : (items : List Item) → All P items → All P (sorted_by order items)
  all_sorted [] all = all
  all_sorted (item ∷ items) all = all_put item (sorted_by order items) (All-head P item items all) (all_sorted items (All-tail P item items all))

-- one row ---------------------------------------------------------------------------------------------------------------------------------

-- the cell of a column that is made has its kind in the row
abbrev pub HasColumn : NumberedRow → MadeColumn → Type 0
HasColumn row column = has_kind column.kind (row column.id) ≡ true

pub kept_has : (made : List MadeColumn) (before after : NumberedRow) → IsKept made before after → RowHas made before → RowHas made after
kept_has [] before after kept has = All-nil (HasColumn after)
kept_has (column ∷ made) before after kept has =
    let Q : MadeColumn → Type 0 = λ column. after column.id ≡ before column.id in
    All-cons (HasColumn after) column made
    (subst (λ cell. Has column.kind cell) (sym (All-head Q column made kept)) (All-head (HasColumn before) column made has))
    (kept_has made before after (All-tail Q column made kept) (All-tail (HasColumn before) column made has))

own_number : (id : ℕ) → id == id ≡ true
own_number id = grind arith

pub put_there : (row : NumberedRow) (id : ℕ) (cell : List Value) → with_cell row id cell id ≡ cell
put_there row id cell = ap (λ (b : Bool). if b then cell else row id) (own_number id)

-- a row with a cell of its kind in a new column
pub has_new : (made : List MadeColumn) (to : ColId) (kind : Kind) (row : NumberedRow) (cell : List Value) → IsNew made to → Has kind cell → RowHas made row
    → RowHas (made_as to kind ∷ made) (with_cell row to.0 cell)
has_new made to kind row cell new own has =
    All-cons (HasColumn (with_cell row to.0 cell)) (made_as to kind) made
    (subst (λ cell. Has kind cell) (sym (put_there row to.0 cell)) own)
    (kept_has made row (with_cell row to.0 cell) (kept_at_new made to row cell new) has)

-- an expression that stands over columns fits a row that has them
reads_fit : (made : List MadeColumn) (row : NumberedRow) → RowHas made row → (columns : List ReadColumn) → All (λ (column : ReadColumn). IsMadeAs made column.id column.kind) columns
    → All (λ (column : ReadColumn). has_kind column.kind (row column.id.0) ≡ true) columns
reads_fit made row has [] reads = All-nil (λ (column : ReadColumn). has_kind column.kind (row column.id.0) ≡ true)
reads_fit made row has (column ∷ columns) reads =
    let R : ReadColumn → Type 0 = λ column. IsMadeAs made column.id column.kind in
    All-cons (λ (column : ReadColumn). has_kind column.kind (row column.id.0) ≡ true) column columns
    (All-contains (HasColumn row) made (made_as column.id column.kind) has (All-head R column columns reads))
    (reads_fit made row has columns (All-tail R column columns reads))

pub expr_fits_row : (bounds : Bounds) (made : List MadeColumn) (expr : TypedExpr) → ExprStands bounds made expr → (row : NumberedRow) → RowHas made row → RowFits expr row
expr_fits_row bounds made expr stands row has = reads_fit made row has (columns_read expr) stands.reads

-- the cell of a column has the kind that it is made with
pub made_has : (made : List MadeColumn) (id : ColId) (row : NumberedRow) → IsMade made id → RowHas made row → Has (kind_made made id) (row id.0)
made_has [] id row is has = absurd (omega (arith, is.1))
made_has (column ∷ made) id row is has = by_case (id.0 == column.id) refl (made_has made id row)
  where
    by_case : (b : Bool) → id.0 == column.id ≡ b → (IsMade made id → RowHas made row → Has (kind_made made id) (row id.0)) → Has (if id.0 == column.id then column.kind else kind_made made id) (row id.0)
    by_case true here rest =
        let same : column.id ≡ id.0 = grind (arith, here) in
        subst (λ (b : Bool). Has (if b then column.kind else kind_made made id) (row id.0)) (sym here)
        (subst (λ number. Has column.kind (row number)) same (All-head (HasColumn row) column made has))
    by_case false here rest =
        let other : column.id ≡ id.0 → ⊥ = λ same. (let no : false ≡ true = sym here ∙ ap (λ number. id.0 == number) same ∙ own_number id.0 in cc) in
        subst (λ (b : Bool). Has (if b then column.kind else kind_made made id) (row id.0)) (sym here)
        (rest (Contains-tail column.id (map (λ (column : MadeColumn). column.id) made) id.0 other is) (All-tail (HasColumn row) column made has))

-- the columns that are shown ----------------------------------------------------------------------------------------------------------------

-- what steps show is made by them
pub shown_made : (bounds : Bounds) (output : List OutColumn) (made : List MadeColumn) (steps : List Step) → StepsStand bounds output made steps
    → All (λ (out : OutColumn). IsMadeAs (steps_made made steps) out.id out.kind) output
shown_made bounds output made [] stands = stands
shown_made bounds output made (step ∷ steps) stands = shown_made bounds output (step_made made step) steps stands.1

abbrev pub CellFits : NamedColumn → List Value → Type 0
CellFits column cell = has_kind column.kind cell ≡ true

pub shown_kinds : (made : List MadeColumn) (row : NumberedRow) → RowHas made row → (output : List OutColumn) → All (λ (out : OutColumn). IsMadeAs made out.id out.kind) output
    → AllZip CellFits (columns_of output) (shown_row output row)
shown_kinds made row has [] all = tt
shown_kinds made row has (out ∷ output) all =
    let Q : OutColumn → Type 0 = λ out. IsMadeAs made out.id out.kind in
    (All-contains (HasColumn row) made (made_as out.id out.kind) has (All-head Q out output all), shown_kinds made row has output (All-tail Q out output all))

-- sources -------------------------------------------------------------------------------------------------------------------------------------

-- the kind that a table gives a name is this
abbrev pub NamesKind : List NamedColumn → List ℕ → Kind → Type 0
NamesKind columns name kind = IfSome (kind_named columns name) (λ given. given ≡ kind)

-- the kind that a table gives a name is the scan's
abbrev GivesScanKind : List NamedColumn → ScanColumn → Type 0
GivesScanKind columns scanned = NamesKind columns scanned.name scanned.kind

pub named_has : (columns : List NamedColumn) (cells : List (List Value)) (name : List ℕ) (kind : Kind) → AllZip CellFits columns cells → NamesKind columns name kind
    → Has kind (cell_named columns cells name)
named_has [] cells name kind fits gives = refl
named_has (column ∷ columns) [] name kind fits gives = refl
named_has (column ∷ columns) (cell ∷ cells) name kind fits gives =
    elim (bytes_eq column.name name) as (λ b. IfSome (if b then Some column.kind else kind_named columns name) (λ given. given ≡ kind)
    → (NamesKind columns name kind → Has kind (cell_named columns cells name))
    → Has kind (if b then cell else cell_named columns cells name))
    [ true ↦ λ same rest. subst (λ kind. Has kind cell) same fits.0 | false ↦ λ later rest. rest later ] gives (named_has columns cells name kind fits.1)

abbrev scan_made : List ScanColumn → List MadeColumn
scan_made scanned = map (λ (column : ScanColumn). made_as column.to column.kind) scanned

abbrev same_number : ℕ → ℕ → Bool
same_number this that = this == that

new_among : (id : ℕ) (more : List ScanColumn) → AllByRecursion (λ other. id == other ≡ false) (map (λ (column : ScanColumn). column.to.0) more)
    → All (λ (column : MadeColumn). id == column.id ≡ false) (scan_made more)
new_among id [] all = All-nil (λ (column : MadeColumn). id == column.id ≡ false)
new_among id (one ∷ more) all = All-cons (λ (column : MadeColumn). id == column.id ≡ false) (made_as one.to one.kind) (scan_made more) all.0 (new_among id more all.1)

scan_has : (columns : List NamedColumn) (cells : List (List Value)) → AllZip CellFits columns cells → (scanned : List ScanColumn)
    → IsDistinct same_number (map (λ (column : ScanColumn). column.to.0) scanned) → All (GivesScanKind columns) scanned → RowHas (scan_made scanned) (scan_row scanned columns cells)
scan_has columns cells fits [] once gives = All-nil (HasColumn empty_row)
scan_has columns cells fits (one ∷ more) once gives =
    let ids : List ℕ = map (λ (column : ScanColumn). column.to.0) more in
    has_new (scan_made more) one.to one.kind (scan_row more columns cells) (cell_named columns cells one.name)
    (new_among one.to.0 more (IsDistinct-head same_number one.to.0 ids once))
    (named_has columns cells one.name one.kind fits (All-head (GivesScanKind columns) one more gives))
    (scan_has columns cells fits more (IsDistinct-tail same_number one.to.0 ids once) (All-tail (GivesScanKind columns) one more gives))

rows_scanned : (table : TableHeld) (scanned : List ScanColumn) → IsDistinct same_number (map (λ (column : ScanColumn). column.to.0) scanned) → All (GivesScanKind table.shape.columns) scanned
    → (rows : List (List (List Value))) → All (λ cells. AllZip CellFits table.shape.columns cells) rows → All (RowHas (scan_made scanned)) (map (scan_row scanned table.shape.columns) rows)
rows_scanned table scanned once gives [] all = All-nil (RowHas (scan_made scanned))
rows_scanned table scanned once gives (cells ∷ rows) all =
    let Q : List (List Value) → Type 0 = λ cells. AllZip CellFits table.shape.columns cells in
    All-cons (RowHas (scan_made scanned)) (scan_row scanned table.shape.columns cells) (map (scan_row scanned table.shape.columns) rows)
    (scan_has table.shape.columns cells (All-head Q cells rows all) scanned once gives)
    (rows_scanned table scanned once gives rows (All-tail Q cells rows all))

all_at : {Item : Type 0} (P : Item → Type 0) (items : List Item) (place : ℕ) (item : Item) → slice_get items place ≡ Some item → All P items → P item
all_at P [] place item is all = cc
all_at P (first ∷ items) zero item is all = let same : first ≡ item = cc in subst P same (All-head P first items all)
all_at P (first ∷ items) (suc place) item is all = all_at P items place item is (All-tail P first items all)

-- what a scan takes of a table that may be there
scanned_of : (scanned : List ScanColumn) → IsDistinct same_number (map (λ (column : ScanColumn). column.to.0) scanned) → (found : Option TableHeld)
    → IfSome found IsTable → IfSome (option_map (λ (table : TableHeld). table.shape) found) (λ shape. All (GivesScanKind shape.columns) scanned)
    → All (RowHas (scan_made scanned)) (scan_table scanned found)
scanned_of scanned once None table gives = All-nil (RowHas (scan_made scanned))
scanned_of scanned once (Some table) is gives = rows_scanned table scanned once gives table.rows is

pub found_table : (tables : List TableHeld) (number : ℕ) → All IsTable tables → (found : Option TableHeld) → slice_get tables number ≡ found → IfSome found IsTable
found_table tables number all None is = tt
found_table tables number all (Some table) is = all_at IsTable tables number table is all

pub source_kinds : (catalog : Catalog) (bounds : Bounds) (tables : List TableHeld) → catalog.tables ≡ catalog_tables tables → All IsTable tables
    → (source : PlanSource) → SourceStands catalog bounds source → All (RowHas (source_made source)) (source_rows tables source)
source_kinds catalog bounds tables shapes all OneRow stands = All-cons (RowHas []) empty_row [] (All-nil (HasColumn empty_row)) (All-nil (RowHas []))
source_kinds catalog bounds tables shapes all (Scan numbers scanned) stands =
    all_flat (IsScannedAs catalog scanned) (RowHas (scan_made scanned)) (λ number. scan_table scanned (slice_get tables number))
    (λ number is.
    scanned_of scanned stands.once (slice_get tables number) (found_table tables number all (slice_get tables number) refl)
    (subst (λ found. IfSome found (λ shape. All (GivesScanKind shape.columns) scanned))
    (ap (λ these. slice_get these number) shapes ∙ slice_get-map (λ (table : TableHeld). table.shape) tables number) is.kinds))
    numbers stands.tables
