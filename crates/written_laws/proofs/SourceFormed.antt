-- The source of a written plan is well formed, and makes the columns that can be seen before the first step.
use Rattle.std.proofs.Common.{◌≡◌, ℕ, ◌+◌, ◌≤◌, ◌<◌, ◌==◌, false, List, [], ◌∷◌, map, length, All, IfSome, Ok, refl, ap, sym, subst, arith}
use Rattle.std.specs.Prelude.{slice_get}
use Rattle.std.specs.List.{AllByRecursion, IsDistinct}
use Rattle.std.proofs.lemmas.Map.Keys.{IsDistinct-cons}
use Rattle.std.proofs.lemmas.Option.{IfSome_then}
use Rattle.std.proofs.lemmas.List.Elements.{All-nil, All-cons, All-head, All-tail, All-weaker, All-map, Contains-append_left, Contains-append_right, Contains-push}
use Rattle.esql_types.specs.declared.names.Column.{Column}
use Rattle.esql_ast.specs.declared.query.SourceCommand.{SourceCommand}
use Rattle.esql_ast.specs.declared.query.SourceCommand.TheVariants.{Tables, OneRow}
use Rattle.esql_plan.specs.declared.catalog.Catalog.{Catalog}
use Rattle.esql_plan.specs.declared.plan.OutColumn.{OutColumn}
use Rattle.esql_plan.specs.declared.plan.ScanColumn.{ScanColumn}
use Rattle.plan_semantics.specs.WellFormed.{MadeColumn, made_as, source_made, Bounds, kind_named, IsScannedAs, SourceStands}
use Rattle.row_semantics.specs.Sources.{tables_named, columns_of_tables, columns_or_none}
use Rattle.query_semantics.specs.Catalogs.{IsCatalog}
use Rattle.query_semantics.specs.Shapes.{Context, shape_of_source, unless_empty}
use Rattle.query_semantics.specs.Writings.{column_at}
use Rattle.query_semantics.specs.Written.{numbered_from, scan_column, writing_of_columns, source_in_plan, write_source}
use Rattle.query_semantics.proofs.Named.{IsBelow, eq_below}
use Rattle.query_semantics.proofs.Kinded.{found_of}
use Rattle.written_laws.proofs.Sources.{IsFrom, all_from, all_below}
use Rattle.written_laws.proofs.ColumnsTyped.{OutIsMade}
use Rattle.written_laws.proofs.TablesScanned.{HasKindOf, IsScanned, tables_scanned}
use Rattle.written_laws.proofs.MadeOnce.{IsMadeBelow, IsOnce, IsOtherThan, none_made_once, once_cons}
use Rattle.written_laws.proofs.StepsFormed.{Start, IsFormed, fields_formed}

abbrev scanned : List OutColumn → List ScanColumn
scanned visible = map scan_column visible

abbrev scan_made : List OutColumn → List MadeColumn
scan_made visible = map (λ (column : ScanColumn). made_as column.to column.kind) (scanned visible)

all_made : (visible : List OutColumn) → All (OutIsMade (scan_made visible)) visible
all_made [] = All-nil (OutIsMade [])
all_made (out ∷ visible) =
    let new : MadeColumn = made_as out.id out.kind in
    All-cons (OutIsMade (scan_made (out ∷ visible))) out visible (Contains-append_left (new ∷ []) (scan_made visible) new (Contains-push [] new))
    (All-weaker (OutIsMade (scan_made visible)) (OutIsMade (scan_made (out ∷ visible))) (λ other there. Contains-append_right (new ∷ []) (scan_made visible) (made_as other.id other.kind) there) visible (all_made visible))

abbrev ids : List OutColumn → List ℕ
ids visible = map (λ (column : ScanColumn). column.to.0) (scanned visible)

later_ids : (n next : ℕ) (columns : List Column) → n < next → AllByRecursion (λ m. n == m ≡ false) (ids (numbered_from next columns))
later_ids n next [] less = tt
later_ids n next (column ∷ columns) less = (eq_below n next less, later_ids n (next + 1) columns (omega (arith, less)))

pub none_once : IsDistinct (λ (this that : ℕ). this == that) []
unfolding IsDistinct
none_once = tt

-- the columns of a scan are made once
pub once : (next : ℕ) (columns : List Column) → IsDistinct (λ this that. this == that) (ids (numbered_from next columns))
once next [] = none_once
once next (column ∷ columns) = IsDistinct-cons (λ this that. this == that) next (ids (numbered_from (next + 1) columns)) (later_ids next (next + 1) columns (omega arith)) (once (next + 1) columns)

-- a table gives each column of a scan that it has the scan's kind
table_kinds : (own : List Column) (next : ℕ) (columns : List Column) → All (HasKindOf own) columns
    → All (λ (column : ScanColumn). IfSome (kind_named own column.name) (λ kind. kind ≡ column.kind)) (scanned (numbered_from next columns))
table_kinds own next [] all = All-nil (λ (column : ScanColumn). IfSome (kind_named own column.name) (λ kind. kind ≡ column.kind))
table_kinds own next (column ∷ columns) all =
    All-cons (λ (column : ScanColumn). IfSome (kind_named own column.name) (λ kind. kind ≡ column.kind)) _ (scanned (numbered_from (next + 1) columns))
    (All-head (HasKindOf own) column columns all) (table_kinds own (next + 1) columns (All-tail (HasKindOf own) column columns all))

numbers_once : (next : ℕ) (columns : List Column) → IsOnce (scan_made (numbered_from next columns))
numbers_once next [] = none_made_once
numbers_once next (column ∷ columns) =
    once_cons (made_as (column_at next) column.kind) (scan_made (numbered_from (next + 1) columns))
    (All-map (IsOtherThan next) (λ (scan : ScanColumn). made_as scan.to scan.kind) (scanned (numbered_from (next + 1) columns))
    (All-map (λ (scan : ScanColumn). next == scan.to.0 ≡ false) scan_column (numbered_from (next + 1) columns)
    (All-weaker (IsFrom (next + 1)) (λ (out : OutColumn). next == out.id.0 ≡ false) (λ out from. eq_below next out.id.0 (omega (arith, from))) (numbered_from (next + 1) columns) (all_from (next + 1) columns))))
    (numbers_once (next + 1) columns)

abbrev source_of : Context → SourceCommand → List MadeColumn
source_of context command = source_made (source_in_plan context.catalog command)

-- how many columns the source makes
abbrev pub count_made : Context → SourceCommand → ℕ
count_made context (Tables node span tables) = length (columns_or_none (columns_of_tables context.catalog.tables tables))
count_made context (OneRow node span fields) = 0

-- what a plan begins with that reads from the source
abbrev pub start_of : Context → SourceCommand → Start
start_of context command = record { catalog = context.catalog; columns = count_made context command }

columns_formed : (catalog : Catalog) (columns : List Column) → IsFormed (scan_made (numbered_from 0 columns)) (record { catalog = catalog; columns = length columns }) (writing_of_columns columns)
columns_formed catalog columns = record {
  columns = record {
    seen = all_made (numbered_from 0 columns);
    below = All-map (IsMadeBelow (length columns)) (λ (column : ScanColumn). made_as column.to column.kind) (scanned (numbered_from 0 columns))
        (All-map (λ (column : ScanColumn). column.to.0 < length columns) scan_column (numbered_from 0 columns) (all_below 0 (length columns) columns (omega arith)));
    once = numbers_once 0 columns;
  };
  later = omega arith;
  stand = λ bounds within. All-nil (OutIsMade (scan_made (numbered_from 0 columns)));
}

nothing_formed : (catalog : Catalog) → IsFormed [] (record { catalog = catalog; columns = 0 }) (writing_of_columns [])
nothing_formed catalog = record {
  columns = record { seen = All-nil (OutIsMade []); below = All-nil (IsMadeBelow 0); once = none_made_once };
  later = omega arith;
  stand = λ bounds within. All-nil (OutIsMade []);
}

-- what the source writes is well formed over the columns that it makes
pub source_formed : (context : Context) (command : SourceCommand) (columns : List Column) → shape_of_source context command ≡ Ok columns
    → IsFormed (source_made (source_in_plan context.catalog command)) (start_of context command) (write_source context.text context.catalog command)
source_formed context (Tables node span tables) columns is = columns_formed context.catalog (columns_or_none (columns_of_tables context.catalog.tables tables))
source_formed context (OneRow node span fields) columns is = fields_formed [] (start_of context (OneRow node span fields)) context fields [] columns (writing_of_columns []) (nothing_formed context.catalog) refl is

-- the tables are there, and its columns are made once
pub source_stands : (context : Context) (command : SourceCommand) (columns : List Column) → IsCatalog context.catalog → shape_of_source context command ≡ Ok columns
    → (bounds : Bounds) → count_made context command ≤ bounds.columns → SourceStands context.catalog bounds (source_in_plan context.catalog command)
source_stands context (Tables node span tables) columns is_catalog is bounds few =
    let found = found_of (columns_of_tables context.catalog.tables tables) (unless_empty span) columns is in
    let own : List Column = columns_or_none (columns_of_tables context.catalog.tables tables) in
    let are : found.value ≡ own = ap columns_or_none (sym found.is) in
    let scan : All (IsScanned context.catalog.tables own) (tables_named context.catalog.tables tables) =
    subst (λ (these : List Column). All (IsScanned context.catalog.tables these) (tables_named context.catalog.tables tables)) are
    (tables_scanned context.catalog.tables is_catalog.columns tables [] found.value [] (All-nil (IsScanned context.catalog.tables [])) found.is) in
    record {
      tables = All-weaker (IsScanned context.catalog.tables own) (IsScannedAs context.catalog (scanned (numbered_from 0 own)))
          (λ number here. record {
            there = here.there;
            kinds = IfSome_then (slice_get context.catalog.tables number) here.table (λ table agrees. table_kinds table.columns 0 own agrees.kinds);
          })
          (tables_named context.catalog.tables tables) scan;
      below = All-map (λ (column : ScanColumn). column.to.0 < bounds.columns) scan_column (numbered_from 0 own)
          (All-weaker (IsBelow (length own)) (IsBelow bounds.columns) (λ column less. omega (arith, less, few)) (numbered_from 0 own) (all_below 0 (length own) own (omega arith)));
      once = once 0 own;
    }
source_stands context (OneRow node span fields) columns is_catalog is bounds few = tt
