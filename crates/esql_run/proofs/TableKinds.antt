-- The rows that were loaded are those of tables of the catalog.
use Rattle.std.proofs.Common.{◌≡◌, true, List, [], ◌∷◌, All, map, refl, sym, subst, ap}
use Rattle.std.specs.List.{AllZip}
use Rattle.std.proofs.lemmas.List.Elements.{All-nil, All-cons, All-head, All-tail, All-weaker}
use Rattle.esql_types.specs.declared.value.Kind.{Kind}
use Rattle.esql_types.specs.declared.value.Kind.TheVariants.{Integer, Long as LongKind, Boolean, Keyword, Null}
use Rattle.esql_types.specs.declared.value.Value.{Value}
use Rattle.esql_types.specs.declared.value.Value.TheVariants.{Int, Long, Bool as Truth, Text as Word}
use Rattle.esql_types.specs.declared.names.Column.{Column}
use Rattle.esql_types.specs.Values.{kind_of_value}
use Rattle.esql_plan.specs.declared.catalog.Catalog.{Catalog}
use Rattle.esql_plan.specs.declared.catalog.PolicyShape.{PolicyShape}
use Rattle.esql_plan.specs.declared.catalog.TableShape.{TableShape}
use Rattle.esql_plan.specs.Signatures.{same_kind}
use Rattle.esql_plan.specs.Fits.{has_kind}
use Rattle.plan_semantics.specs.Tables.{catalog_tables}
use Rattle.plan_semantics.specs.WellFormed.{IsTable, AreTables}
use Rattle.plan_rows.specs.Held.{shapes_held, tables_held}
use Rattle.ndjson_load.specs.declared.column.MappedColumn.{MappedColumn}
use Rattle.ndjson_load.specs.Shapes.{is_of_kind, IsLoadable, IsRowOf}
use Rattle.table_files.specs.declared.tables.FoundTable.{FoundTable}
use Rattle.table_files.specs.Catalog.{Rows}
use Rattle.table_files.specs.Catalogs.{catalog_of, columns_of, shape_of}
use Rattle.table_files.specs.Tables.{IsTableOf}

value_kind : (kind : Kind) (value : Value) → is_of_kind kind value ≡ true → same_kind (kind_of_value value) kind ≡ true
value_kind Integer (Int number) is = refl
value_kind Integer (Long number) is = absurd cc
value_kind Integer (Truth truth) is = absurd cc
value_kind Integer (Word text) is = absurd cc
value_kind LongKind (Int number) is = absurd cc
value_kind LongKind (Long number) is = refl
value_kind LongKind (Truth truth) is = absurd cc
value_kind LongKind (Word text) is = absurd cc
value_kind Boolean (Int number) is = absurd cc
value_kind Boolean (Long number) is = absurd cc
value_kind Boolean (Truth truth) is = refl
value_kind Boolean (Word text) is = absurd cc
value_kind Keyword (Int number) is = absurd cc
value_kind Keyword (Long number) is = absurd cc
value_kind Keyword (Truth truth) is = absurd cc
value_kind Keyword (Word text) is = refl
value_kind Null (Int number) is = absurd cc
value_kind Null (Long number) is = absurd cc
value_kind Null (Truth truth) is = absurd cc
value_kind Null (Word text) is = absurd cc

abbrev IsOfKind : Kind → Value → Type 0
IsOfKind kind value = is_of_kind kind value ≡ true

cell_kind : (kind : Kind) (cell : List Value) → All (IsOfKind kind) cell → has_kind kind cell ≡ true
cell_kind kind [] are = refl
cell_kind kind (value ∷ cell) are =
    rw (value_kind kind value (All-head (IsOfKind kind) value cell are)) (cell_kind kind cell (All-tail (IsOfKind kind) value cell are))

abbrev HasKindOf : Column → List Value → Type 0
HasKindOf column cell = has_kind column.kind cell ≡ true

row_kinds : (columns : List MappedColumn) (row : List (List Value)) → IsRowOf columns row → AllZip HasKindOf (columns_of columns) row
row_kinds [] [] is = tt
row_kinds [] (cell ∷ row) is = absurd is
row_kinds (mapped ∷ columns) [] is = absurd is
row_kinds (mapped ∷ columns) (cell ∷ row) is = (cell_kind mapped.column.kind cell is.0, row_kinds columns row is.1)

abbrev LoadsAll : FoundTable → Type 0
LoadsAll source = All IsLoadable source.columns

table_kinds : (source : FoundTable) (rows : Rows) → LoadsAll source → IsTableOf source rows → IsTable (record { shape = shape_of source; rows = rows })
table_kinds source rows loadable is =
    All-weaker (IsRowOf source.columns) (λ (row : List (List Value)). AllZip HasKindOf (columns_of source.columns) row) (λ row. row_kinds source.columns row) rows (is.kinds loadable)

shapes_same : (sources : List FoundTable) (tables : List Rows) → AllZip IsTableOf sources tables → map shape_of sources ≡ catalog_tables (shapes_held (map shape_of sources) tables)
shapes_same [] [] all = refl
shapes_same [] (rows ∷ tables) all = absurd all
shapes_same (source ∷ sources) [] all = absurd all
shapes_same (source ∷ sources) (rows ∷ tables) all = ap (λ shapes. shape_of source ∷ shapes) (shapes_same sources tables all.1)

held_kinds : (sources : List FoundTable) (tables : List Rows) → All LoadsAll sources → AllZip IsTableOf sources tables → All IsTable (shapes_held (map shape_of sources) tables)
held_kinds [] [] loadable all = All-nil IsTable
held_kinds [] (rows ∷ tables) loadable all = absurd all
held_kinds (source ∷ sources) [] loadable all = absurd all
held_kinds (source ∷ sources) (rows ∷ tables) loadable all =
    All-cons IsTable (record { shape = shape_of source; rows = rows }) (shapes_held (map shape_of sources) tables)
    (table_kinds source rows (All-head LoadsAll source sources loadable) all.0) (held_kinds sources tables (All-tail LoadsAll source sources loadable) all.1)

pub are_tables : (catalog : Catalog) (sources : List FoundTable) (policies : List PolicyShape) (tables slice : List Rows) → catalog ≡ catalog_of sources policies → slice ≡ tables
    → All (λ (source : FoundTable). All IsLoadable source.columns) sources → AllZip IsTableOf sources tables → AreTables catalog (tables_held catalog slice)
are_tables catalog sources policies tables slice is same loadable all =
    subst (λ (c : Catalog). AreTables c (tables_held c slice)) (sym is)
    (subst (λ (ts : List Rows). AreTables (catalog_of sources policies) (tables_held (catalog_of sources policies) ts)) (sym same)
    (record {
      shapes = ap (λ (shapes : List TableShape). record { tables = shapes; policies = policies }) (shapes_same sources tables all);
      kinds = held_kinds sources tables loadable all;
    }))
