-- The catalog of the tables and policies that were found is one that queries are judged by.
use Rattle.std.proofs.Common.{◌≡◌, ℕ, ◌+◌, ◌≤◌, ◌<◌, true, false, List, [], ◌∷◌, map, length, get_or, All, refl, sym, ap, subst, ◌∙◌, arith}
use Rattle.std.specs.Cmp.Lexicographic.{slice_cmp}
use Rattle.std.specs.List.{IsDistinct}
use Rattle.std.specs.Ordering.{is_lt, is_eq, nat_cmp}
use Rattle.std.specs.Str.{bytes_eq}
use Rattle.std.specs.declared.cmp.Ordering.{Ordering}
use Rattle.std.specs.declared.cmp.Ordering.TheVariants.{Less, Equal, Greater}
use Rattle.std.proofs.lemmas.List.{get_or-map, length-map}
use Rattle.std.proofs.lemmas.List.Elements.{All-map, All-weaker}
use Rattle.std.proofs.lemmas.Map.Keys.{IsDistinct-from_apart}
use Rattle.std.proofs.lemmas.Map.Text.{is_eq-slice_cmp}
use Rattle.esql_types.specs.declared.names.Column.{Column}
use Rattle.ndjson_load.specs.Shapes.{NamesRise}
use Rattle.ndjson_load.specs.declared.column.MappedColumn.{MappedColumn}
use Rattle.query_semantics.specs.Catalogs.{entries_of as catalog_entries, entries_of_policies as policy_entries, IsCatalog}
use Rattle.row_semantics.specs.Columns.{HaveDistinctNames}
use Rattle.esql_plan.specs.declared.catalog.Catalog.{Catalog}
use Rattle.esql_plan.specs.declared.catalog.PolicyShape.{PolicyShape}
use Rattle.esql_plan.specs.declared.catalog.TableShape.{TableShape}
use Rattle.plan_semantics.specs.WellFormed.{IsPolicyTable}
use Rattle.table_files.specs.declared.tables.FoundTable.{FoundTable}
use Rattle.table_files.specs.Catalogs.{catalog_of, columns_of, shape_of}
use Rattle.table_files.specs.Shapes.{AreApart, entries_of, entries_of_policies}

-- ---- the columns of a table

less_apart : (o : Ordering) → is_lt o ≡ true → is_eq o ≡ false
less_apart Less is = refl
less_apart Equal is = absurd cc
less_apart Greater is = absurd cc

less_differ : (one other : List ℕ) → is_lt (slice_cmp nat_cmp one other) ≡ true → bytes_eq one other ≡ false
less_differ one other less = sym (is_eq-slice_cmp one other) ∙ less_apart (slice_cmp nat_cmp one other) less

abbrev mapped_name : MappedColumn → List ℕ
mapped_name mapped = mapped.column.name

mapped_differ : (columns : List MappedColumn) (d : MappedColumn) → NamesRise columns → AreApart (map mapped_name columns)
mapped_differ columns d rise =
    IsDistinct-from_apart bytes_eq (map mapped_name columns) (λ i j e before within.
    let inside : j < length columns = subst (λ (n : ℕ). j < n) (length-map columns mapped_name) within in
    let at : get_or (map mapped_name columns) i e ≡ mapped_name (get_or columns i d) = get_or-map mapped_name columns i d e (omega arith) in
    let later : get_or (map mapped_name columns) j e ≡ mapped_name (get_or columns j d) = get_or-map mapped_name columns j d e inside in
    ap (λ (name : List ℕ). bytes_eq name (get_or (map mapped_name columns) j e)) at ∙ ap (bytes_eq (mapped_name (get_or columns i d))) later
    ∙ less_differ (mapped_name (get_or columns i d)) (mapped_name (get_or columns j d)) (rise i j d before inside))

names_of_columns : (columns : List MappedColumn) → map mapped_name columns ≡ map (λ (column : Column). column.name) (columns_of columns)
names_of_columns [] = refl
names_of_columns (mapped ∷ columns) = ap (λ names. mapped.column.name ∷ names) (names_of_columns columns)

columns_differ : (columns : List MappedColumn) → NamesRise columns → HaveDistinctNames (columns_of columns)
unfolding IsDistinct
columns_differ [] rise = tt
columns_differ (mapped ∷ columns) rise = subst AreApart (names_of_columns (mapped ∷ columns)) (mapped_differ (mapped ∷ columns) mapped rise)

-- where the names of each table's columns rise, those of each table of the catalog differ
catalog_columns : (tables : List FoundTable) → All (λ (table : FoundTable). NamesRise table.columns) tables → All (λ (shape : TableShape). HaveDistinctNames shape.columns) (map shape_of tables)
catalog_columns tables rise =
    All-map (λ (shape : TableShape). HaveDistinctNames shape.columns) shape_of tables
    (All-weaker (λ (table : FoundTable). NamesRise table.columns) (λ (table : FoundTable). HaveDistinctNames (columns_of table.columns)) (λ table rises. columns_differ table.columns rises) tables rise)

-- ---- the tables and the policies

names_of_tables : (tables : List FoundTable) → map (λ (table : FoundTable). table.name) tables ≡ map (λ (shape : TableShape). shape.name) (map shape_of tables)
names_of_tables [] = refl
names_of_tables (table ∷ tables) = ap (λ names. table.name ∷ names) (names_of_tables tables)

entries_same : (tables : List FoundTable) → catalog_entries (map shape_of tables) ≡ entries_of tables
entries_same [] = refl
entries_same (table ∷ tables) =
    let rest = entries_same tables in
    let all : length (columns_of table.columns) ≡ length table.columns = length-map table.columns (λ (mapped : MappedColumn). mapped.column) in
    omega (arith, rest, all)

policies_same : (policies : List PolicyShape) → policy_entries policies ≡ entries_of_policies policies
policies_same [] = refl
policies_same (policy ∷ policies) = ap (λ (n : ℕ). 1 + length policy.tables + length policy.fields + n) (policies_same policies)

abbrev ArePoliciesOf : Catalog → Type 0
ArePoliciesOf catalog = All (λ (policy : PolicyShape). All (IsPolicyTable catalog policy) policy.tables) catalog.policies

pub is_catalog : (catalog : Catalog) (tables : List FoundTable) (policies : List PolicyShape) → catalog ≡ catalog_of tables policies → All (λ (table : FoundTable). NamesRise table.columns) tables
    → entries_of_policies policies + entries_of tables ≤ 100000 → AreApart (map (λ (table : FoundTable). table.name) tables) → ArePoliciesOf catalog → IsCatalog catalog
is_catalog catalog tables policies is rise few apart over =
    let of_tables = entries_same tables in
    let of_policies = policies_same policies in
    subst IsCatalog (sym is) (record {
      tables = subst AreApart (names_of_tables tables) apart;
      columns = catalog_columns tables rise;
      policies = subst ArePoliciesOf is over;
      few = omega (arith, of_tables, of_policies, few);
    })
