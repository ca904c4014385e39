-- The columns of FROM are no more than the entries of the catalog.
use Rattle.std.proofs.Common.{◌≡◌, ℕ, ◌+◌, ◌≤◌, Bool, true, false, cond, ◌||◌, List, [], ◌∷◌, length, fold, Option, Some, None, Result, Ok, Err, refl, subst, ◌∙◌, arith}
use Rattle.std.specs.List.{flat_map, list_any}
use Rattle.std.specs.Str.{bytes_eq}
use Rattle.std.specs.Ordering.{nat_cmp, is_lt}
use Rattle.std.specs.Cmp.Lexicographic.{slice_cmp}
use Rattle.std.proofs.lemmas.Cmp.{nat_list_eq_equiv}
use Rattle.std.proofs.lemmas.List.{length-append, length-map}
use Rattle.std.proofs.lemmas.List.Folds.{list_any-append}
use Rattle.std.proofs.lemmas.Map.Made.{length-le_from_is_member}
use Rattle.esql_types.specs.declared.names.Column.{Column}
use Rattle.esql_ast.specs.declared.query.NameAt.{NameAt}
use Rattle.esql_ast.specs.declared.query.SourceCommand.{SourceCommand}
use Rattle.esql_ast.specs.declared.query.SourceCommand.TheVariants.{Tables, OneRow}
use Rattle.esql_ast.specs.Nodes.{nodes_of_source, nodes_of_field}
use Rattle.esql_plan.specs.declared.catalog.Catalog.{Catalog}
use Rattle.esql_plan.specs.declared.catalog.TableShape.{TableShape}
use Rattle.row_semantics.specs.Scopes.{Broken}
use Rattle.row_semantics.specs.Columns.{names_of}
use Rattle.row_semantics.specs.Sources.{table_named, with_column, clashes, with_table, with_tables, columns_of_tables, columns_or_none}
use Rattle.query_semantics.specs.Catalogs.{entries_of, IsCatalog}
use Rattle.query_semantics.specs.Written.{writing_of_columns, numbered_from, write_source}
use Rattle.query_semantics.proofs.Kinded.{found_of, ok_is}
use Rattle.query_semantics.proofs.Ordered.{tables_distinct}
use Rattle.plan_writing.specs.Writings.{HasRoom}
use Rattle.plan_writing.proofs.FieldTurns.{fields_room}

abbrev has : List (List ℕ) → List ℕ → Bool
has names name = list_any (bytes_eq name) names

-- each name is among the others
abbrev AreIn : List (List ℕ) → List (List ℕ) → Type 0
AreIn these those = (name : List ℕ) → has these name ≡ true → has those name ≡ true

abbrev all_names : List TableShape → List (List ℕ)
all_names tables = flat_map (λ (table : TableShape). names_of table.columns) tables

either : (this that : Bool) (goal : Bool) → (this ≡ true → goal ≡ true) → (that ≡ true → goal ≡ true) → (this || that) ≡ true → goal ≡ true
either true that goal first next is = first refl
either false that goal first next is = next is

first_of_two : (this that : Bool) → this ≡ true → (this || that) ≡ true
first_of_two true that is = refl
first_of_two false that is = absurd cc

second_of_two : (this that : Bool) → that ≡ true → (this || that) ≡ true
second_of_two true that is = refl
second_of_two false that is = is

with_in : (all : List (List ℕ)) (columns : List Column) (column : Column) → AreIn (names_of columns) all → AreIn (column.name ∷ []) all → AreIn (names_of (with_column columns column)) all
with_in all [] column these one = one
with_in all (first ∷ rest) column these one =
    let behind : AreIn (names_of (with_column rest column)) all = with_in all rest column (λ name is. these name (second_of_two (bytes_eq name first.name) (has (names_of rest) name) is)) one in
    elim (bytes_eq first.name column.name) as (λ same. AreIn (names_of (cond same (first ∷ rest) (cond (is_lt (slice_cmp nat_cmp column.name first.name)) (column ∷ first ∷ rest) (first ∷ with_column rest column)))) all) [
      | true ↦ these
      | false ↦ elim (is_lt (slice_cmp nat_cmp column.name first.name)) as (λ before. AreIn (names_of (cond before (column ∷ first ∷ rest) (first ∷ with_column rest column))) all) [
        | true ↦ λ name. either (bytes_eq name column.name) (has (names_of (first ∷ rest)) name) (has all name) (λ is. one name (first_of_two (bytes_eq name column.name) false is)) (these name)
        | false ↦ λ name. either (bytes_eq name first.name) (has (names_of (with_column rest column)) name) (has all name)
            (λ is. these name (first_of_two (bytes_eq name first.name) (has (names_of rest) name) is)) (behind name)
      ]
    ]

fold_in : (all : List (List ℕ)) (more columns : List Column) → AreIn (names_of columns) all → AreIn (names_of more) all → AreIn (names_of (fold with_column columns more)) all
fold_in all [] columns these those = these
fold_in all (column ∷ more) columns these those =
    fold_in all more (with_column columns column)
    (with_in all columns column these (λ name. either (bytes_eq name column.name) false (has all name) (λ is. those name (first_of_two (bytes_eq name column.name) (has (names_of more) name) is)) (λ is. absurd cc)))
    (λ name is. those name (second_of_two (bytes_eq name column.name) (has (names_of more) name) is))

-- the names of a table's columns are among all
abbrev OfTable : List (List ℕ) → Option TableShape → Type 0
OfTable all None = Unit {0}
OfTable all (Some table) = AreIn (names_of table.columns) all

of_more : (all more : List (List ℕ)) (table : Option TableShape) → AreIn more all → OfTable more table → OfTable all table
of_more all more None within these = tt
of_more all more (Some table) within these = λ name is. within name (these name is)

named_in : (tables : List TableShape) (name : List ℕ) → OfTable (all_names tables) (table_named tables name)
named_in [] name = tt
named_in (table ∷ tables) name =
    let own : List (List ℕ) = names_of table.columns in
    let rest = of_more (all_names (table ∷ tables)) (all_names tables) (table_named tables name)
    (λ other is. list_any-append (bytes_eq other) own (all_names tables) ∙ second_of_two (has own other) (has (all_names tables) other) is) (named_in tables name) in
    elim (bytes_eq table.name name) as (λ same. OfTable (all_names (table ∷ tables)) (cond same (Some table) (table_named tables name))) [
      | true ↦ λ other is. list_any-append (bytes_eq other) own (all_names tables) ∙ first_of_two (has own other) (has (all_names tables) other) is
      | false ↦ rest
    ]

either_in : (all : List (List ℕ)) (clash : Bool) (broken : Broken) (columns after : List Column) → AreIn (names_of columns) all → ◌≡◌ {A = Result (List Column) Broken} (cond clash (Err broken) (Ok columns)) (Ok after) → AreIn (names_of after) all
either_in all true broken columns after these is = absurd cc
either_in all false broken columns after these is = subst (λ own. AreIn (names_of own) all) (ok_is is) these

table_in : (all : List (List ℕ)) (name : NameAt) (table : Option TableShape) (columns after : List Column) → OfTable all table → AreIn (names_of columns) all → with_table name table columns ≡ Ok after → AreIn (names_of after) all
table_in all name None columns after own these is = absurd cc
table_in all name (Some table) columns after own these is =
    either_in all (list_any (clashes columns) table.columns) _ (fold with_column columns table.columns) after (fold_in all table.columns columns these own) is

tables_in : (catalog : List TableShape) (names : List NameAt) (columns after : List Column) → AreIn (names_of columns) (all_names catalog) → with_tables catalog names columns ≡ Ok after → AreIn (names_of after) (all_names catalog)
tables_in catalog [] columns after these is = subst (λ own. AreIn (names_of own) (all_names catalog)) (ok_is is) these
tables_in catalog (name ∷ names) columns after these is =
    let found = found_of (with_table name (table_named catalog name.name) columns) (with_tables catalog names) after is in
    tables_in catalog names found.value after
    (table_in (all_names catalog) name (table_named catalog name.name) columns found.value (named_in catalog name.name) these found.is) found.next_is

names_few : (tables : List TableShape) → length (all_names tables) ≤ entries_of tables
names_few [] = omega arith
names_few (table ∷ tables) =
    omega (arith, names_few tables, length-append (names_of table.columns) (all_names tables), length-map table.columns (λ (column : Column). column.name))

pub tables_few : (tables : List TableShape) → length tables ≤ entries_of tables
tables_few [] = omega arith
tables_few (table ∷ tables) = omega (arith, tables_few tables)

-- the columns of FROM are no more than the entries
pub columns_few : (tables : List TableShape) (names : List NameAt) (columns : List Column) → columns_of_tables tables names ≡ Ok columns → length columns ≤ entries_of tables
columns_few tables names columns is =
    let within : AreIn (names_of columns) (all_names tables) = tables_in tables names [] columns (λ name there. absurd cc) is in
    let few = length-le_from_is_member nat_list_eq_equiv (names_of columns) (all_names tables) (tables_distinct tables names columns is) within in
    omega (arith, few, names_few tables, length-map columns (λ (column : Column). column.name))

numbered_length : (number : ℕ) (columns : List Column) → length (numbered_from number columns) ≡ length columns
numbered_length number [] = refl
numbered_length number (column ∷ columns) = let rest = numbered_length (number + 1) columns in omega (arith, rest)

columns_room : (columns : List Column) (more : ℕ) → length columns ≤ 400000 → more ≤ 80131074 → HasRoom (writing_of_columns columns) more
columns_room columns more few nodes = record {
  shown = let same = numbered_length 0 columns in omega (arith, same, few, nodes);
  columns = omega (arith, few, nodes);
  whole = omega (arith, nodes);
  free = omega (arith, nodes);
  cutters = omega (arith, nodes);
}

found_room : (catalog : Catalog) (names : List NameAt) (found : Result (List Column) Broken) (more : ℕ) → columns_of_tables catalog.tables names ≡ found → IsCatalog catalog → more ≤ 80131074
    → HasRoom (writing_of_columns (columns_or_none found)) more
found_room catalog names (Ok columns) more is fine nodes =
    let few = columns_few catalog.tables names columns is in
    columns_room columns more (let entries = fine.few in omega (arith, few, entries)) nodes
found_room catalog names (Err broken) more is fine nodes = columns_room [] more (omega arith) nodes

-- what a source writes leaves room for the nodes that are left
pub source_room : (text : List ℕ) (catalog : Catalog) (source : SourceCommand) (more : ℕ) → IsCatalog catalog → length (nodes_of_source source) + more ≤ 80131074 → HasRoom (write_source text catalog source) more
source_room text catalog (Tables node span names) more fine nodes = found_room catalog names (columns_of_tables catalog.tables names) more refl fine (omega (arith, nodes))
source_room text catalog (OneRow node span fields) more fine nodes =
    fields_room text fields (writing_of_columns []) more (columns_room [] (length (flat_map nodes_of_field fields) + more) (omega arith) (omega (arith, nodes)))
