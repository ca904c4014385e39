-- The columns of tables stand in the order of their names, and so differ in them.
use Rattle.std.proofs.Common.{◌≡◌, ℕ, Bool, true, false, cond, List, [], ◌∷◌, fold, Option, Some, None, Result, Ok, Err, refl, ap, sym, subst, ◌∙◌}
use Rattle.std.specs.List.{AllByRecursion, list_any}
use Rattle.std.specs.Str.{bytes_eq}
use Rattle.std.specs.Ordering.{nat_cmp, is_eq, is_lt, ordering_reverse}
use Rattle.std.specs.declared.cmp.Ordering.{Ordering}
use Rattle.std.specs.declared.cmp.Ordering.TheVariants.{Less, Equal, Greater}
use Rattle.std.specs.Cmp.Lexicographic.{slice_cmp}
use Rattle.std.proofs.lemmas.Cmp.{nat_list_cmp_total}
use Rattle.std.proofs.lemmas.Map.Text.{is_eq-slice_cmp}
use Rattle.esql_types.specs.declared.names.Column.{Column}
use Rattle.esql_ast.specs.declared.query.NameAt.{NameAt}
use Rattle.esql_plan.specs.declared.catalog.TableShape.{TableShape}
use Rattle.row_semantics.specs.Scopes.{Broken}
use Rattle.row_semantics.specs.Columns.{names_of, HaveDistinctNames}
use Rattle.row_semantics.specs.Sources.{table_named, with_column, clashes, with_table, with_tables, columns_of_tables}
use Rattle.query_semantics.proofs.Kinded.{found_of, ok_is}
use Rattle.query_semantics.proofs.Distinct.{AreDistinct, IsOther, each_weaker, distinct_nil, distinct_cons}

abbrev order_of : List ℕ → List ℕ → Ordering
order_of this that = slice_cmp nat_cmp this that

abbrev IsLater : List ℕ → List ℕ → Type 0
IsLater name other = order_of name other ≡ Less

-- each name is before all that stand behind it
abbrev AreOrdered : List (List ℕ) → Type 0
AreOrdered [] = Unit {0}
AreOrdered (name ∷ names) = AllByRecursion (IsLater name) names × AreOrdered names

later_other : (name other : List ℕ) → IsLater name other → IsOther name other
later_other name other later = sym (is_eq-slice_cmp name other) ∙ ap is_eq later

ordered_distinct : (names : List (List ℕ)) → AreOrdered names → AreDistinct names
ordered_distinct [] ordered = distinct_nil
ordered_distinct (name ∷ names) ordered = distinct_cons name names (each_weaker (IsLater name) (IsOther name) (λ other later. later_other name other later) names ordered.0) (ordered_distinct names ordered.1)

-- which of two names is first
not_after : (first name : List ℕ) → bytes_eq first name ≡ false → is_lt (order_of name first) ≡ false → IsLater first name
not_after first name differ not_before = by_order (order_of name first) refl
  where
    by_order : (order : Ordering) → order_of name first ≡ order → IsLater first name
    by_order Less is = absurd (let both : false ≡ true = sym not_before ∙ ap is_lt is in cc)
    by_order Equal is = absurd (let both : false ≡ true = sym differ ∙ sym (is_eq-slice_cmp first name) ∙ ap is_eq (nat_list_cmp_total.antisymm first name ∙ ap ordering_reverse is) in cc)
    by_order Greater is = nat_list_cmp_total.antisymm first name ∙ ap ordering_reverse is

is_before : (order : Ordering) → is_lt order ≡ true → order ≡ Less
is_before Less is = refl
is_before Equal is = absurd cc
is_before Greater is = absurd cc

-- a column among others
later_with : (name : List ℕ) (columns : List Column) (column : Column) → AllByRecursion (IsLater name) (names_of columns) → IsLater name column.name → AllByRecursion (IsLater name) (names_of (with_column columns column))
later_with name [] column all later = (later, tt)
later_with name (first ∷ rest) column all later =
    elim (bytes_eq first.name column.name) as (λ same. AllByRecursion (IsLater name) (names_of (cond same (first ∷ rest) (cond (is_lt (order_of column.name first.name)) (column ∷ first ∷ rest) (first ∷ with_column rest column))))) [
      | true ↦ all
      | false ↦ elim (is_lt (order_of column.name first.name)) as (λ before. AllByRecursion (IsLater name) (names_of (cond before (column ∷ first ∷ rest) (first ∷ with_column rest column))))
          [ true ↦ (later, all) | false ↦ (all.0, later_with name rest column all.1 later) ]
    ]

ordered_with : (columns : List Column) (column : Column) → AreOrdered (names_of columns) → AreOrdered (names_of (with_column columns column))
ordered_with [] column ordered = (tt, tt)
ordered_with (first ∷ rest) column ordered = by_same (bytes_eq first.name column.name) refl (is_lt (order_of column.name first.name)) refl (ordered_with rest column ordered.1)
  where
    by_same : (same : Bool) → bytes_eq first.name column.name ≡ same → (before : Bool) → is_lt (order_of column.name first.name) ≡ before → AreOrdered (names_of (with_column rest column))
        → AreOrdered (names_of (cond same (first ∷ rest) (cond before (column ∷ first ∷ rest) (first ∷ with_column rest column))))
    by_same true is before before_is next = ordered
    by_same false is true before_is next =
        let less : IsLater column.name first.name = is_before (order_of column.name first.name) before_is in
        ((less, each_weaker (IsLater first.name) (IsLater column.name) (λ other later. nat_list_cmp_total.trans column.name first.name other less later) (names_of rest) ordered.0), ordered)
    by_same false is false before_is next = (later_with first.name rest column ordered.0 (not_after first.name column.name is before_is), next)

all_ordered : (more columns : List Column) → AreOrdered (names_of columns) → AreOrdered (names_of (fold with_column columns more))
all_ordered [] columns ordered = ordered
all_ordered (column ∷ more) columns ordered = all_ordered more (with_column columns column) (ordered_with columns column ordered)

-- tables
either_ordered : (clash : Bool) (broken : Broken) (columns after : List Column) → AreOrdered (names_of columns) → ◌≡◌ {A = Result (List Column) Broken} (cond clash (Err broken) (Ok columns)) (Ok after) → AreOrdered (names_of after)
either_ordered true broken columns after ordered is = absurd cc
either_ordered false broken columns after ordered is = subst (λ these. AreOrdered (names_of these)) (ok_is is) ordered

table_ordered : (name : NameAt) (table : Option TableShape) (columns after : List Column) → AreOrdered (names_of columns) → with_table name table columns ≡ Ok after → AreOrdered (names_of after)
table_ordered name None columns after ordered is = absurd cc
table_ordered name (Some table) columns after ordered is =
    either_ordered (list_any (clashes columns) table.columns) _ (fold with_column columns table.columns) after (all_ordered table.columns columns ordered) is

tables_ordered : (catalog : List TableShape) (names : List NameAt) (columns after : List Column) → AreOrdered (names_of columns) → with_tables catalog names columns ≡ Ok after → AreOrdered (names_of after)
tables_ordered catalog [] columns after ordered is = subst (λ these. AreOrdered (names_of these)) (ok_is is) ordered
tables_ordered catalog (name ∷ names) columns after ordered is =
    let found = found_of (with_table name (table_named catalog name.name) columns) (with_tables catalog names) after is in
    tables_ordered catalog names found.value after (table_ordered name (table_named catalog name.name) columns found.value ordered found.is) found.next_is

-- the columns of FROM differ in their names
pub tables_distinct : (catalog : List TableShape) (names : List NameAt) (columns : List Column) → columns_of_tables catalog names ≡ Ok columns → HaveDistinctNames columns
tables_distinct catalog names columns is = ordered_distinct (names_of columns) (tables_ordered catalog names [] columns tt is)
