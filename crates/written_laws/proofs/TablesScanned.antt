-- The columns of tables have one kind for each name in all of the tables.
use Rattle.std.proofs.Common.{◌≡◌, ℕ, suc, ◌+◌, ◌<◌, ◌==◌, Bool, true, false, cond, not, ◌&&◌, ◌||◌, List, [], ◌∷◌, ◌++◌, length, fold, All, Option, Some, None, IfSome, Result, Ok, Err, refl, ap, sym, subst, ◌∙◌, if◌then◌else◌, arith}
use Rattle.std.specs.Prelude.{slice_get}
use Rattle.std.specs.List.{AllByRecursion, list_any}
use Rattle.std.specs.Option.{option_map}
use Rattle.std.specs.Str.{bytes_eq}
use Rattle.std.specs.Ordering.{nat_cmp, is_lt}
use Rattle.std.specs.Cmp.Lexicographic.{slice_cmp, bytes_decides, nat_list_eq_equiv}
use Rattle.std.proofs.lemmas.Bool.{or_parts}
use Rattle.std.proofs.lemmas.Option.{IfSome_then}
use Rattle.std.proofs.lemmas.List.Elements.{All-nil, All-cons, All-head, All-tail, All-weaker, All-push}
use Rattle.esql_types.specs.declared.value.Kind.{Kind}
use Rattle.esql_types.specs.declared.value.Kind.TheVariants as kind
use Rattle.esql_types.specs.declared.names.Column.{Column}
use Rattle.esql_ast.specs.declared.query.NameAt.{NameAt}
use Rattle.esql_plan.specs.declared.catalog.TableShape.{TableShape}
use Rattle.esql_plan.specs.Signatures.{same_kind}
use Rattle.plan_semantics.specs.WellFormed.{kind_named}
use Rattle.row_semantics.specs.Scopes.{Broken}
use Rattle.row_semantics.specs.Columns.{names_of, HaveDistinctNames}
use Rattle.row_semantics.specs.Sources.{number_of_table, table_named, with_number, with_column, clashes, with_table, with_tables}
use Rattle.query_semantics.proofs.Kinded.{found_of, ok_is}
use Rattle.query_semantics.proofs.Distinct.{IsOther, distinct_head, distinct_tail}

-- columns with one more -------------------------------------------------------------------------------------------------------

All-with : (P : Column → Type 0) (columns : List Column) (column : Column) → All P columns → P column → All P (with_column columns column)
All-with P [] column all own = All-cons P column [] own all
All-with P (first ∷ rest) column all own =
    elim (bytes_eq first.name column.name) as (λ same. All P (cond same (first ∷ rest) (cond (is_lt (slice_cmp nat_cmp column.name first.name)) (column ∷ first ∷ rest) (first ∷ with_column rest column)))) [
      | true ↦ all
      | false ↦ elim (is_lt (slice_cmp nat_cmp column.name first.name)) as (λ before. All P (cond before (column ∷ first ∷ rest) (first ∷ with_column rest column))) [
        | true ↦ All-cons P column (first ∷ rest) own all
        | false ↦ All-cons P first (with_column rest column) (All-head P first rest all) (All-with P rest column (All-tail P first rest all) own)
      ]
    ]

pub All-with_all : (P : Column → Type 0) (more columns : List Column) → All P columns → All P more → All P (fold with_column columns more)
All-with_all P [] columns all also = all
All-with_all P (column ∷ more) columns all also =
    All-with_all P more (with_column columns column) (All-with P columns column all (All-head P column more also)) (All-tail P column more also)

-- a column of the name is there
abbrev pub has_name : List Column → List ℕ → Bool
has_name columns name = list_any (λ (column : Column). bytes_eq column.name name) columns

same_name : (this that : List ℕ) → bytes_eq this that ≡ true → this ≡ that
same_name this that is = (bytes_decides this that).0 is

name_itself : (name : List ℕ) → bytes_eq name name ≡ true
name_itself name = (bytes_decides name name).1 refl

has_later : (first : Bool) (rest more : Bool) → (rest ≡ true → more ≡ true) → (first || rest) ≡ true → (first || more) ≡ true
has_later true rest more later is = refl
has_later false rest more later is = later is

has_kept : (columns : List Column) (column : Column) (name : List ℕ) → has_name columns name ≡ true → has_name (with_column columns column) name ≡ true
has_kept [] column name has = absurd cc
has_kept (first ∷ rest) column name has =
    elim (bytes_eq first.name column.name) as (λ same. has_name (cond same (first ∷ rest) (cond (is_lt (slice_cmp nat_cmp column.name first.name)) (column ∷ first ∷ rest) (first ∷ with_column rest column))) name ≡ true) [
      | true ↦ has
      | false ↦ elim (is_lt (slice_cmp nat_cmp column.name first.name)) as (λ before. has_name (cond before (column ∷ first ∷ rest) (first ∷ with_column rest column)) name ≡ true) [
        | true ↦ behind (bytes_eq column.name name)
        | false ↦ has_later (bytes_eq first.name name) (has_name rest name) (has_name (with_column rest column) name) (has_kept rest column name) has
      ]
    ]
  where
    behind : (own : Bool) → (own || has_name (first ∷ rest) name) ≡ true
    behind true = refl
    behind false = has

has_own : (columns : List Column) (column : Column) → has_name (with_column columns column) column.name ≡ true
has_own [] column = ap (λ (b : Bool). b || false) (name_itself column.name)
has_own (first ∷ rest) column = by_same (bytes_eq first.name column.name) refl (has_own rest column)
  where
    either : (b : Bool) → (b || true) ≡ true
    either true = refl
    either false = refl

    by_same : (same : Bool) → bytes_eq first.name column.name ≡ same → has_name (with_column rest column) column.name ≡ true
        → has_name (cond same (first ∷ rest) (cond (is_lt (slice_cmp nat_cmp column.name first.name)) (column ∷ first ∷ rest) (first ∷ with_column rest column))) column.name ≡ true
    by_same true is later = ap (λ (b : Bool). b || has_name rest column.name) is
    by_same false is later =
        elim (is_lt (slice_cmp nat_cmp column.name first.name)) as (λ before. has_name (cond before (column ∷ first ∷ rest) (first ∷ with_column rest column)) column.name ≡ true) [
          | true ↦ ap (λ (b : Bool). b || has_name (first ∷ rest) column.name) (name_itself column.name)
          | false ↦ ap (λ (b : Bool). bytes_eq first.name column.name || b) later ∙ either (bytes_eq first.name column.name)
        ]

has_all : (more columns : List Column) (name : List ℕ) → has_name columns name ≡ true → has_name (fold with_column columns more) name ≡ true
has_all [] columns name has = has
has_all (column ∷ more) columns name has = has_all more (with_column columns column) name (has_kept columns column name has)

abbrev IsCovered : List Column → Column → Type 0
IsCovered columns own = has_name columns own.name ≡ true

all_covered : (more columns : List Column) → All (IsCovered (fold with_column columns more)) more
all_covered [] columns = All-nil (IsCovered columns)
all_covered (column ∷ more) columns =
    All-cons (IsCovered (fold with_column columns (column ∷ more))) column more (has_all more (with_column columns column) column.name (has_own columns column)) (all_covered more (with_column columns column))

-- kinds -----------------------------------------------------------------------------------------------------------------------

-- the columns have no two kinds under one name
abbrev Agree : Column → Column → Type 0
Agree this that = (bytes_eq this.name that.name && not (same_kind this.kind that.kind)) ≡ false

kinds_same : (this that : Kind) → same_kind this that ≡ true → this ≡ that
kinds_same kind.Integer kind.Integer is = refl
kinds_same kind.Integer kind.Long is = absurd cc
kinds_same kind.Integer kind.Boolean is = absurd cc
kinds_same kind.Integer kind.Keyword is = absurd cc
kinds_same kind.Integer kind.Null is = absurd cc
kinds_same kind.Long kind.Integer is = absurd cc
kinds_same kind.Long kind.Long is = refl
kinds_same kind.Long kind.Boolean is = absurd cc
kinds_same kind.Long kind.Keyword is = absurd cc
kinds_same kind.Long kind.Null is = absurd cc
kinds_same kind.Boolean kind.Integer is = absurd cc
kinds_same kind.Boolean kind.Long is = absurd cc
kinds_same kind.Boolean kind.Boolean is = refl
kinds_same kind.Boolean kind.Keyword is = absurd cc
kinds_same kind.Boolean kind.Null is = absurd cc
kinds_same kind.Keyword kind.Integer is = absurd cc
kinds_same kind.Keyword kind.Long is = absurd cc
kinds_same kind.Keyword kind.Boolean is = absurd cc
kinds_same kind.Keyword kind.Keyword is = refl
kinds_same kind.Keyword kind.Null is = absurd cc
kinds_same kind.Null kind.Integer is = absurd cc
kinds_same kind.Null kind.Long is = absurd cc
kinds_same kind.Null kind.Boolean is = absurd cc
kinds_same kind.Null kind.Keyword is = absurd cc
kinds_same kind.Null kind.Null is = refl

agree_kinds : (this that : Column) → Agree this that → bytes_eq this.name that.name ≡ true → this.kind ≡ that.kind
agree_kinds this that agree named = kinds_same this.kind that.kind (same (same_kind this.kind that.kind) (ap (λ (b : Bool). b && not (same_kind this.kind that.kind)) (sym named) ∙ agree))
  where
    same : (b : Bool) → (true && not b) ≡ false → b ≡ true
    same true is = refl
    same false is = absurd cc

-- a column under a name of these has the kind that it has there
abbrev pub HasKindOf : List Column → Column → Type 0
HasKindOf own column = IfSome (kind_named own column.name) (λ kind. kind ≡ column.kind)

-- no column clashes
no_clash : (columns own : List Column) → list_any (clashes columns) own ≡ false → All (λ (column : Column). clashes columns column ≡ false) own
no_clash columns [] none = All-nil (λ (column : Column). clashes columns column ≡ false)
no_clash columns (column ∷ own) none =
    let parts = or_parts (clashes columns column) (list_any (clashes columns) own) none in
    All-cons (λ (column : Column). clashes columns column ≡ false) column own parts.0 (no_clash columns own parts.1)

first_agrees : (first : Column) (rest own : List Column) → All (λ (column : Column). clashes (first ∷ rest) column ≡ false) own
    → All (Agree first) own × All (λ (column : Column). clashes rest column ≡ false) own
first_agrees first rest [] all = (All-nil (Agree first), All-nil (λ (column : Column). clashes rest column ≡ false))
first_agrees first rest (column ∷ own) all =
    let parts = or_parts (bytes_eq first.name column.name && not (same_kind first.kind column.kind)) (clashes rest column) (All-head (λ (column : Column). clashes (first ∷ rest) column ≡ false) column own all) in
    let later = first_agrees first rest own (All-tail (λ (column : Column). clashes (first ∷ rest) column ≡ false) column own all) in
    (All-cons (Agree first) column own parts.0 later.0, All-cons (λ (column : Column). clashes rest column ≡ false) column own parts.1 later.1)

abbrev AgreeAll : List Column → Column → Type 0
AgreeAll own column = All (Agree column) own

each_agrees : (columns own : List Column) → All (λ (column : Column). clashes columns column ≡ false) own → All (AgreeAll own) columns
each_agrees [] own all = All-nil (AgreeAll own)
each_agrees (first ∷ rest) own all = let parts = first_agrees first rest own all in All-cons (AgreeAll own) first rest parts.0 (each_agrees rest own parts.1)

-- the columns so far have the kinds of one more table
old_kind : (column : Column) (own : List Column) → AgreeAll own column → HasKindOf own column
old_kind column [] agree = tt
old_kind column (first ∷ own) agree = by_same (bytes_eq first.name column.name) refl (old_kind column own (All-tail (Agree column) first own agree))
  where
    by_same : (same : Bool) → bytes_eq first.name column.name ≡ same → HasKindOf own column
        → IfSome (if same then Some first.kind else kind_named own column.name) (λ kind. kind ≡ column.kind)
    by_same true is later = sym (agree_kinds column first (All-head (Agree column) first own agree) (nat_list_eq_equiv.symm column.name first.name ∙ is))
    by_same false is later = later

-- and so has the table itself, whose names differ
own_kinds : (own : List Column) → HaveDistinctNames own → All (HasKindOf own) own
own_kinds [] distinct = All-nil (HasKindOf [])
own_kinds (first ∷ rest) distinct =
    let here : kind_named (first ∷ rest) first.name ≡ Some first.kind = ap (λ (b : Bool). if b then Some first.kind else kind_named rest first.name) (name_itself first.name) in
    All-cons (HasKindOf (first ∷ rest)) first rest (subst (λ (found : Option Kind). IfSome found (λ kind. kind ≡ first.kind)) (sym here) refl)
    (later rest (distinct_head first.name (names_of rest) distinct) (own_kinds rest (distinct_tail first.name (names_of rest) distinct)))
  where
    later : (columns : List Column) → AllByRecursion (IsOther first.name) (names_of columns) → All (HasKindOf rest) columns → All (HasKindOf (first ∷ rest)) columns
    later [] others all = All-nil (HasKindOf (first ∷ rest))
    later (column ∷ columns) others all =
        let behind : kind_named (first ∷ rest) column.name ≡ kind_named rest column.name = ap (λ (b : Bool). if b then Some first.kind else kind_named rest column.name) others.0 in
        All-cons (HasKindOf (first ∷ rest)) column columns (subst (λ (found : Option Kind). IfSome found (λ kind. kind ≡ column.kind)) (sym behind) (All-head (HasKindOf rest) column columns all))
        (later columns others.1 (All-tail (HasKindOf rest) column columns all))

-- tables among columns ------------------------------------------------------------------------------------------------------------

-- the columns are there with the kinds of a table, and have all of its names
pub record AgreesWith (columns : List Column) (table : TableShape) : Type 0 where
  pub kinds : All (HasKindOf table.columns) columns
  pub covers : All (IsCovered columns) table.columns

covered_name : (columns own : List Column) → All (IsCovered columns) own → (name : List ℕ) (kind : Kind) → kind_named own name ≡ Some kind → has_name columns name ≡ true
covered_name columns [] covers name kind is = absurd cc
covered_name columns (first ∷ own) covers name kind is =
    by_same (bytes_eq first.name name) refl is (covered_name columns own (All-tail (IsCovered columns) first own covers) name kind)
  where
    by_same : (same : Bool) → bytes_eq first.name name ≡ same → (if same then Some first.kind else kind_named own name) ≡ Some kind → (kind_named own name ≡ Some kind → has_name columns name ≡ true)
        → has_name columns name ≡ true
    by_same true named found later = subst (λ (these : List ℕ). has_name columns these ≡ true) (same_name first.name name named) (All-head (IsCovered columns) first own covers)
    by_same false named found later = later found

-- a column of the name, with what holds of each
pub record Named (Q : Column → Type 0) (name : List ℕ) : Type 0 where
  pub column : Column
  pub named : column.name ≡ name
  pub holds : Q column

find_named : (Q : Column → Type 0) (columns : List Column) (name : List ℕ) → All Q columns → has_name columns name ≡ true → Named Q name
find_named Q [] name all has = absurd cc
find_named Q (first ∷ rest) name all has = by_same (bytes_eq first.name name) refl has (find_named Q rest name (All-tail Q first rest all))
  where
    by_same : (same : Bool) → bytes_eq first.name name ≡ same → (same || has_name rest name) ≡ true → (has_name rest name ≡ true → Named Q name) → Named Q name
    by_same true is any later = record { column = first; named = same_name first.name name is; holds = All-head Q first rest all }
    by_same false is any later = later any

-- a new column has the kind of the tables so far
new_kind : (columns : List Column) (table : TableShape) (column : Column) → AgreesWith columns table → All (λ (other : Column). Agree other column) columns → HasKindOf table.columns column
new_kind columns table column agrees agree = by_found (kind_named table.columns column.name) refl
  where
    some_same : (this that : Kind) → Some this ≡ Some that → this ≡ that
    some_same this that is = cc

    both_hold : (these : List Column) → All (HasKindOf table.columns) these → All (λ (other : Column). Agree other column) these
        → All (λ (other : Column). HasKindOf table.columns other × Agree other column) these
    both_hold [] first second = All-nil (λ (other : Column). HasKindOf table.columns other × Agree other column)
    both_hold (one ∷ these) first second =
        All-cons (λ (other : Column). HasKindOf table.columns other × Agree other column) one these
        (All-head (HasKindOf table.columns) one these first, All-head (λ (other : Column). Agree other column) one these second)
        (both_hold these (All-tail (HasKindOf table.columns) one these first) (All-tail (λ (other : Column). Agree other column) one these second))

    by_found : (found : Option Kind) → kind_named table.columns column.name ≡ found → IfSome found (λ kind. kind ≡ column.kind)
    by_found None is = tt
    by_found (Some kind) is =
        let there = find_named (λ (other : Column). HasKindOf table.columns other × Agree other column) columns column.name (both_hold columns agrees.kinds agree)
        (covered_name columns table.columns agrees.covers column.name kind is) in
        let found : kind_named table.columns there.column.name ≡ Some kind = ap (kind_named table.columns) there.named ∙ is in
        let known : kind ≡ there.column.kind = subst (λ (these : Option Kind). IfSome these (λ kind. kind ≡ there.column.kind)) found there.holds.0 in
        known ∙ agree_kinds there.column column there.holds.1 (ap (λ (name : List ℕ). bytes_eq name column.name) there.named ∙ name_itself column.name)

-- one more table
module _ (columns : List Column) (table : TableShape) (apart : list_any (clashes columns) table.columns ≡ false) where
  agree_all : All (AgreeAll table.columns) columns
  agree_all = each_agrees columns table.columns (no_clash columns table.columns apart)

  table_agrees : HaveDistinctNames table.columns → AgreesWith (fold with_column columns table.columns) table
  table_agrees distinct = record {
    kinds = All-with_all (HasKindOf table.columns) table.columns columns
        (All-weaker (AgreeAll table.columns) (HasKindOf table.columns) (λ column agree. old_kind column table.columns agree) columns agree_all) (own_kinds table.columns distinct);
    covers = all_covered table.columns columns;
  }

  turned : (own : List Column) (these : List Column) → All (AgreeAll own) these → All (λ (column : Column). All (λ (other : Column). Agree other column) these) own
  turned [] these all = All-nil (λ (column : Column). All (λ (other : Column). Agree other column) these)
  turned (column ∷ own) these all =
      All-cons (λ (column : Column). All (λ (other : Column). Agree other column) these) column own
      (All-weaker (AgreeAll (column ∷ own)) (λ (other : Column). Agree other column) (λ other agree. All-head (Agree other) column own agree) these all)
      (turned own these (All-weaker (AgreeAll (column ∷ own)) (AgreeAll own) (λ other agree. All-tail (Agree other) column own agree) these all))

  others_agree : (other : TableShape) → AgreesWith columns other → AgreesWith (fold with_column columns table.columns) other
  others_agree other agrees = record {
    kinds = All-with_all (HasKindOf other.columns) table.columns columns agrees.kinds
        (All-weaker (λ (column : Column). All (λ (one : Column). Agree one column) columns) (HasKindOf other.columns) (λ column agree. new_kind columns other column agrees agree)
        table.columns (turned table.columns columns agree_all));
    covers = All-weaker (IsCovered columns) (IsCovered (fold with_column columns table.columns)) (λ own has. has_all table.columns columns own.name has) other.columns agrees.covers;
  }

-- the numbers of tables -------------------------------------------------------------------------------------------------------------

-- the table of a number is there, and columns agree with it
pub record IsScanned (catalog : List TableShape) (columns : List Column) (number : ℕ) : Type 0 where
  pub there : number < length catalog
  pub table : IfSome (slice_get catalog number) (AgreesWith columns)

-- the number of the table of a name
record IsNumberOf (catalog : List TableShape) (name : List ℕ) (table : TableShape) : Type 0 where
  number : ℕ
  is : number_of_table catalog name ≡ Some number
  there : number < length catalog
  found : slice_get catalog number ≡ Some table

number_is : (catalog : List TableShape) (name : List ℕ) (table : TableShape) → table_named catalog name ≡ Some table → IsNumberOf catalog name table
number_is [] name table is = absurd cc
number_is (first ∷ rest) name table is = by_same (bytes_eq first.name name) refl is (number_is rest name table)
  where
    next : (n : ℕ) → n + 1 ≡ suc n
    next n = omega arith

    by_same : (same : Bool) → bytes_eq first.name name ≡ same → (if same then Some first else table_named rest name) ≡ Some table → (table_named rest name ≡ Some table → IsNumberOf rest name table)
        → IsNumberOf (first ∷ rest) name table
    by_same true named found later = record {
      number = 0;
      is = ap (λ (b : Bool). if b then Some 0 else option_map (λ number. number + 1) (number_of_table rest name)) named;
      there = omega arith;
      found = found;
    }
    by_same false named found later =
        let own = later found in record {
          number = suc own.number;
          is = ap (λ (b : Bool). if b then Some 0 else option_map (λ number. number + 1) (number_of_table rest name)) named ∙ ap (option_map (λ number. number + 1)) own.is ∙ ap Some (next own.number);
          there = omega (arith, own.there);
          found = own.found;
        }

named_holds : (P : TableShape → Type 0) (catalog : List TableShape) (name : List ℕ) (table : TableShape) → All P catalog → table_named catalog name ≡ Some table → P table
named_holds P [] name table all is = absurd cc
named_holds P (first ∷ rest) name table all is =
    elim (bytes_eq first.name name) as (λ b. (if b then Some first else table_named rest name) ≡ Some table → P table)
    [ true ↦ λ here. subst P (some_is first table here) (All-head P first rest all) | false ↦ λ there. named_holds P rest name table (All-tail P first rest all) there ] is
  where
    some_is : (this that : TableShape) → Some this ≡ Some that → this ≡ that
    some_is this that is = cc

-- columns with those of a table, which clash with none
record Joined (columns : List Column) (table : TableShape) (after : List Column) : Type 0 where
  apart : list_any (clashes columns) table.columns ≡ false
  is : fold with_column columns table.columns ≡ after

joined : (name : NameAt) (table : TableShape) (columns after : List Column) → with_table name (Some table) columns ≡ Ok after → Joined columns table after
joined name table columns after is = by_clash (list_any (clashes columns) table.columns) refl _ is
  where
    by_clash : (clash : Bool) → list_any (clashes columns) table.columns ≡ clash → (broken : Broken)
        → ◌≡◌ {A = Result (List Column) Broken} (cond clash (Err broken) (Ok (fold with_column columns table.columns))) (Ok after) → Joined columns table after
    by_clash true apart broken found = absurd cc
    by_clash false apart broken found = record { apart = apart; is = ok_is found }

with_number_all : (P : ℕ → Type 0) (numbers : List ℕ) (number : ℕ) → All P numbers → P number → All P (with_number numbers (Some number))
with_number_all P numbers number all own =
    elim (list_any (λ other. other == number) numbers) as (λ there. All P (if there then numbers else numbers ++ number ∷ [])) [ true ↦ all | false ↦ All-push P numbers number all own ]

abbrev numbers_with : List TableShape → List ℕ → NameAt → List ℕ
numbers_with catalog numbers name = with_number numbers (number_of_table catalog name.name)

module _ (catalog : List TableShape) (distinct : All (λ (table : TableShape). HaveDistinctNames table.columns) catalog) where
  table_scanned : (name : NameAt) (table : TableShape) (columns after : List Column) (numbers : List ℕ) → table_named catalog name.name ≡ Some table → Joined columns table after
      → All (IsScanned catalog columns) numbers → All (IsScanned catalog after) (numbers_with catalog numbers name)
  table_scanned name table columns after numbers named join all =
      let number = number_is catalog name.name table named in
      let own : AgreesWith after table =
      subst (λ (these : List Column). AgreesWith these table) join.is (table_agrees columns table join.apart (named_holds (λ (table : TableShape). HaveDistinctNames table.columns) catalog name.name table distinct named)) in
      let others : All (IsScanned catalog after) numbers = All-weaker (IsScanned catalog columns) (IsScanned catalog after)
      (λ number scanned. record {
        there = scanned.there;
        table = IfSome_then (slice_get catalog number) scanned.table (λ other agrees. subst (λ (these : List Column). AgreesWith these other) join.is (others_agree columns table join.apart other agrees));
      })
      numbers all in
      subst (λ (found : Option ℕ). All (IsScanned catalog after) (with_number numbers found)) (sym number.is)
      (with_number_all (IsScanned catalog after) numbers number.number others
      (record { there = number.there; table = subst (λ (found : Option TableShape). IfSome found (AgreesWith after)) (sym number.found) own }))

  pub tables_scanned : (names : List NameAt) (columns after : List Column) (numbers : List ℕ) → All (IsScanned catalog columns) numbers → with_tables catalog names columns ≡ Ok after
      → All (IsScanned catalog after) (fold (numbers_with catalog) numbers names)
  tables_scanned [] columns after numbers all is = subst (λ (these : List Column). All (IsScanned catalog these) numbers) (ok_is is) all
  tables_scanned (name ∷ names) columns after numbers all is =
      let found = found_of (with_table name (table_named catalog name.name) columns) (with_tables catalog names) after is in
      tables_scanned names found.value after (numbers_with catalog numbers name) (by_table (table_named catalog name.name) refl found.value found.is) found.next_is
    where
      by_table : (table : Option TableShape) → table_named catalog name.name ≡ table → (next : List Column) → with_table name table columns ≡ Ok next
          → All (IsScanned catalog next) (numbers_with catalog numbers name)
      by_table None named next found = absurd cc
      by_table (Some table) named next found = table_scanned name table columns next numbers named (joined name table columns next found) all
