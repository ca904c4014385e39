-- Columns that stand in byte order of their names: what a name finds, and what one more column does.
use Rattle.std.proofs.Common.{◌≡◌, ℕ, Bool, true, false, cond, not, ◌&&◌, ◌||◌, List, [], ◌∷◌, fold, Option, Some, None, refl, sym, ap, subst, ◌∙◌}
use Rattle.std.specs.List.{AllByRecursion}
use Rattle.std.specs.Str.{bytes_eq}
use Rattle.std.specs.Ordering.{nat_cmp, is_eq, is_lt, ordering_reverse}
use Rattle.std.specs.declared.cmp.Ordering.{Ordering}
use Rattle.std.specs.declared.cmp.Ordering.TheVariants.{Less, Equal, Greater}
use Rattle.std.specs.Cmp.Lexicographic.{slice_cmp}
use Rattle.std.proofs.lemmas.Cmp.{nat_list_cmp_total, nat_list_eq_equiv}
use Rattle.std.proofs.lemmas.Map.Text.{is_eq-slice_cmp}
use Rattle.esql_types.specs.declared.names.Column.{Column}
use Rattle.esql_types.specs.declared.value.Kind.{Kind}
use Rattle.esql_plan.specs.Signatures.{same_kind}
use Rattle.row_semantics.specs.Sources.{with_column, clashes}
use Rattle.source_columns.specs.Gathered.{kind_in, IsBefore, AreOrdered}
use Rattle.source_columns.proofs.Names.{same_names}

abbrev order_of : List ℕ → List ℕ → Ordering
order_of this that = slice_cmp nat_cmp this that

other_name : (name : List ℕ) (column : Column) → IsBefore name column → bytes_eq column.name name ≡ false
other_name name column before = nat_list_eq_equiv.symm column.name name ∙ sym (is_eq-slice_cmp name column.name) ∙ ap is_eq before

is_before : (order : Ordering) → is_lt order ≡ true → order ≡ Less
is_before Less is = refl
is_before Equal is = absurd cc
is_before Greater is = absurd cc

-- which of two names is first
not_after : (first name : List ℕ) → bytes_eq first name ≡ false → is_lt (order_of name first) ≡ false → order_of first name ≡ Less
not_after first name differ not_before = by_order (order_of name first) refl
  where
    by_order : (order : Ordering) → order_of name first ≡ order → order_of first name ≡ Less
    by_order Less is = absurd (let both : false ≡ true = sym not_before ∙ ap is_lt is in cc)
    by_order Equal is = absurd (let both : false ≡ true = sym differ ∙ sym (is_eq-slice_cmp first name) ∙ ap is_eq (nat_list_cmp_total.antisymm first name ∙ ap ordering_reverse is) in cc)
    by_order Greater is = nat_list_cmp_total.antisymm first name ∙ ap ordering_reverse is

each_later : (this that : List ℕ) (columns : List Column) → order_of this that ≡ Less → AllByRecursion (IsBefore that) columns → AllByRecursion (IsBefore this) columns
each_later this that [] less all = tt
each_later this that (column ∷ columns) less all = (nat_list_cmp_total.trans this that column.name less all.0, each_later this that columns less all.1)

-- a name before all columns
pub none_before : (name : List ℕ) (columns : List Column) → AllByRecursion (IsBefore name) columns → kind_in columns name ≡ None
none_before name [] all = refl
none_before name (column ∷ columns) all = rw (other_name name column all.0) (none_before name columns all.1)

before_all : (name : List ℕ) (first : Column) (rest : List Column) → AreOrdered (first ∷ rest) → is_lt (order_of name first.name) ≡ true → AllByRecursion (IsBefore name) (first ∷ rest)
before_all name first rest ordered before =
    let less : order_of name first.name ≡ Less = is_before (order_of name first.name) before in
    (less, each_later name first.name rest less ordered.0)

-- one more column keeps the order
later_with : (name : List ℕ) (columns : List Column) (column : Column) → AllByRecursion (IsBefore name) columns → IsBefore name column → AllByRecursion (IsBefore name) (with_column columns column)
later_with name [] column all later = (later, tt)
later_with name (first ∷ rest) column all later =
    elim (bytes_eq first.name column.name) as (λ same. AllByRecursion (IsBefore name) (cond same (first ∷ rest) (cond (is_lt (order_of column.name first.name)) (column ∷ first ∷ rest) (first ∷ with_column rest column)))) [
      | true ↦ all
      | false ↦ elim (is_lt (order_of column.name first.name)) as (λ before. AllByRecursion (IsBefore name) (cond before (column ∷ first ∷ rest) (first ∷ with_column rest column)))
          [ true ↦ (later, all) | false ↦ (all.0, later_with name rest column all.1 later) ]
    ]

pub ordered_with : (columns : List Column) (column : Column) → AreOrdered columns → AreOrdered (with_column columns column)
ordered_with [] column ordered = (tt, tt)
ordered_with (first ∷ rest) column ordered = by_same (bytes_eq first.name column.name) refl (is_lt (order_of column.name first.name)) refl (ordered_with rest column ordered.1)
  where
    by_same : (same : Bool) → bytes_eq first.name column.name ≡ same → (before : Bool) → is_lt (order_of column.name first.name) ≡ before → AreOrdered (with_column rest column)
        → AreOrdered (cond same (first ∷ rest) (cond before (column ∷ first ∷ rest) (first ∷ with_column rest column)))
    by_same true is before before_is next = ordered
    by_same false is true before_is next = (before_all column.name first rest ordered before_is, ordered)
    by_same false is false before_is next = (later_with first.name rest column ordered.0 (not_after first.name column.name is before_is), next)

pub ordered_fold : (more columns : List Column) → AreOrdered columns → AreOrdered (fold with_column columns more)
ordered_fold [] columns ordered = ordered
ordered_fold (column ∷ more) columns ordered = ordered_fold more (with_column columns column) (ordered_with columns column ordered)

-- a column whose name is there changes nothing
pub with_column-present : (columns : List Column) (column : Column) (kind : Kind) → AreOrdered columns → kind_in columns column.name ≡ Some kind → with_column columns column ≡ columns
with_column-present [] column kind ordered found = absurd cc
with_column-present (first ∷ rest) column kind ordered found =
    by_same (bytes_eq first.name column.name) refl (is_lt (order_of column.name first.name)) refl (λ later. with_column-present rest column kind ordered.1 later)
  where
    by_same : (same : Bool) → bytes_eq first.name column.name ≡ same → (before : Bool) → is_lt (order_of column.name first.name) ≡ before
        → (kind_in rest column.name ≡ Some kind → with_column rest column ≡ rest)
        → cond same (first ∷ rest) (cond before (column ∷ first ∷ rest) (first ∷ with_column rest column)) ≡ first ∷ rest
    by_same true is before before_is next = refl
    by_same false is true before_is next =
        let none : kind_in (first ∷ rest) column.name ≡ None = none_before column.name (first ∷ rest) (before_all column.name first rest ordered before_is) in
        absurd cc
    by_same false is false before_is next = ap (λ these. first ∷ these) (next (rw is at found))

-- what a name finds after one more column
abbrev pub kind_or : Option Kind → Column → List ℕ → Option Kind
kind_or (Some kind) column name = Some kind
kind_or None column name = cond (bytes_eq column.name name) (Some column.kind) None

kind_or-other : (found : Option Kind) (column : Column) (name : List ℕ) → bytes_eq column.name name ≡ false → found ≡ kind_or found column name
kind_or-other (Some kind) column name other = refl
kind_or-other None column name other = rw other

pub kind_in-with_column : (columns : List Column) (column : Column) (name : List ℕ) → AreOrdered columns
    → kind_in (with_column columns column) name ≡ kind_or (kind_in columns name) column name
kind_in-with_column [] column name ordered = refl
kind_in-with_column (first ∷ rest) column name ordered =
    by_same (bytes_eq first.name column.name) refl (is_lt (order_of column.name first.name)) refl (kind_in-with_column rest column name ordered.1)
  where
    in_first : (found : Bool) → kind_in (with_column rest column) name ≡ kind_or (kind_in rest name) column name
        → cond found (Some first.kind) (kind_in (with_column rest column) name) ≡ kind_or (cond found (Some first.kind) (kind_in rest name)) column name
    in_first true next = refl
    in_first false next = next

    at_same : bytes_eq first.name column.name ≡ true → (found : Bool) → bytes_eq first.name name ≡ found
        → cond found (Some first.kind) (kind_in rest name) ≡ kind_or (cond found (Some first.kind) (kind_in rest name)) column name
    at_same is true found_is = refl
    at_same is false found_is =
        kind_or-other (kind_in rest name) column name (ap (λ (this : List ℕ). bytes_eq this name) (sym (same_names first.name column.name is)) ∙ found_is)

    at_front : is_lt (order_of column.name first.name) ≡ true → (here : Bool) → bytes_eq column.name name ≡ here
        → cond here (Some column.kind) (kind_in (first ∷ rest) name) ≡ kind_or (kind_in (first ∷ rest) name) column name
    at_front before true here_is =
        let none : kind_in (first ∷ rest) name ≡ None =
        subst (λ (this : List ℕ). kind_in (first ∷ rest) this ≡ None) (same_names column.name name here_is) (none_before column.name (first ∷ rest) (before_all column.name first rest ordered before)) in
        subst (λ (found : Option Kind). Some column.kind ≡ kind_or found column name) (sym none) (rw here_is)
    at_front before false here_is = kind_or-other (kind_in (first ∷ rest) name) column name here_is

    by_same : (same : Bool) → bytes_eq first.name column.name ≡ same → (before : Bool) → is_lt (order_of column.name first.name) ≡ before
        → kind_in (with_column rest column) name ≡ kind_or (kind_in rest name) column name
        → kind_in (cond same (first ∷ rest) (cond before (column ∷ first ∷ rest) (first ∷ with_column rest column))) name ≡ kind_or (kind_in (first ∷ rest) name) column name
    by_same true is before before_is next = at_same is (bytes_eq first.name name) refl
    by_same false is true before_is next = at_front before_is (bytes_eq column.name name) refl
    by_same false is false before_is next = in_first (bytes_eq first.name name) next

-- a clash is with the one column of the name
abbrev pub clashes_with : Option Kind → Kind → Bool
clashes_with None kind = false
clashes_with (Some other) kind = not (same_kind other kind)

no_clash : (name : List ℕ) (columns : List Column) (column : Column) → name ≡ column.name → AllByRecursion (IsBefore name) columns → clashes columns column ≡ false
no_clash name [] column is all = refl
no_clash name (first ∷ rest) column is all =
    let other : bytes_eq first.name column.name ≡ false = subst (λ (this : List ℕ). bytes_eq first.name this ≡ false) is (other_name name first all.0) in
    rw other (no_clash name rest column is all.1)

or-false : (here : Bool) → (here || false) ≡ here
or-false true = refl
or-false false = refl

pub clashes-is : (columns : List Column) (column : Column) → AreOrdered columns → clashes columns column ≡ clashes_with (kind_in columns column.name) column.kind
clashes-is [] column ordered = refl
clashes-is (first ∷ rest) column ordered = by_same (bytes_eq first.name column.name) refl (clashes-is rest column ordered.1)
  where
    by_same : (same : Bool) → bytes_eq first.name column.name ≡ same → clashes rest column ≡ clashes_with (kind_in rest column.name) column.kind
        → ((same && not (same_kind first.kind column.kind)) || clashes rest column) ≡ clashes_with (cond same (Some first.kind) (kind_in rest column.name)) column.kind
    by_same true is next =
        ap (λ (later : Bool). not (same_kind first.kind column.kind) || later) (no_clash first.name rest column (same_names first.name column.name is) ordered.0)
        ∙ or-false (not (same_kind first.kind column.kind))
    by_same false is next = next
