-- The columns that a map holds.
use Rattle.std.proofs.Common.{◌≡◌, ℕ, Bool, true, false, cond, List, [], ◌∷◌, Option, Some, None, is_some, refl, sym, ap, ◌∙◌}
use Rattle.std.specs.Borrow.{Bor}
use Rattle.std.specs.BTreeMap.{insert_entry, is_at}
use Rattle.std.specs.Map.{lookup}
use Rattle.std.specs.Str.{bytes_eq}
use Rattle.std.specs.Ordering.{nat_cmp, is_eq, is_lt, match_ordering}
use Rattle.std.specs.declared.cmp.Ordering.{Ordering}
use Rattle.std.specs.declared.cmp.Ordering.TheVariants.{Less, Equal, Greater}
use Rattle.std.specs.Cmp.Lexicographic.{slice_cmp}
use Rattle.std.proofs.lemmas.Cmp.{nat_list_eq_equiv}
use Rattle.std.proofs.lemmas.Map.Text.{is_eq-slice_cmp}
use Rattle.esql_types.specs.declared.names.Column.{Column}
use Rattle.esql_types.specs.declared.value.Kind.{Kind}
use Rattle.row_semantics.specs.Sources.{with_column, clashes}
use Rattle.source_columns.specs.Index.{at_name}
use Rattle.source_columns.specs.Gathered.{Entry, column_of, columns_in, kind_in, AreOrdered}
use Rattle.source_columns.proofs.Names.{Named, SomeIs, some_is, none_is}
use Rattle.source_columns.proofs.Order.{with_column-present, clashes-is, clashes_with}

equal_names : (this that : List ℕ) → is_eq (slice_cmp nat_cmp this that) ≡ bytes_eq that this
equal_names this that = is_eq-slice_cmp this that ∙ nat_list_eq_equiv.symm this that

-- what a name finds
found_in : (entries : List Entry) (name : List ℕ) → lookup (is_at (λ (key : Bor (List ℕ)). slice_cmp nat_cmp name key.now)) entries ≡ kind_in (columns_in entries) name
found_in [] name = refl
found_in (entry ∷ entries) name =
    ap (λ (later : Option Kind). cond (is_eq (slice_cmp nat_cmp name entry.0.now)) (Some entry.1) later) (found_in entries name)
    ∙ ap (λ (same : Bool). cond same (Some entry.1) (kind_in (columns_in entries) name)) (equal_names name entry.0.now)

pub at_name-columns : (held : Named Kind) (name : List ℕ) → at_name held name ≡ kind_in (columns_in held.entries) name
at_name-columns held name = found_in held.entries name

abbrev key_order : Bor (List ℕ) → Bor (List ℕ) → Ordering
key_order x y = slice_cmp nat_cmp x.now y.now

-- a name that is not there goes to its place
inserted : (key : Bor (List ℕ)) (kind : Kind) (entries : List Entry) → kind_in (columns_in entries) key.now ≡ None
    → columns_in (insert_entry key_order entries key kind) ≡ with_column (columns_in entries) (record { name = key.now; kind = kind })
inserted key kind [] none = refl
inserted key kind (entry ∷ entries) none =
    by_order (slice_cmp nat_cmp key.now entry.0.now) (bytes_eq entry.0.now key.now) (equal_names key.now entry.0.now) none (λ later. inserted key kind entries later)
  where
    column : Column
    column = record { name = key.now; kind = kind }

    by_order : (order : Ordering) (same : Bool) → is_eq order ≡ same → cond same (Some entry.1) (kind_in (columns_in entries) key.now) ≡ None
        → (kind_in (columns_in entries) key.now ≡ None → columns_in (insert_entry key_order entries key kind) ≡ with_column (columns_in entries) (record { name = key.now; kind = kind }))
        → columns_in (match_ordering order ((key, kind) ∷ entry ∷ entries) ((entry.0, kind) ∷ entries) (entry ∷ insert_entry key_order entries key kind))
        ≡ cond same (columns_in (entry ∷ entries)) (cond (is_lt order) (record { name = key.now; kind = kind } ∷ columns_in (entry ∷ entries)) (column_of entry ∷ with_column (columns_in entries) (record { name = key.now; kind = kind })))
    by_order Less false is none next = refl
    by_order Greater false is none next = ap (λ (these : List Column). column_of entry ∷ these) (next none)
    by_order Equal true is none next = absurd cc
    by_order Less true is none next = absurd cc
    by_order Greater true is none next = absurd cc
    by_order Equal false is none next = absurd cc

pub column_added : (old new : Named Kind) (key : Bor (List ℕ)) (column : Column) → key.now ≡ column.name → is_some (at_name old key.now) ≡ false
    → new.entries ≡ insert_entry key_order old.entries key column.kind → columns_in new.entries ≡ with_column (columns_in old.entries) column
column_added old new key column named absent entries =
    ap columns_in entries
    ∙ inserted key column.kind old.entries (none_is _ (sym (ap is_some (at_name-columns old key.now)) ∙ absent))
    ∙ ap (λ (name : List ℕ). with_column (columns_in old.entries) (record { name = name; kind = column.kind })) named

pub column_kept : (old : Named Kind) (name : List ℕ) (column : Column) → name ≡ column.name → AreOrdered (columns_in old.entries) → is_some (at_name old name) ≡ true
    → columns_in old.entries ≡ with_column (columns_in old.entries) column
column_kept old name column named ordered present =
    let found : SomeIs (kind_in (columns_in old.entries) name) = some_is _ (sym (ap is_some (at_name-columns old name)) ∙ present) in
    sym (with_column-present (columns_in old.entries) column found.0 ordered (ap (λ (this : List ℕ). kind_in (columns_in old.entries) this) (sym named) ∙ found.1))

-- a clash is with what the map has
pub clash_of : (held : Named Kind) (name : List ℕ) (column : Column) (found : Option Kind) → name ≡ column.name → AreOrdered (columns_in held.entries) → at_name held name ≡ found
    → clashes_with found column.kind ≡ clashes (columns_in held.entries) column
clash_of held name column found named ordered is =
    ap (λ (kind : Option Kind). clashes_with kind column.kind) (sym is ∙ at_name-columns held name ∙ ap (λ (this : List ℕ). kind_in (columns_in held.entries) this) named)
    ∙ sym (clashes-is (columns_in held.entries) column ordered)
