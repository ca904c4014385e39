-- A table that is named again.
use Rattle.std.proofs.Common.{◌≡◌, ℕ, Bool, true, false, cond, not, ◌||◌, List, [], ◌∷◌, fold, Option, Some, None, IsSome, is_some, Result, Ok, Err, refl, sym, ap, subst, ◌∙◌}
use Rattle.std.specs.Prelude.{IfSome}
use Rattle.std.specs.List.{AllByRecursion, list_any}
use Rattle.std.specs.Str.{bytes_eq}
use Rattle.esql_types.specs.declared.names.Column.{Column}
use Rattle.esql_types.specs.declared.value.Kind.{Kind}
use Rattle.esql_ast.specs.declared.query.NameAt.{NameAt}
use Rattle.esql_plan.specs.declared.catalog.TableShape.{TableShape}
use Rattle.row_semantics.specs.declared.rule.NameRule.TheVariants as rule
use Rattle.row_semantics.specs.Scopes.{Broken}
use Rattle.row_semantics.specs.Sources.{with_column, clashes, with_table, table_named}
use Rattle.source_columns.specs.Index.{at_name}
use Rattle.source_columns.specs.Gathered.{kind_in, AreOrdered}
use Rattle.source_columns.specs.Taken.{IsAmong, IsTaken, AreTaken, Puts}
use Rattle.std.proofs.lemmas.Slice.Eq.{bytes_eq-Decides}
use Rattle.source_columns.proofs.Names.{Named, same_names, SomeIs, some_is}
use Rattle.source_columns.proofs.Order.{ordered_with, ordered_fold, with_column-present, kind_in-with_column, kind_or, clashes-is, clashes_with}

is_there : {A : Type 0} (o : Option A) (x : A) → o ≡ Some x → IsSome o
is_there o x is = ap is_some is

-- what a name finds stays
kept_with : (columns : List Column) (column : Column) (name : List ℕ) (kind : Kind) → AreOrdered columns → kind_in columns name ≡ Some kind → kind_in (with_column columns column) name ≡ Some kind
kept_with columns column name kind ordered found = kind_in-with_column columns column name ordered ∙ ap (λ (this : Option Kind). kind_or this column name) found

kept_fold : (more columns : List Column) (name : List ℕ) (kind : Kind) → AreOrdered columns → kind_in columns name ≡ Some kind → kind_in (fold with_column columns more) name ≡ Some kind
kept_fold [] columns name kind ordered found = found
kept_fold (column ∷ more) columns name kind ordered found =
    kept_fold more (with_column columns column) name kind (ordered_with columns column ordered) (kept_with columns column name kind ordered found)

among_fold : (more columns : List Column) (column : Column) → AreOrdered columns → IsAmong columns column → IsAmong (fold with_column columns more) column
among_fold more columns column ordered among =
    let found : SomeIs (kind_in columns column.name) = some_is _ among in
    is_there (kind_in (fold with_column columns more) column.name) found.0 (kept_fold more columns column.name found.0 ordered found.1)

each_among_fold : (more columns these : List Column) → AreOrdered columns → AllByRecursion (IsAmong columns) these → AllByRecursion (IsAmong (fold with_column columns more)) these
each_among_fold more columns [] ordered all = tt
each_among_fold more columns (column ∷ these) ordered all = (among_fold more columns column ordered all.0, each_among_fold more columns these ordered all.1)

-- a column is among those that it was added to
is_itself : (name : List ℕ) → bytes_eq name name ≡ true
is_itself name = (bytes_eq-Decides name name).1 refl

among_with : (columns : List Column) (column : Column) → AreOrdered columns → IsAmong (with_column columns column) column
among_with columns column ordered = subst IsSome (sym (kind_in-with_column columns column column.name ordered)) (by_found (kind_in columns column.name))
  where
    by_found : (found : Option Kind) → IsSome (kind_or found column column.name)
    by_found (Some kind) = refl
    by_found None = subst (λ (here : Bool). IsSome (cond here (Some column.kind) None)) (sym (is_itself column.name)) refl

pub all_among : (more columns : List Column) → AreOrdered columns → AllByRecursion (IsAmong (fold with_column columns more)) more
all_among [] columns ordered = tt
all_among (column ∷ more) columns ordered = (
  among_fold more (with_column columns column) column (ordered_with columns column ordered) (among_with columns column ordered),
  all_among more (with_column columns column) (ordered_with columns column ordered),
)

-- columns that are there change nothing
fold_same : (more columns : List Column) → AreOrdered columns → AllByRecursion (IsAmong columns) more → fold with_column columns more ≡ columns
fold_same [] columns ordered all = refl
fold_same (column ∷ more) columns ordered all =
    let found : SomeIs (kind_in columns column.name) = some_is _ all.0 in
    ap (λ (these : List Column). fold with_column these more) (with_column-present columns column found.0 ordered found.1)
    ∙ fold_same more columns ordered all.1

-- and clash as before
clash_same : (more columns : List Column) (column : Column) → AreOrdered columns → IsAmong columns column → clashes (fold with_column columns more) column ≡ clashes columns column
clash_same more columns column ordered among =
    let found : SomeIs (kind_in columns column.name) = some_is _ among in
    clashes-is (fold with_column columns more) column (ordered_fold more columns ordered)
    ∙ ap (λ (kind : Option Kind). clashes_with kind column.kind) (kept_fold more columns column.name found.0 ordered found.1 ∙ sym found.1)
    ∙ sym (clashes-is columns column ordered)

clashes_same : (more columns these : List Column) → AreOrdered columns → AllByRecursion (IsAmong columns) these
    → list_any (clashes (fold with_column columns more)) these ≡ list_any (clashes columns) these
clashes_same more columns [] ordered all = refl
clashes_same more columns (column ∷ these) ordered all =
    ap (λ (here : Bool). here || list_any (clashes (fold with_column columns more)) these) (clash_same more columns column ordered all.0)
    ∙ ap (λ (later : Bool). clashes columns column || later) (clashes_same more columns these ordered all.1)

-- a table that is taken stays so
taken_fold : (more columns : List Column) (table : Option TableShape) (agrees : Bool) → AreOrdered columns → IsTaken columns table agrees → IsTaken (fold with_column columns more) table agrees
taken_fold more columns None agrees ordered taken = taken
taken_fold more columns (Some table) agrees ordered taken =
    (each_among_fold more columns table.columns ordered taken.0, clashes_same more columns table.columns ordered taken.0 ∙ taken.1)

not_not : (b : Bool) → b ≡ not (not b)
not_not true = refl
not_not false = refl

pub newly_taken : (columns after : List Column) (table : TableShape) (agrees clash : Bool) → AreOrdered columns → after ≡ fold with_column columns table.columns
    → clash ≡ list_any (clashes after) table.columns → agrees ≡ not clash → IsTaken after (Some table) agrees
newly_taken columns after table agrees clash ordered is clash_is agrees_is = (
  subst (λ (these : List Column). AllByRecursion (IsAmong these) table.columns) (sym is) (all_among table.columns columns ordered),
  not_not (list_any (clashes after) table.columns) ∙ ap (λ (b : Bool). not (not b)) (sym clash_is) ∙ ap not (sym agrees_is),
)

-- named again where it agrees
pub again_agrees : (name : NameAt) (table : Option TableShape) (columns : List Column) → AreOrdered columns → IsTaken columns table true → with_table name table columns ≡ Ok columns
again_agrees name None columns ordered taken = absurd taken
again_agrees name (Some table) columns ordered taken = rw taken.1 (ap Ok (fold_same table.columns columns ordered taken.0))

-- and where it does not
pub again_clashes : (name : NameAt) (table : Option TableShape) (columns : List Column) → IsTaken columns table false → with_table name table columns ≡ Err (record { rule = rule.BadKind; span = name.span })
again_clashes name None columns taken = absurd taken
again_clashes name (Some table) columns taken = rw taken.1

-- what a map of taken tables has at a name
pub taken_at : (tables : List TableShape) (columns : List Column) (taken : Named Bool) (name : List ℕ) (agrees : Bool) → AreTaken tables columns taken → at_name taken name ≡ Some agrees
    → IsTaken columns (table_named tables name) agrees
taken_at tables columns taken name agrees all found = subst (λ (this : Option Bool). IfSome this (IsTaken columns (table_named tables name))) found (all name)

taken_more : (tables : List TableShape) (columns after : List Column) (old new : Named Bool) (table : TableShape) (name : List ℕ) (agrees : Bool)
    → ((sought : Option TableShape) (other : Bool) → IsTaken columns sought other → IsTaken after sought other)
    → table_named tables name ≡ Some table → table.name ≡ name → IsTaken after (Some table) agrees → Puts table.name agrees old new → AreTaken tables columns old → AreTaken tables after new
taken_more tables columns after old new table name agrees kept found named is_taken changes all other =
    subst (λ (this : Option Bool). IfSome this (IsTaken after (table_named tables other))) (sym (changes other))
    (by_same (bytes_eq table.name other) refl (at_name old other) (all other))
  where
    by_same : (same : Bool) → bytes_eq table.name other ≡ same → (known : Option Bool) → IfSome known (IsTaken columns (table_named tables other))
        → IfSome (cond same (Some agrees) known) (IsTaken after (table_named tables other))
    by_same true is known known_taken =
        let here : table_named tables other ≡ Some table = ap (λ (this : List ℕ). table_named tables this) (sym (same_names table.name other is) ∙ named) ∙ found in
        subst (λ (this : Option TableShape). IsTaken after this agrees) (sym here) is_taken
    by_same false is (Some known) known_taken = kept (table_named tables other) known known_taken
    by_same false is None known_taken = tt

-- a table that is found has the name
pub name_found : (tables : List TableShape) (name : List ℕ) (table : TableShape) → table_named tables name ≡ Some table → table.name ≡ name
name_found [] name table found = absurd cc
name_found (first ∷ rest) name table found = by_same (bytes_eq first.name name) refl (λ later. name_found rest name table later) found
  where
    by_same : (same : Bool) → bytes_eq first.name name ≡ same → (table_named rest name ≡ Some table → table.name ≡ name) → cond same (Some first) (table_named rest name) ≡ Some table → table.name ≡ name
    by_same true is later here = let this : first ≡ table = cc in ap (λ (t : TableShape). t.name) (sym this) ∙ same_names first.name name is
    by_same false is later here = later here

-- what a table did that was added
abbrev pub Adds : NameAt → Option TableShape → List Column → List Column → Type 0
Adds name table columns after = with_table name table columns ≡ Ok after

abbrev IsFold : TableShape → List Column → List Column → Type 0
IsFold table columns after = after ≡ fold with_column columns table.columns

by_clash : (clash : Bool) (broken : Broken) (columns after : List Column) → ◌≡◌ {A = Result (List Column) Broken} (cond clash (Err broken) (Ok columns)) (Ok after) → after ≡ columns
by_clash true broken columns after is = absurd cc
by_clash false broken columns after is = cc

added_is : (name : NameAt) (table : TableShape) (columns after : List Column) → Adds name (Some table) columns after → IsFold table columns after
added_is name table columns after adds = by_clash (list_any (clashes columns) table.columns) _ (fold with_column columns table.columns) after adds

pub adds_ordered : (name : NameAt) (table : Option TableShape) (columns after : List Column) → AreOrdered columns → Adds name table columns after → AreOrdered after
adds_ordered name None columns after ordered adds = absurd cc
adds_ordered name (Some table) columns after ordered adds =
    subst AreOrdered (sym (added_is name table columns after adds)) (ordered_fold table.columns columns ordered)

pub taken_after : (tables : List TableShape) (name : NameAt) (columns after : List Column) (old new : Named Bool) (table : TableShape) (agrees : Bool) → AreOrdered columns
    → table_named tables name.name ≡ Some table → Adds name (Some table) columns after → IsTaken after (Some table) agrees → Puts table.name agrees old new
    → AreTaken tables columns old → AreTaken tables after new
taken_after tables name columns after old new table agrees ordered found adds is_taken changes all =
    taken_more tables columns after old new table name.name agrees
    (λ sought other taken. subst (λ (these : List Column). IsTaken these sought other) (sym (added_is name table columns after adds)) (taken_fold table.columns columns sought other ordered taken))
    found (name_found tables name.name table found) is_taken changes all
