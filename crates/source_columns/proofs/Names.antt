-- The numbers of tables by their names.
use Rattle.std.proofs.Common.{◌≡◌, ℕ, ◌+◌, ◌<◌, suc, Bool, true, false, cond, List, [], ◌∷◌, ◌++◌, length, take, get_or, Option, Some, None, option_map, is_some, refl, sym, ap, subst, ◌∙◌, add-one, arith}
use Rattle.std.specs.Borrow.{Bor}
use Rattle.std.specs.BTreeMap.{BTreeMap, UpdatesBy}
use Rattle.std.specs.Cmp.Lexicographic.{slice_cmp}
use Rattle.std.specs.Ordering.{nat_cmp}
use Rattle.std.specs.Str.{bytes_eq}
use Rattle.std.specs.List.{slice_get}
use Rattle.std.specs.Option.{option_copied}
use Rattle.std.specs.Slice.{IsGetResult}
use Rattle.std.proofs.lemmas.Option.{slice_get_past, slice_get_read}
use Rattle.std.proofs.lemmas.List.{take_more, length-take-le}
use Rattle.std.proofs.lemmas.Slice.Eq.{bytes_eq-Decides}
use Rattle.std.proofs.lemmas.Map.Text.{btree_map_updates_str}
use Rattle.esql_plan.specs.declared.catalog.TableShape.{TableShape}
use Rattle.row_semantics.specs.Sources.{number_of_table, table_named}
use Rattle.source_columns.specs.Index.{at_name, number_at, number_or}

abbrev pub Named : Type 0 → Type 0
Named Held = BTreeMap (Bor (List ℕ)) Held

pub same_names : (this that : List ℕ) → bytes_eq this that ≡ true → this ≡ that
same_names this that is = (bytes_eq-Decides this that).0 is

abbrev pub Changes : {Held : Type 0} → Named Held → Named Held → List ℕ → Held → Type 0
Changes old new name held = UpdatesBy (λ x y. slice_cmp nat_cmp x.now y.now) (λ key. slice_cmp nat_cmp name key.now) old new (Some held)

-- a name is put into a map
pub named_after : {Held : Type 0} (old new : Named Held) (name : List ℕ) (held : Held) → Changes old new name held
    → (other : List ℕ) → at_name new other ≡ cond (bytes_eq name other) (Some held) (at_name old other)
named_after old new name held changes other = btree_map_updates_str name old new (Some held) changes other

-- what is there, and what is not
abbrev pub SomeIs : {A : Type 0} → Option A → Type 0
SomeIs {A} o = (x : A) × (o ≡ Some x)

pub some_is : {A : Type 0} (o : Option A) → is_some o ≡ true → SomeIs o
some_is None present = absurd cc
some_is (Some x) present = (x, refl)

pub none_is : {A : Type 0} (o : Option A) → is_some o ≡ false → o ≡ None
none_is None absent = refl
none_is (Some x) absent = absurd cc

-- a name that was not there
pub number_added : (old new : Named ℕ) (name : List ℕ) (number : ℕ) → Changes old new name number → is_some (number_at old name) ≡ false
    → (other : List ℕ) → number_at new other ≡ number_or (number_at old other) name number other
number_added old new name number changes absent other = named_after old new name number changes other ∙ by_same (bytes_eq name other) refl (number_at old other) refl
  where
    by_same : (same : Bool) → bytes_eq name other ≡ same → (known : Option ℕ) → number_at old other ≡ known → cond same (Some number) known ≡ number_or known name number other
    by_same true is None known_is = rw is
    by_same true is (Some known) known_is =
        let some : is_some (number_at old name) ≡ true = ap (λ (this : List ℕ). is_some (number_at old this)) (same_names name other is) ∙ ap is_some known_is in
        absurd cc
    by_same false is None known_is = rw is
    by_same false is (Some known) known_is = refl

-- one table more
pub number_of_table-push : (tables : List TableShape) (table : TableShape) (name : List ℕ)
    → number_of_table (tables ++ table ∷ []) name ≡ number_or (number_of_table tables name) table.name (length tables) name
number_of_table-push [] table name = refl
number_of_table-push (first ∷ rest) table name =
    by_same (bytes_eq first.name name) (number_of_table rest name) (number_of_table-push rest table name)
  where
    raised : (known : Option ℕ) → option_map (λ n. n + 1) (number_or known table.name (length rest) name) ≡ number_or (option_map (λ n. n + 1) known) table.name (suc (length rest)) name
    raised (Some known) = refl
    raised None = by_last (bytes_eq table.name name)
      where
        by_last : (same : Bool) → option_map (λ n. n + 1) (cond same (Some (length rest)) None) ≡ cond same (Some (suc (length rest))) None
        by_last true = ap Some (add-one (length rest))
        by_last false = refl

    by_same : (same : Bool) (known : Option ℕ) → number_of_table (rest ++ table ∷ []) name ≡ number_or known table.name (length rest) name
        → cond same (Some 0) (option_map (λ n. n + 1) (number_of_table (rest ++ table ∷ []) name)) ≡ number_or (cond same (Some 0) (option_map (λ n. n + 1) known)) table.name (suc (length rest)) name
    by_same true known is = refl
    by_same false known is = ap (λ number. option_map (λ n. n + 1) number) is ∙ raised known

-- the step of a walk over the tables
pub one_more : (tables : List TableShape) (number : ℕ) (table : TableShape) (name other : List ℕ) → number < length tables → get_or tables number table ≡ table → name ≡ table.name
    → (known : Option ℕ) → known ≡ number_of_table (take number tables) other → number_or known name number other ≡ number_of_table (take (number + 1) tables) other
one_more tables number table name other below is named known known_is =
    ap (λ (this : Option ℕ). number_or this name number other) known_is
    ∙ ap (λ (this : List ℕ). number_or (number_of_table (take number tables) other) this number other) named
    ∙ ap (λ (this : ℕ). number_or (number_of_table (take number tables) other) table.name this other) (sym (length-take-le number tables (omega arith)))
    ∙ sym (number_of_table-push (take number tables) table other)
    ∙ ap (λ (these : List TableShape). number_of_table these other) (sym (take_more tables number table below ∙ ap (λ (this : TableShape). take number tables ++ this ∷ []) is))

-- the table of a number
abbrev pub IsNumbered : List TableShape → List ℕ → Option ℕ → Type 0
IsNumbered tables name None = table_named tables name ≡ None
IsNumbered tables name (Some number) = (number < length tables) × (table_named tables name ≡ slice_get tables number)

pub table_numbered : (tables : List TableShape) (name : List ℕ) → IsNumbered tables name (number_of_table tables name)
table_numbered [] name = refl
table_numbered (table ∷ tables) name = by_same (bytes_eq table.name name) refl (number_of_table tables name) (table_numbered tables name)
  where
    step : (same : Bool) → bytes_eq table.name name ≡ same → (number : Option ℕ) → IsNumbered tables name number → IsNumbered (table ∷ tables) name (cond same (Some 0) (option_map (λ n. n + 1) number))
    step true is number rest = (omega arith, rw is)
    step false is None rest = rw is rest
    step false is (Some number) rest = (let below : number < length tables = rest.0 in omega arith, rw (is, add-one) rest.1)

    by_same : (same : Bool) → bytes_eq table.name name ≡ same → (number : Option ℕ) → IsNumbered tables name number → IsNumbered (table ∷ tables) name (cond (bytes_eq table.name name) (Some 0) (option_map (λ n. n + 1) number))
    by_same same is number rest = subst (λ (b : Bool). IsNumbered (table ∷ tables) name (cond b (Some 0) (option_map (λ n. n + 1) number))) (sym is) (step same is number rest)

-- the table at a number
abbrev pub IsNumberedAs : List TableShape → Option ℕ → Option TableShape → Type 0
IsNumberedAs tables None table = table ≡ None
IsNumberedAs tables (Some number) table = table ≡ slice_get tables number

-- the table that an index finds
pub table_found : (tables : List TableShape) (name : List ℕ) (number : Option ℕ) (table : Option TableShape) → number ≡ number_of_table tables name → IsNumberedAs tables number table → table ≡ table_named tables name
table_found tables name None table is as_number = as_number ∙ sym (subst (λ (this : Option ℕ). IsNumbered tables name this) (sym is) (table_numbered tables name))
table_found tables name (Some number) table is as_number = as_number ∙ sym (subst (λ (this : Option ℕ). IsNumbered tables name this) (sym is) (table_numbered tables name)).1

-- an item of a list, as it is read
pub item_read : {X : Type 0} (xs : List X) (i : ℕ) (item : Option (Bor X)) → IsGetResult xs i i item → option_copied item ≡ slice_get xs i
item_read xs i None is = sym (slice_get_past xs i is.3)
item_read xs i (Some x) is = sym (slice_get_read xs (length xs) i x.now refl is.3.0 is.1)
