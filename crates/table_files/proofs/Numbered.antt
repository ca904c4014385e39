-- The numbers of tables by their names.
use Rattle.std.proofs.Common.{◌≡◌, ℕ, suc, ◌+◌, ◌≤◌, Bool, true, false, ◌||◌, cond, List, [], ◌∷◌, ◌++◌, length, Option, Some, None, option_map, refl, sym, ap, subst, ◌∙◌, arith, rules}
use Rattle.std.specs.List.{slice_get}
use Rattle.std.specs.Str.{bytes_eq}
use Rattle.std.proofs.lemmas.Slice.Eq.{bytes_eq-Decides}
use Rattle.esql_plan.specs.declared.catalog.PolicyShape.{PolicyShape}
use Rattle.table_files.specs.declared.tables.FoundTable.{FoundTable}
use Rattle.table_files.specs.Catalogs.{columns_of}
use Rattle.table_files.specs.Found.{has_table}
use Rattle.table_files.specs.Numbers.{number_if}
use Rattle.table_files.specs.Policies.{number_of, columns_named}
use Rattle.table_files.specs.Shapes.{entries_of, entries_of_policies}

pub same_name : (one other : List ℕ) → bytes_eq one other ≡ true → one ≡ other
same_name one other is = (bytes_eq-Decides one other).0 is

pub own_name : (name : List ℕ) → bytes_eq name name ≡ true
own_name name = (bytes_eq-Decides name name).1 refl

abbrev numbered : Bool → ℕ → Option ℕ
numbered has number = cond has (Some number) None

-- ---- a table that is first

has_first : (table : FoundTable) (tables : List FoundTable) (name : List ℕ) → bytes_eq table.name name ≡ true → has_table (table ∷ tables) name ≡ true
has_first table tables name is = ap (λ (b : Bool). b || has_table tables name) is

has_other : (table : FoundTable) (tables : List FoundTable) (name : List ℕ) → bytes_eq table.name name ≡ false → has_table (table ∷ tables) name ≡ has_table tables name
has_other table tables name is = ap (λ (b : Bool). b || has_table tables name) is

number_first : (table : FoundTable) (tables : List FoundTable) (name : List ℕ) → bytes_eq table.name name ≡ true → number_of (table ∷ tables) name ≡ 0
number_first table tables name is = ap (λ (b : Bool). cond b 0 (1 + number_of tables name)) is

number_other : (table : FoundTable) (tables : List FoundTable) (name : List ℕ) → bytes_eq table.name name ≡ false → number_of (table ∷ tables) name ≡ suc (number_of tables name)
number_other table tables name is = ap (λ (b : Bool). cond b 0 (1 + number_of tables name)) is ∙ omega arith

named_first : (table : FoundTable) (tables : List FoundTable) (name : List ℕ) → bytes_eq table.name name ≡ true → columns_named (table ∷ tables) name ≡ columns_of table.columns
named_first table tables name is = ap (λ (b : Bool). cond b (columns_of table.columns) (columns_named tables name)) is

named_other : (table : FoundTable) (tables : List FoundTable) (name : List ℕ) → bytes_eq table.name name ≡ false → columns_named (table ∷ tables) name ≡ columns_named tables name
named_other table tables name is = ap (λ (b : Bool). cond b (columns_of table.columns) (columns_named tables name)) is

if_first : (table : FoundTable) (tables : List FoundTable) (name : List ℕ) → bytes_eq table.name name ≡ true → number_if (table ∷ tables) name ≡ Some 0
if_first table tables name is = (λ i. numbered (has_first table tables name is i) (number_first table tables name is i))

if_other : (table : FoundTable) (tables : List FoundTable) (name : List ℕ) → bytes_eq table.name name ≡ false → number_if (table ∷ tables) name ≡ option_map suc (number_if tables name)
if_other table tables name is = (λ i. numbered (has_other table tables name is i) (number_other table tables name is i)) ∙ by_has (has_table tables name)
  where
    by_has : (has : Bool) → numbered has (suc (number_of tables name)) ≡ option_map suc (numbered has (number_of tables name))
    by_has true = refl
    by_has false = refl

-- ---- one more table

abbrev or_last : List ℕ → ℕ → List ℕ → Option ℕ → Option ℕ
or_last own number name before = cond (bytes_eq own name) (Some number) before

pub number_more : (tables : List FoundTable) (table : FoundTable) (name : List ℕ) → has_table tables table.name ≡ false
    → number_if (tables ++ table ∷ []) name ≡ or_last table.name (length tables) name (number_if tables name)
number_more [] table name apart = by_name (bytes_eq table.name name) refl
  where
    by_name : (same : Bool) → bytes_eq table.name name ≡ same → number_if (table ∷ []) name ≡ cond same (Some 0) None
    by_name true is = if_first table [] name is
    by_name false is = if_other table [] name is
number_more (first ∷ tables) table name apart = by_first (bytes_eq first.name table.name) refl (λ later. number_more tables table name later)
  where
    by_last : (new : Bool) → (number : Option ℕ) → option_map suc (cond new (Some (length tables)) number) ≡ cond new (Some (suc (length tables))) (option_map suc number)
    by_last true number = refl
    by_last false number = refl

    other_than : (new : Bool) → bytes_eq table.name name ≡ new → bytes_eq first.name table.name ≡ false → bytes_eq first.name name ≡ true
        → Some 0 ≡ cond new (Some (suc (length tables))) (number_if (first ∷ tables) name)
    other_than true is other own = absurd (let both : first.name ≡ table.name = same_name first.name name own ∙ sym (same_name table.name name is) in let own_is = (bytes_eq-Decides first.name table.name).1 both in cc)
    other_than false is other own = sym (if_first first tables name own)

    by_name : (same : Bool) → bytes_eq first.name name ≡ same → bytes_eq first.name table.name ≡ false
        → number_if (tables ++ table ∷ []) name ≡ or_last table.name (length tables) name (number_if tables name)
        → number_if (first ∷ tables ++ table ∷ []) name ≡ or_last table.name (suc (length tables)) name (number_if (first ∷ tables) name)
    by_name true is other rest = if_first first (tables ++ table ∷ []) name is ∙ other_than (bytes_eq table.name name) refl other is
    by_name false is other rest =
        if_other first (tables ++ table ∷ []) name is ∙ ap (option_map suc) rest ∙ by_last (bytes_eq table.name name) (number_if tables name)
        ∙ ap (or_last table.name (suc (length tables)) name) (sym (if_other first tables name is))

    by_first : (same : Bool) → bytes_eq first.name table.name ≡ same
        → (has_table tables table.name ≡ false → number_if (tables ++ table ∷ []) name ≡ or_last table.name (length tables) name (number_if tables name))
        → number_if (first ∷ tables ++ table ∷ []) name ≡ or_last table.name (suc (length tables)) name (number_if (first ∷ tables) name)
    by_first true is next = absurd (let has = has_first first tables table.name is in cc)
    by_first false is next = by_name (bytes_eq first.name name) refl is (next (sym (has_other first tables table.name is) ∙ apart))

-- ---- the table at the number of a name

pub record HasNamed (tables : List FoundTable) (name : List ℕ) (number : ℕ) : Type 0 where
  pub table : FoundTable
  pub stands : slice_get tables number ≡ Some table
  pub columns : columns_of table.columns ≡ columns_named tables name

pub number_stands : (tables : List FoundTable) (name : List ℕ) → has_table tables name ≡ true → HasNamed tables name (number_of tables name)
number_stands [] name has = absurd cc
number_stands (table ∷ tables) name has = by_name (bytes_eq table.name name) refl (number_stands tables name)
  where
    by_name : (same : Bool) → bytes_eq table.name name ≡ same → (has_table tables name ≡ true → HasNamed tables name (number_of tables name)) → HasNamed (table ∷ tables) name (number_of (table ∷ tables) name)
    by_name true is next = subst (HasNamed (table ∷ tables) name) (sym (number_first table tables name is)) (record { table = table; stands = refl; columns = sym (named_first table tables name is) })
    by_name false is next =
        let rest = next (sym (has_other table tables name is) ∙ has) in
        subst (HasNamed (table ∷ tables) name) (sym (number_other table tables name is)) (record { table = rest.table; stands = rest.stands; columns = rest.columns ∙ sym (named_other table tables name is) })

pub none_named : (tables : List FoundTable) (name : List ℕ) → has_table tables name ≡ false → columns_named tables name ≡ []
none_named [] name none = refl
none_named (table ∷ tables) name none = by_name (bytes_eq table.name name) refl (none_named tables name)
  where
    by_name : (same : Bool) → bytes_eq table.name name ≡ same → (has_table tables name ≡ false → columns_named tables name ≡ []) → columns_named (table ∷ tables) name ≡ []
    by_name true is next = absurd (let has = has_first table tables name is in cc)
    by_name false is next = named_other table tables name is ∙ next (sym (has_other table tables name is) ∙ none)

-- what the number of a name says
pub some_number : (tables : List FoundTable) (name : List ℕ) (number : ℕ) → number_if tables name ≡ Some number → HasNamed tables name number
some_number tables name number is = by_has (has_table tables name) refl
  where
    by_has : (has : Bool) → has_table tables name ≡ has → HasNamed tables name number
    by_has true has =
        let here : Some (number_of tables name) ≡ Some number = sym (ap (λ (b : Bool). numbered b (number_of tables name)) has) ∙ is in
        let same : number_of tables name ≡ number = search rules in
        subst (HasNamed tables name) same (number_stands tables name has)
    by_has false has = absurd (let here : None ≡ Some number = sym (ap (λ (b : Bool). numbered b (number_of tables name)) has) ∙ is in cc)

pub no_number : (tables : List FoundTable) (name : List ℕ) → number_if tables name ≡ None → columns_named tables name ≡ []
no_number tables name is = by_has (has_table tables name) refl
  where
    by_has : (has : Bool) → has_table tables name ≡ has → columns_named tables name ≡ []
    by_has true has = absurd (let here : Some (number_of tables name) ≡ None = sym (ap (λ (b : Bool). numbered b (number_of tables name)) has) ∙ is in cc)
    by_has false has = none_named tables name has

pub same_table : (one other : FoundTable) → Some one ≡ Some other → one ≡ other
same_table one other is = search rules

pub no_table : (table : FoundTable) → None ≡ Some table → ⊥
no_table table is = cc

-- ---- the entries

pub entries_more : (tables : List FoundTable) (table : FoundTable) → entries_of (tables ++ table ∷ []) ≡ entries_of tables + (1 + length table.columns)
entries_more [] table = omega arith
entries_more (first ∷ tables) table = let rest = entries_more tables table in omega (arith, rest)

pub policies_more : (policies : List PolicyShape) (policy : PolicyShape) → entries_of_policies (policies ++ policy ∷ []) ≡ entries_of_policies policies + (1 + length policy.tables + length policy.fields)
policies_more [] policy = omega arith
policies_more (first ∷ policies) policy = let rest = policies_more policies policy in omega (arith, rest)

pub tables_few : (tables : List FoundTable) → length tables ≤ entries_of tables
tables_few [] = omega arith
tables_few (first ∷ tables) = let rest = tables_few tables in omega (arith, rest)
