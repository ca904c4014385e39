-- A name more of FROM.
use Rattle.std.proofs.Common.{◌≡◌, ℕ, ◌<◌, ◌≤◌, List, ◌∷◌, length, Option, Some, None, Result, Ok, fold, sym, ap, subst, ◌∙◌, arith}
use Rattle.std.specs.Prelude.{IfSome}
use Rattle.esql_types.specs.declared.names.Column.{Column}
use Rattle.esql_ast.specs.declared.query.NameAt.{NameAt}
use Rattle.esql_plan.specs.declared.catalog.TableShape.{TableShape}
use Rattle.row_semantics.specs.Scopes.{Broken as BrokenRule}
use Rattle.row_semantics.specs.Kinds.{and_then}
use Rattle.row_semantics.specs.Sources.{number_of_table, table_named, with_table, with_tables, with_number}
use Rattle.source_columns.specs.Index.{IsIndex, AreSmall, number_at}
use Rattle.source_columns.proofs.Names.{Named, IsNumbered, table_numbered}

abbrev Answer : Type 0
Answer = Result (List Column) BrokenRule

-- the walk over the names that are left, where one is added
pub walk_adds : (tables : List TableShape) (name : NameAt) (names : List NameAt) (columns after : List Column) → with_table name (table_named tables name.name) columns ≡ Ok after
    → with_tables tables names after ≡ with_tables tables (name ∷ names) columns
walk_adds tables name names columns after adds = ap (λ (answer : Answer). and_then answer (with_tables tables names)) (sym adds)

-- the numbers of an index fit 32 bits where the tables are few
pub few_small : (tables : List TableShape) (index : Named ℕ) → IsIndex tables index → length tables ≤ 4294967295 → AreSmall index
few_small tables index is few name = subst (λ (this : Option ℕ). IfSome this (λ number. number ≤ 4294967295)) (sym (is name)) (by_number (number_of_table tables name) (table_numbered tables name))
  where
    by_number : (number : Option ℕ) → IsNumbered tables name number → IfSome number (λ n. n ≤ 4294967295)
    by_number None numbered = tt
    by_number (Some number) numbered = let below : number < length tables = numbered.0 in omega arith

-- the walk over the names that are left, where a number is added
abbrev pub numbers_from : List TableShape → List ℕ → List NameAt → List ℕ
numbers_from tables numbers names = fold (λ so_far (name : NameAt). with_number so_far (number_of_table tables name.name)) numbers names

pub walk_numbers : (tables : List TableShape) (index : Named ℕ) (name : NameAt) (names : List NameAt) (numbers after : List ℕ) → IsIndex tables index → after ≡ with_number numbers (number_at index name.name)
    → numbers_from tables after names ≡ numbers_from tables numbers (name ∷ names)
walk_numbers tables index name names numbers after is adds =
    ap (λ (these : List ℕ). numbers_from tables these names) (adds ∙ ap (λ (number : Option ℕ). with_number numbers number) (is name.name))
