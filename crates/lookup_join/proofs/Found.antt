-- What is found by the number of a name.
use Rattle.std.proofs.Common.{◌≡◌, ℕ, suc, ◌+◌, ◌<◌, Bool, true, false, cond, List, [], ◌∷◌, ◌++◌, length, Option, Some, None, option_map, refl, ap, subst, ◌∙◌, add-one, arith}
use Rattle.std.specs.Prelude.{IfSome}
use Rattle.std.specs.List.{slice_get}
use Rattle.std.specs.Str.{bytes_eq}
use Rattle.esql_types.specs.declared.value.Value.{Value}
use Rattle.esql_plan.specs.declared.catalog.PolicyShape.{PolicyShape}
use Rattle.esql_plan.specs.declared.catalog.TableShape.{TableShape}
use Rattle.row_semantics.specs.Scopes.{column_named}
use Rattle.row_semantics.specs.Sources.{number_of_table, table_named}
use Rattle.source_columns.proofs.Names.{IsNumbered, table_numbered}
use Rattle.lookup_join.specs.declared.joins.JoinAt.{JoinAt}
use Rattle.lookup_join.specs.Extended.{pair_policies, policy_on, row_policies, rows_named}
use Rattle.lookup_join.specs.Placed.{placed_from, placed_row, row_policy}

abbrev pub Rows : Type 0
Rows = List (List (List Value))

-- a name's number is below the count of the tables
pub numbers_below : (tables : List TableShape) (name : List ℕ) → IfSome (number_of_table tables name) (λ number. number < length tables)
numbers_below tables name = go (number_of_table tables name) (table_numbered tables name)
  where
    go : (number : Option ℕ) → IsNumbered tables name number → IfSome number (λ n. n < length tables)
    go None numbered = tt
    go (Some number) numbered = numbered.0

-- the rows of a number
abbrev pub rows_at : Option ℕ → List Rows → Option Rows
rows_at None rows = None
rows_at (Some number) rows = slice_get rows number

pub rows_found : (tables : List TableShape) (rows : List Rows) (name : List ℕ) → length tables ≡ length rows → rows_at (number_of_table tables name) rows ≡ rows_named tables rows name
rows_found [] rows name many = refl
rows_found (table ∷ tables) [] name many = absurd (omega (arith, many))
rows_found (table ∷ tables) (these ∷ rows) name many =
    go (bytes_eq table.name name) (number_of_table tables name) (rows_found tables rows name (omega (arith, many)))
  where
    go : (same : Bool) (number : Option ℕ) → rows_at number rows ≡ rows_named tables rows name
        → rows_at (cond same (Some 0) (option_map (λ n. n + 1) number)) (these ∷ rows) ≡ cond same (Some these) (rows_named tables rows name)
    go true number rest = refl
    go false None rest = rest
    go false (Some number) rest = ap (λ (n : ℕ). slice_get (these ∷ rows) n) (add-one number) ∙ rest

-- the policies of a pair whose table has a number
abbrev pub policies_at : ℕ → List TableShape → Option ℕ → List ℕ → Option TableShape → List PolicyShape
policies_at number shapes None column found = []
policies_at number shapes (Some place) column None = []
policies_at number shapes (Some place) column (Some shape) = policy_on (number + place) shape (column_named shape.columns column)

pub pair_found : (number : ℕ) (shapes : List TableShape) (pair : JoinAt)
    → pair_policies number shapes pair ≡ policies_at number shapes (number_of_table shapes pair.table) pair.column (table_named shapes pair.table)
pair_found number [] pair = refl
pair_found number (shape ∷ shapes) pair =
    go (bytes_eq shape.name pair.table) (number_of_table shapes pair.table) (table_named shapes pair.table) (pair_found (suc number) shapes pair)
  where
    go : (same : Bool) (place : Option ℕ) (found : Option TableShape) → pair_policies (suc number) shapes pair ≡ policies_at (suc number) shapes place pair.column found
        → cond same (policy_on number shape (column_named shape.columns pair.column)) (pair_policies (suc number) shapes pair)
        ≡ policies_at number (shape ∷ shapes) (cond same (Some 0) (option_map (λ n. n + 1) place)) pair.column (cond same (Some shape) found)
    go true place found rest = ap (λ (n : ℕ). policy_on n shape (column_named shape.columns pair.column)) (omega arith)
    go false None found rest = rest
    go false (Some place) None rest = rest
    go false (Some place) (Some one) rest = rest ∙ ap (λ (n : ℕ). policy_on n one (column_named one.columns pair.column)) (omega arith)

-- a pair whose table has a number, and the shape of that number
pub pair_at : (number : ℕ) (shapes : List TableShape) (pair : JoinAt) (place : ℕ) (shape : TableShape) → number_of_table shapes pair.table ≡ Some place → slice_get shapes place ≡ Some shape
    → pair_policies number shapes pair ≡ policy_on (number + place) shape (column_named shape.columns pair.column)
pair_at number shapes pair place shape is there =
    pair_found number shapes pair
    ∙ ap (λ (this : Option ℕ). policies_at number shapes this pair.column (table_named shapes pair.table)) is
    ∙ ap (λ (this : Option TableShape). policies_at number shapes (Some place) pair.column this)
    ((subst (λ (this : Option ℕ). IsNumbered shapes pair.table this) is (table_numbered shapes pair.table)).1 ∙ there)

pub pair_lost : (number : ℕ) (shapes : List TableShape) (pair : JoinAt) → number_of_table shapes pair.table ≡ None → pair_policies number shapes pair ≡ []
pair_lost number shapes pair is =
    pair_found number shapes pair ∙ ap (λ (this : Option ℕ). policies_at number shapes this pair.column (table_named shapes pair.table)) is

-- one more
pub row_policies-push : (number : ℕ) (shapes : List TableShape) (shape : TableShape) → row_policies number (shapes ++ shape ∷ []) ≡ row_policies number shapes ++ row_policy (number + length shapes) shape ∷ []
row_policies-push number [] shape = ap (λ (n : ℕ). row_policy n shape ∷ []) (omega arith)
row_policies-push number (first ∷ shapes) shape =
    ap (λ (policies : List PolicyShape). row_policy number first ∷ policies)
    (row_policies-push (suc number) shapes shape ∙ ap (λ (n : ℕ). row_policies (suc number) shapes ++ row_policy n shape ∷ []) (omega arith))

pub placed_from-push : (place : ℕ) (rows : Rows) (row : List (List Value)) → placed_from place (rows ++ row ∷ []) ≡ placed_from place rows ++ placed_row (place + length rows) row ∷ []
placed_from-push place [] row = ap (λ (n : ℕ). placed_row n row ∷ []) (omega arith)
placed_from-push place (first ∷ rows) row =
    ap (λ (placed : Rows). placed_row place first ∷ placed)
    (placed_from-push (suc place) rows row ∙ ap (λ (n : ℕ). placed_from (suc place) rows ++ placed_row n row ∷ []) (omega arith))
