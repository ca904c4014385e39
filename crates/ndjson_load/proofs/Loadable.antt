-- The columns of a mapping are of kinds that values have, and take a value of their kind for a null.
use Rattle.std.proofs.Common.{◌≡◌, ◌≢◌, ℕ, Bool, true, false, cond, List, [], ◌∷◌, ◌++◌, Option, Some, None, option_map, Result, Ok, refl, subst, All}
use Rattle.std.specs.Prelude.{codes}
use Rattle.std.specs.Option.{IfSome}
use Rattle.std.specs.Str.{bytes_eq}
use Rattle.std.proofs.lemmas.List.Elements.{All-nil, All-cons, All-append}
use Rattle.std.proofs.lemmas.List.Sorted.{All-permutation}
use Rattle.serde_json.specs.Data.{Data, null, boolean, number, string, array, object, Members, no_members, member}
use Rattle.serde_json.specs.Find.{get}
use Rattle.esql_types.specs.declared.value.Kind.{Kind}
use Rattle.esql_types.specs.declared.value.Kind.TheVariants.{Integer, Long, Boolean, Keyword, Null}
use Rattle.esql_types.specs.declared.value.Value.{Value}
use Rattle.ndjson_load.specs.declared.cause.MappingCause.{MappingCause}
use Rattle.ndjson_load.specs.declared.column.MappedColumn.{MappedColumn}
use Rattle.ndjson_load.specs.Accepted.{accepted}
use Rattle.ndjson_load.specs.Documents.{document_of}
use Rattle.ndjson_load.specs.Joining.{joined}
use Rattle.ndjson_load.specs.Mappings.{kind_of_type, ignores_of, null_from, null_of, column_from, typed_column, leaf_from, leaf_of, is_branch, columns_of, property_columns, branch_columns, inner_columns, properties_of, found_from, found_in, found_columns, AreOrdered}
use Rattle.ndjson_load.specs.Shapes.{is_of_kind, IsLoadable}
use Rattle.ndjson_load.proofs.Shaped.{accepted_kind, joined_parts}

chosen_known : (b : Bool) (choice kind : Kind) (rest : Option Kind) → choice ≢ Null → (rest ≡ Some kind → kind ≢ Null) → cond b (Some choice) rest ≡ Some kind → kind ≢ Null
chosen_known true choice kind rest known later is = let same : choice ≡ kind = cc in subst (λ k. k ≢ Null) same known
chosen_known false choice kind rest known later is = later is

kind_known : (name : List ℕ) (kind : Kind) → kind_of_type name ≡ Some kind → kind ≢ Null
kind_known name kind is =
    chosen_known (bytes_eq name (codes "integer")) Integer kind _ (λ e. cc)
    (chosen_known (bytes_eq name (codes "short")) Integer kind _ (λ e. cc)
    (chosen_known (bytes_eq name (codes "byte")) Integer kind _ (λ e. cc)
    (chosen_known (bytes_eq name (codes "long")) Long kind _ (λ e. cc)
    (chosen_known (bytes_eq name (codes "boolean")) Boolean kind _ (λ e. cc)
    (chosen_known (bytes_eq name (codes "keyword")) Keyword kind _ (λ e. cc)
    (chosen_known (bytes_eq name (codes "text")) Keyword kind None (λ e. cc) (λ e. absurd (cc)))))))) is

-- a null value that was accepted is of the kind
accepted_null : (kind : Kind) (d : Data) (stands_for : Option Value) → option_map Some (accepted kind d) ≡ Some stands_for → IfSome stands_for (λ v. is_of_kind kind v ≡ true)
accepted_null kind d None is = tt
accepted_null kind d (Some v) is = accepted_kind kind d v (some_some (accepted kind d) v is)
  where
    some_some : (o : Option Value) (v : Value) → option_map Some o ≡ Some (Some v) → o ≡ Some v
    some_some None v is = absurd (cc)
    some_some (Some w) v is = cc

null_from_kind : (kind : Kind) (o : Option Data) (stands_for : Option Value) → null_from kind o ≡ Some stands_for → IfSome stands_for (λ v. is_of_kind kind v ≡ true)
null_from_kind kind None stands_for is = let none : None ≡ stands_for = cc in subst (λ o. IfSome o (λ v. is_of_kind kind v ≡ true)) none tt
null_from_kind kind (Some null) stands_for is = let none : None ≡ stands_for = cc in subst (λ o. IfSome o (λ v. is_of_kind kind v ≡ true)) none tt
null_from_kind kind (Some (boolean b)) stands_for is = accepted_null kind (boolean b) stands_for is
null_from_kind kind (Some (number n)) stands_for is = accepted_null kind (number n) stands_for is
null_from_kind kind (Some (string s)) stands_for is = accepted_null kind (string s) stands_for is
null_from_kind kind (Some (array ds)) stands_for is = absurd (cc)
null_from_kind kind (Some (object ms)) stands_for is = absurd (cc)

null_kind : (text : Bool) (kind : Kind) (o : Option Data) (stands_for : Option Value) → cond text (Some None) (null_from kind o) ≡ Some stands_for → IfSome stands_for (λ v. is_of_kind kind v ≡ true)
null_kind true kind o stands_for is = let none : None ≡ stands_for = cc in subst (λ o. IfSome o (λ v. is_of_kind kind v ≡ true)) none tt
null_kind false kind o stands_for is = null_from_kind kind o stands_for is

no_columns : (found : List MappedColumn) → ◌≡◌ {A = Result (List MappedColumn) MappingCause} (Ok []) (Ok found) → All IsLoadable found
no_columns found is = let none : [] ≡ found = cc in subst (All IsLoadable) none (All-nil IsLoadable)

column_loadable : (path : List ℕ) (kind : Kind) (ignores : Option Bool) (null_value : Option (Option Value)) (found : List MappedColumn) → kind ≢ Null
    → ((stands_for : Option Value) → null_value ≡ Some stands_for → IfSome stands_for (λ v. is_of_kind kind v ≡ true))
    → column_from path kind ignores null_value ≡ Ok found → All IsLoadable found
column_loadable path kind None null_value found known kinds is = absurd (cc)
column_loadable path kind (Some ignores) None found known kinds is = absurd (cc)
column_loadable path kind (Some ignores) (Some stands_for) found known kinds is =
    let column : MappedColumn = record { column = record { name = path; kind = kind }; ignore_malformed = ignores; null_value = stands_for } in
    let one : column ∷ [] ≡ found = cc in
    subst (All IsLoadable) one (All-cons IsLoadable column [] (record { known = known; null_value = kinds stands_for refl }) (All-nil IsLoadable))

typed_loadable : (path name : List ℕ) (o : Option Kind) (property : Data) (found : List MappedColumn) → ((kind : Kind) → o ≡ Some kind → kind ≢ Null)
    → typed_column path name o property ≡ Ok found → All IsLoadable found
typed_loadable path name None property found known is = no_columns found is
typed_loadable path name (Some kind) property found known is =
    column_loadable path kind (ignores_of kind property) (null_of name kind property) found (known kind refl)
    (λ stands_for e. null_kind (bytes_eq name (codes "text")) kind (get (codes "null_value") property) stands_for e) is

leaf_loadable : (path : List ℕ) (o : Option Data) (property : Data) (found : List MappedColumn) → leaf_from path o property ≡ Ok found → All IsLoadable found
leaf_loadable path None property found is = absurd (cc)
leaf_loadable path (Some null) property found is = absurd (cc)
leaf_loadable path (Some (boolean b)) property found is = absurd (cc)
leaf_loadable path (Some (number n)) property found is = absurd (cc)
leaf_loadable path (Some (string name)) property found is = typed_loadable path name (kind_of_type name) property found (λ kind e. kind_known name kind e) is
leaf_loadable path (Some (array ds)) property found is = absurd (cc)
leaf_loadable path (Some (object inner)) property found is = absurd (cc)

joined_loadable : (front back : Result (List MappedColumn) MappingCause) (found : List MappedColumn) → ((xs : List MappedColumn) → front ≡ Ok xs → All IsLoadable xs)
    → ((ys : List MappedColumn) → back ≡ Ok ys → All IsLoadable ys) → joined front back ≡ Ok found → All IsLoadable found
joined_loadable front back found first rest is =
    let parts = joined_parts front back found is in
    subst (All IsLoadable) parts.4 (All-append IsLoadable parts.0 parts.1 (first parts.0 parts.2) (rest parts.1 parts.3))

either_loadable : (b : Bool) (one other : Result (List MappedColumn) MappingCause) (found : List MappedColumn) → ((xs : List MappedColumn) → one ≡ Ok xs → All IsLoadable xs)
    → ((ys : List MappedColumn) → other ≡ Ok ys → All IsLoadable ys) → cond b one other ≡ Ok found → All IsLoadable found
either_loadable true one other found first rest is = first found is
either_loadable false one other found first rest is = rest found is

mutual
  columns_loadable : (prefix : List ℕ) (ms : Members) (found : List MappedColumn) → columns_of prefix ms ≡ Ok found → All IsLoadable found
  columns_loadable prefix no_members found is = no_columns found is
  columns_loadable prefix (member key d ms) found is =
      joined_loadable (property_columns (prefix ++ key) d) (columns_of prefix ms) found (λ xs e. property_loadable (prefix ++ key) d xs e) (λ ys e. columns_loadable prefix ms ys e) is

  property_loadable : (path : List ℕ) (d : Data) (found : List MappedColumn) → property_columns path d ≡ Ok found → All IsLoadable found
  property_loadable path null found is = absurd (cc)
  property_loadable path (boolean b) found is = absurd (cc)
  property_loadable path (number n) found is = absurd (cc)
  property_loadable path (string s) found is = absurd (cc)
  property_loadable path (array ds) found is = absurd (cc)
  property_loadable path (object ms) found is =
      either_loadable (is_branch (object ms)) (branch_columns path ms) (leaf_of path (object ms)) found (λ xs e. branch_loadable path ms xs e)
      (λ ys e. leaf_loadable path (get (codes "type") (object ms)) (object ms) ys e) is

  branch_loadable : (path : List ℕ) (ms : Members) (found : List MappedColumn) → branch_columns path ms ≡ Ok found → All IsLoadable found
  branch_loadable path no_members found is = no_columns found is
  branch_loadable path (member key d ms) found is =
      either_loadable (bytes_eq (codes "properties") key) (inner_columns path d) (branch_columns path ms) found (λ xs e. inner_loadable path d xs e) (λ ys e. branch_loadable path ms ys e) is

  inner_loadable : (path : List ℕ) (d : Data) (found : List MappedColumn) → inner_columns path d ≡ Ok found → All IsLoadable found
  inner_loadable path null found is = absurd (cc)
  inner_loadable path (boolean b) found is = absurd (cc)
  inner_loadable path (number n) found is = absurd (cc)
  inner_loadable path (string s) found is = absurd (cc)
  inner_loadable path (array ds) found is = absurd (cc)
  inner_loadable path (object ms) found is = columns_loadable (path ++ 46 ∷ []) ms found is

from_loadable : (o : Option Members) (found : List MappedColumn) → found_from o ≡ Ok found → All IsLoadable found
from_loadable None found is = absurd (cc)
from_loadable (Some ms) found is = columns_loadable [] ms found is

in_loadable : (o : Option Data) (found : List MappedColumn) → found_in o ≡ Ok found → All IsLoadable found
in_loadable None found is = absurd (cc)
in_loadable (Some d) found is = from_loadable (properties_of d) found is

pub found_loadable : (bytes : List ℕ) (found : List MappedColumn) → found_columns bytes ≡ Ok found → All IsLoadable found
found_loadable bytes found is = in_loadable (document_of bytes) found is

-- the columns of a mapping, in their order
pub ordered_loadable : (bytes : List ℕ) (found columns : List MappedColumn) → found_columns bytes ≡ Ok found → AreOrdered found columns → All IsLoadable columns
ordered_loadable bytes found columns is ordered = All-permutation IsLoadable found columns ordered.same (found_loadable bytes found is)
