-- The rows of a table have a cell for each column, of its kind.
use Rattle.std.proofs.Common.{◌≡◌, ℕ, zero, suc, ◌+◌, ◌<◌, ◌≤◌, eqb, get_or, Bool, true, false, cond, List, [], ◌∷◌, ◌++◌, length, Option, Some, None, option_map, Result, Ok, Err, refl, sym, ap, ◌∙◌, subst, All, arith, length-append}
use Rattle.std.specs.List.{enumerate_from}
use Rattle.std.specs.Option.{IfSome, option_to_list, option_and_then}
use Rattle.std.specs.Prelude.{slice_get, is_some, IsSome}
use Rattle.std.proofs.lemmas.List.{length-map}
use Rattle.std.proofs.lemmas.List.FromFn.{length-enumerate_from}
use Rattle.std.proofs.lemmas.List.Elements.{All-nil, All-cons, All-head, All-tail, All-append}
use Rattle.serde_json.specs.Data.{Data, null, boolean, number, string, array, object}
use Rattle.esql_types.specs.declared.value.Kind.{Kind}
use Rattle.esql_types.specs.declared.value.Kind.TheVariants.{Integer, Long as LongKind, Boolean, Keyword, Null}
use Rattle.esql_types.specs.declared.value.Value.{Value}
use Rattle.esql_types.specs.declared.value.Value.TheVariants.{Int, Long, Bool as Truth, Text as Word}
use Rattle.ndjson_load.specs.declared.cause.RowCause.{RowCause}
use Rattle.ndjson_load.specs.declared.column.MappedColumn.{MappedColumn}
use Rattle.ndjson_load.specs.Accepted.{accepted, integer_of, long_of, boolean_of, keyword_of}
use Rattle.ndjson_load.specs.Documents.{document_of}
use Rattle.ndjson_load.specs.Gathering.{Item, value, explicit_null, fault, gather}
use Rattle.ndjson_load.specs.Joining.{joined, join_all}
use Rattle.ndjson_load.specs.Rows.{RowFault, taken_value, taken_item, taken, cell_from, cell_of, cells_of, row_from, row_of, line_rows, table_of, is_blank, lines, ended_lines, onto_first, without_return}
use Rattle.ndjson_load.specs.Shapes.{is_of_kind, IsLoadable, IsCellOf, IsRowOf}

-- ---- what is joined

pub joined_parts : {Y E : Type 0} (front back : Result (List Y) E) (all : List Y) → joined front back ≡ Ok all
    → (xs : List Y) × (ys : List Y) × (front ≡ Ok xs) × (back ≡ Ok ys) × (xs ++ ys ≡ all)
joined_parts (Err bad) back all is = absurd (cc)
joined_parts (Ok xs) (Err bad) all is = absurd (cc)
joined_parts (Ok xs) (Ok ys) all is = (xs, ys, refl, refl, cc)

-- P holds of all that is joined, where it holds of what each item gives
pub join_all-All : {X Y E : Type 0} (P : Y → Type 0) (f : X → Result (List Y) E) (each : (x : X) (ys : List Y) → f x ≡ Ok ys → All P ys)
    → (xs : List X) (all : List Y) → join_all f xs ≡ Ok all → All P all
join_all-All P f each [] all is = let none : [] ≡ all = cc in subst (All P) none (All-nil P)
join_all-All P f each (x ∷ xs) all is =
    let parts = joined_parts (f x) (join_all f xs) all is in
    subst (All P) parts.4 (All-append P parts.0 parts.1 (each x parts.0 parts.2) (join_all-All P f each xs parts.1 parts.3))

-- ---- the values of a cell

mapped_kind : {A : Type 0} (kind : Kind) (make : A → Value) (each : (x : A) → is_of_kind kind (make x) ≡ true) (o : Option A) (v : Value) → option_map make o ≡ Some v → is_of_kind kind v ≡ true
mapped_kind kind make each None v is = absurd (cc)
mapped_kind kind make each (Some x) v is = let same : v ≡ make x = cc in ap (is_of_kind kind) same ∙ each x

pub accepted_kind : (kind : Kind) (d : Data) (v : Value) → accepted kind d ≡ Some v → is_of_kind kind v ≡ true
accepted_kind Integer d v is = mapped_kind Integer Int (λ x. refl) (integer_of d) v is
accepted_kind LongKind d v is = mapped_kind LongKind Long (λ x. refl) (long_of d) v is
accepted_kind Boolean d v is = mapped_kind Boolean Truth (λ x. refl) (boolean_of d) v is
accepted_kind Keyword d v is = mapped_kind Keyword Word (λ x. refl) (keyword_of d) v is
accepted_kind Null d v is = absurd (cc)

abbrev OfKind : MappedColumn → Value → Type 0
OfKind column v = is_of_kind column.column.kind v ≡ true

ignored : (ignores : Bool) (cause : RowCause) (column : MappedColumn) (values : List Value) → ◌≡◌ {A = Result (List Value) RowCause} (cond ignores (Ok []) (Err cause)) (Ok values) → All (OfKind column) values
ignored true cause column values is = let none : [] ≡ values = cc in subst (All (OfKind column)) none (All-nil (OfKind column))
ignored false cause column values is = absurd (cc)

value_kinds : (column : MappedColumn) (o : Option Value) (values : List Value) → ((v : Value) → o ≡ Some v → OfKind column v) → taken_value column o ≡ Ok values → All (OfKind column) values
value_kinds column None values each is = ignored column.ignore_malformed _ column values is
value_kinds column (Some v) values each is =
    let one : v ∷ [] ≡ values = cc in
    subst (All (OfKind column)) one (All-cons (OfKind column) v [] (each v refl) (All-nil (OfKind column)))

null_kinds : (column : MappedColumn) (o : Option Value) → IfSome o (OfKind column) → All (OfKind column) (option_to_list o)
null_kinds column None h = All-nil (OfKind column)
null_kinds column (Some v) h = All-cons (OfKind column) v [] h (All-nil (OfKind column))

item_kinds : (column : MappedColumn) → IsLoadable column → (item : Item) (values : List Value) → taken_item column item ≡ Ok values → All (OfKind column) values
item_kinds column loadable (value d) values is = value_kinds column (accepted column.column.kind d) values (λ v e. accepted_kind column.column.kind d v e) is
item_kinds column loadable explicit_null values is =
    let those : option_to_list column.null_value ≡ values = cc in
    subst (All (OfKind column)) those (null_kinds column column.null_value loadable.null_value)
item_kinds column loadable (fault cause) values is = absurd (cc)

taken_kinds : (column : MappedColumn) → IsLoadable column → (items : List Item) (cell : List Value) → taken column items ≡ Ok cell → IsCellOf column cell
taken_kinds column loadable items cell is = join_all-All (OfKind column) (taken_item column) (item_kinds column loadable) items cell is

-- ---- the cells of a row

cell_parts : (line : ℕ) (field : List ℕ) (r : Result (List Value) RowCause) (cells : List (List Value)) → cell_from line field r ≡ Ok cells
    → (cell : List Value) × (r ≡ Ok cell) × (cells ≡ cell ∷ [])
cell_parts line field (Ok cell) cells is = (cell, refl, cc)
cell_parts line field (Err cause) cells is = absurd (cc)

cells_wide : (line : ℕ) (d : Data) (columns : List MappedColumn) (row : List (List Value)) → cells_of line columns d ≡ Ok row → length row ≡ length columns
cells_wide line d [] row is = let none : [] ≡ row = cc in ap length (sym none)
cells_wide line d (column ∷ columns) row is =
    let parts = joined_parts (cell_of line d column) (cells_of line columns d) row is in
    let one = cell_parts line column.column.name (taken column (gather d column.column.name)) parts.0 parts.2 in
    let whole : one.0 ∷ parts.1 ≡ row = ap (λ cells. cells ++ parts.1) (sym one.2) ∙ parts.4 in
    ap length (sym whole) ∙ ap suc (cells_wide line d columns parts.1 parts.3)

cells_kinds : (line : ℕ) (d : Data) (columns : List MappedColumn) → All IsLoadable columns → (row : List (List Value)) → cells_of line columns d ≡ Ok row → IsRowOf columns row
cells_kinds line d [] loadable row is = let none : [] ≡ row = cc in subst (IsRowOf []) none tt
cells_kinds line d (column ∷ columns) loadable row is =
    let parts = joined_parts (cell_of line d column) (cells_of line columns d) row is in
    let one = cell_parts line column.column.name (taken column (gather d column.column.name)) parts.0 parts.2 in
    let whole : one.0 ∷ parts.1 ≡ row = ap (λ cells. cells ++ parts.1) (sym one.2) ∙ parts.4 in
    let cell = taken_kinds column (All-head IsLoadable column columns loadable) (gather d column.column.name) one.0 one.1 in
    subst (IsRowOf (column ∷ columns)) whole (cell, cells_kinds line d columns (All-tail IsLoadable column columns loadable) parts.1 parts.3)

-- ---- the rows of a table

module _ (P : List (List Value) → Type 0) (columns : List MappedColumn) (each : (line : ℕ) (d : Data) (row : List (List Value)) → cells_of line columns d ≡ Ok row → P row) where
  row_all : (line : ℕ) (d : Data) (r : Result (List (List Value)) RowFault) (rows : List (List (List Value))) → r ≡ cells_of line columns d → row_from r ≡ Ok rows → All P rows
  row_all line d (Ok row) rows of is =
      let one : row ∷ [] ≡ rows = cc in
      subst (All P) one (All-cons P row [] (each line d row (sym of)) (All-nil P))
  row_all line d (Err bad) rows of is = absurd (cc)

  document_all : (line : ℕ) (o : Option Data) (rows : List (List (List Value))) → row_of line columns o ≡ Ok rows → All P rows
  document_all line None rows is = absurd (cc)
  document_all line (Some null) rows is = absurd (cc)
  document_all line (Some (boolean b)) rows is = absurd (cc)
  document_all line (Some (number n)) rows is = absurd (cc)
  document_all line (Some (string s)) rows is = absurd (cc)
  document_all line (Some (array ds)) rows is = absurd (cc)
  document_all line (Some (object ms)) rows is = row_all line (object ms) (cells_of line columns (object ms)) rows refl is

  line_all : (blank : Bool) (line : ℕ) (o : Option Data) (rows : List (List (List Value))) → cond blank (Ok []) (row_of line columns o) ≡ Ok rows → All P rows
  line_all true line o rows is = let none : [] ≡ rows = cc in subst (All P) none (All-nil P)
  line_all false line o rows is = document_all line o rows is

  -- P holds of each row of a table, where it holds of what each object gives
  pub table_of-All : (bytes : List ℕ) (rows : List (List (List Value))) → table_of columns bytes ≡ Ok rows → All P rows
  table_of-All bytes rows is =
      join_all-All P (line_rows columns) (λ numbered more e. line_all (is_blank numbered.1) numbered.0 (document_of numbered.1) more e) (enumerate_from 1 (lines bytes)) rows is

-- a row has a cell for each column
pub table_wide : (columns : List MappedColumn) (bytes : List ℕ) (rows : List (List (List Value))) → table_of columns bytes ≡ Ok rows → All (λ row. length row ≡ length columns) rows
table_wide columns bytes rows is = table_of-All (λ row. length row ≡ length columns) columns (λ line d row e. cells_wide line d columns row e) bytes rows is

-- and each of its values is of the kind of its column
pub table_kinds : (columns : List MappedColumn) (bytes : List ℕ) (rows : List (List (List Value))) → table_of columns bytes ≡ Ok rows → All IsLoadable columns → All (IsRowOf columns) rows
table_kinds columns bytes rows is loadable = table_of-All (IsRowOf columns) columns (λ line d row e. cells_kinds line d columns loadable row e) bytes rows is

-- ---- how many rows

join_all-few : {X Y E : Type 0} (f : X → Result (List Y) E) (each : (x : X) (ys : List Y) → f x ≡ Ok ys → length ys ≤ 1) (xs : List X) (all : List Y) → join_all f xs ≡ Ok all → length all ≤ length xs
join_all-few f each [] all is = let none : [] ≡ all = cc in subst (λ ys. length ys ≤ 0) none (omega arith)
join_all-few f each (x ∷ xs) all is =
    let parts = joined_parts (f x) (join_all f xs) all is in
    let one = each x parts.0 parts.2 in
    let rest = join_all-few f each xs parts.1 parts.3 in
    omega (arith, one, rest, length-append parts.0 parts.1, ap length parts.4)

row_few : (r : Result (List (List Value)) RowFault) (rows : List (List (List Value))) → row_from r ≡ Ok rows → length rows ≤ 1
row_few (Ok row) rows is = let one : row ∷ [] ≡ rows = cc in subst (λ ys. length ys ≤ 1) one (omega arith)
row_few (Err bad) rows is = absurd (cc)

document_few : (line : ℕ) (columns : List MappedColumn) (o : Option Data) (rows : List (List (List Value))) → row_of line columns o ≡ Ok rows → length rows ≤ 1
document_few line columns None rows is = absurd (cc)
document_few line columns (Some null) rows is = absurd (cc)
document_few line columns (Some (boolean b)) rows is = absurd (cc)
document_few line columns (Some (number n)) rows is = absurd (cc)
document_few line columns (Some (string s)) rows is = absurd (cc)
document_few line columns (Some (array ds)) rows is = absurd (cc)
document_few line columns (Some (object ms)) rows is = row_few (cells_of line columns (object ms)) rows is

line_few : (blank : Bool) (line : ℕ) (columns : List MappedColumn) (o : Option Data) (rows : List (List (List Value))) → cond blank (Ok []) (row_of line columns o) ≡ Ok rows → length rows ≤ 1
line_few true line columns o rows is = let none : [] ≡ rows = cc in subst (λ ys. length ys ≤ 1) none (omega arith)
line_few false line columns o rows is = document_few line columns o rows is

onto_first-few : (b n : ℕ) (texts : List (List ℕ)) → length texts ≤ n → length (onto_first b texts) ≤ n + 1
onto_first-few b n [] few = omega arith
onto_first-few b n (line ∷ texts) few = omega arith

ended_few : (t : Bool) (b n : ℕ) (texts : List (List ℕ)) → length texts ≤ n → length (cond t ([] ∷ texts) (onto_first b texts)) ≤ n + 1
ended_few true b n texts few = omega arith
ended_few false b n texts few = onto_first-few b n texts few

ended_lines-few : (bytes : List ℕ) → length (ended_lines bytes) ≤ length bytes
ended_lines-few [] = omega arith
ended_lines-few (b ∷ bytes) = omega (arith, ended_few (eqb b 10) b (length bytes) (ended_lines bytes) (ended_lines-few bytes))

-- a table has at most as many rows as its file has bytes
pub table_few : (columns : List MappedColumn) (bytes : List ℕ) (rows : List (List (List Value))) → table_of columns bytes ≡ Ok rows → length rows ≤ length bytes
table_few columns bytes rows is =
    let few = join_all-few (line_rows columns) (λ numbered more e. line_few (is_blank numbered.1) numbered.0 columns (document_of numbered.1) more e) (enumerate_from 1 (lines bytes)) rows is in
    omega (arith, few, length-enumerate_from 1 (lines bytes), length-map (ended_lines bytes) without_return, ended_lines-few bytes)

-- ---- a cell of a table

within_some : {A : Type 0} (xs : List A) (place : ℕ) → place < length xs → (x : A) × (slice_get xs place ≡ Some x) × ((d : A) → get_or xs place d ≡ x)
within_some [] place within = absurd (omega arith)
within_some (x ∷ xs) zero within = (x, refl, λ d. refl)
within_some (x ∷ xs) (suc place) within = within_some xs place (omega arith)

cell_some : (o : Option (List (List Value))) (column : ℕ) (row : List (List Value)) → o ≡ Some row → column < length row → IsSome (option_and_then (λ cells. slice_get cells column) o)
cell_some None column row is within = absurd (cc)
cell_some (Some cells) column row is within =
    let same : cells ≡ row = cc in
    let found = within_some row column within in
    ap (λ r. is_some (slice_get r column)) same ∙ ap is_some found.1

-- a row and a column that are in range have a cell
pub cell_within : (rows : List (List (List Value))) (width row column : ℕ) → All (λ cells. length cells ≡ width) rows → row < length rows → column < width
    → IsSome (option_and_then (λ cells. slice_get cells column) (slice_get rows row))
cell_within rows width row column wide above within =
    let found = within_some rows row above in
    let long : length found.0 ≡ width = ap length (sym (found.2 [])) ∙ wide row [] above in
    cell_some (slice_get rows row) column found.0 found.1 (omega arith)
