-- The kind of the values of a block.
use Rattle.std.proofs.Common.{◌≡◌, ℕ, zero, suc, ◌+◌, ◌-◌, ◌<◌, ◌≤◌, Bool, true, false, cond, List, [], ◌∷◌, Option, Some, None, map, length, get_or, take, drop, replicate, All, refl, sym, ap, ◌∙◌, subst, arith, length-take, length-drop}
use Rattle.std.proofs.lemmas.List.{get_or-take, get_or-drop}
use Rattle.std.specs.List.{slice_range, slice_get}
use Rattle.std.specs.Option.{IfSome, option_map}
use Rattle.esql_types.specs.declared.value.Kind.{Kind}
use Rattle.esql_types.specs.declared.value.Value.{Value}
use Rattle.esql_types.specs.declared.value.Value.TheVariants.{Int, Long, Bool as Boolean, Text as Keyword}
use Rattle.esql_types.specs.declared.value.ValueRef.{ValueRef}
use Rattle.esql_types.specs.Values.{kind_of_value}
use Rattle.col_blocks.specs.declared.rows.Rows.{Rows}
use Rattle.col_blocks.specs.declared.rows.Rows.TheVariants.{Constant, Vector, Nullable, Multi}
use Rattle.col_blocks.specs.declared.values.Values.{Values}
use Rattle.col_blocks.specs.declared.values.Values.TheVariants.{Integers, Longs, Booleans, Keywords, Nulls}
use Rattle.col_blocks.specs.Cells.{IsOfKind, AreOfKind}
use Rattle.col_blocks.specs.Pieces.{pieces}
use Rattle.col_blocks.specs.Rows.{singles, where_valid, cells_of, RowsFit}
use Rattle.col_blocks.specs.Stored.{values_of, kind_of, value_read}
use Rattle.col_blocks.proofs.Gets.{got_within, got_or}

map_kind : {X : Type 0} (f : X → Value) (kind : Kind) → ((x : X) → kind_of_value (f x) ≡ kind) → (xs : List X) → IsOfKind kind (map f xs)
map_kind f kind each [] k d within = absurd (omega (arith, within))
map_kind f kind each (x ∷ xs) zero d within = each x
map_kind f kind each (x ∷ xs) (suc k) d within = map_kind f kind each xs k d (omega (arith, within))

pub values_kind : (values : Values) → IsOfKind (kind_of values) (values_of values)
values_kind (Integers numbers) = map_kind Int (kind_of (Integers numbers)) (λ x. refl) numbers.items
values_kind (Longs numbers) = map_kind Long (kind_of (Longs numbers)) (λ x. refl) numbers.items
values_kind (Booleans truths) = map_kind Boolean (kind_of (Booleans truths)) (λ x. refl) truths.items
values_kind (Keywords texts) = map_kind Keyword (kind_of (Keywords texts)) (λ x. refl) texts
values_kind Nulls = λ k d within. absurd (omega (arith, within))

rest_kind : (kind : Kind) (value : Value) (values : List Value) → IsOfKind kind (value ∷ values) → IsOfKind kind values
rest_kind kind value values all = λ k d within. all (suc k) d (omega (arith, within))

one_kind : (kind : Kind) (value : Value) (values : List Value) → IsOfKind kind (value ∷ values) → IsOfKind kind (value ∷ [])
one_kind kind value values all zero d within = all zero d (omega arith)
one_kind kind value values all (suc k) d within = absurd (omega (arith, within))

singles_kind : (kind : Kind) (values : List Value) → IsOfKind kind values → AreOfKind kind (singles values)
singles_kind kind [] all k d within = absurd (omega (arith, within))
singles_kind kind (value ∷ values) all zero d within = one_kind kind value values all
singles_kind kind (value ∷ values) all (suc k) d within = singles_kind kind values (rest_kind kind value values all) k d (omega (arith, within))

if_kind : (kind : Kind) (valid : Bool) (value : Value) (values : List Value) → IsOfKind kind (value ∷ values) → IsOfKind kind (cond {A = List Value} valid (value ∷ []) [])
if_kind kind true value values all = one_kind kind value values all
if_kind kind false value values all = λ k d within. absurd (omega (arith, within))

valid_kind : (kind : Kind) (valid : List Bool) (values : List Value) → IsOfKind kind values → AreOfKind kind (where_valid valid values)
valid_kind kind [] values all k d within = absurd (omega (arith, within))
valid_kind kind (one ∷ valid) [] all k d within = absurd (omega (arith, within))
valid_kind kind (one ∷ valid) (value ∷ values) all zero d within = if_kind kind one value values all
valid_kind kind (one ∷ valid) (value ∷ values) all (suc k) d within = valid_kind kind valid values (rest_kind kind value values all) k d (omega (arith, within))

range_kind : (kind : Kind) (values : List Value) (from end : ℕ) → IsOfKind kind values → IsOfKind kind (slice_range values from end)
range_kind kind values from end all k d within =
    let taken = length-take (end - from) (drop from values) in
    let dropped = length-drop from values in
    subst (λ (value : Value). kind_of_value value ≡ kind) (sym (get_or-take (end - from) (drop from values) k d (omega arith) ∙ get_or-drop from values k d)) (all (from + k) d (omega arith))

pieces_kind : (kind : Kind) (values : List Value) (from : ℕ) (ends : List ℕ) → IsOfKind kind values → AreOfKind kind (pieces values from ends)
pieces_kind kind values from [] all k d within = absurd (omega (arith, within))
pieces_kind kind values from (end ∷ ends) all zero d within = range_kind kind values from end all
pieces_kind kind values from (end ∷ ends) all (suc k) d within = pieces_kind kind values end ends all k d (omega (arith, within))

same_kind : (kind : Kind) (cell : List Value) (len : ℕ) → IsOfKind kind cell → AreOfKind kind (replicate len cell)
same_kind kind cell zero all k d within = absurd (omega (arith, within))
same_kind kind cell (suc len) all zero d within = all
same_kind kind cell (suc len) all (suc k) d within = same_kind kind cell len all k d (omega (arith, within))

stored_kind : (kind : Kind) (values : Values) → kind_of values ≡ kind → IsOfKind kind (values_of values)
stored_kind kind values is = subst (λ (kind : Kind). IsOfKind kind (values_of values)) is (values_kind values)

pub rows_kind : (kind : Kind) (rows : Rows) → RowsFit kind rows → AreOfKind kind (cells_of rows)
rows_kind kind (Constant cell len) fits = same_kind kind cell len fits
rows_kind kind (Vector values) fits = singles_kind kind (values_of values) (stored_kind kind values fits)
rows_kind kind (Nullable values valid) fits = valid_kind kind valid (values_of values) (stored_kind kind values fits.0)
rows_kind kind (Multi values ends) fits = pieces_kind kind (values_of values) 0 ends.items (stored_kind kind values fits.0)

-- a value that is read of a cell
pub read_kind : (kind : Kind) (cell : List Value) (place : ℕ) (read : Option ValueRef) → IsOfKind kind cell → option_map value_read read ≡ slice_get cell place → IfSome read (λ value. kind_of_value (value_read value) ≡ kind)
read_kind kind cell place None all is = tt
read_kind kind cell place (Some value) all is =
    subst (λ (value : Value). kind_of_value value ≡ kind) (got_or cell place (value_read value) (value_read value) (sym is)) (all place (value_read value) (got_within cell place (value_read value) (sym is)))
