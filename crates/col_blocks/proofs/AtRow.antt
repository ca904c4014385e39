-- The cell of a row, in each form.
use Rattle.std.proofs.Common.{◌≡◌, ℕ, zero, suc, ◌+◌, ◌-◌, ◌<◌, ◌≤◌, Bool, true, false, cond, List, [], ◌∷◌, Some, None, map, length, get_or, take, drop, refl, sym, ap, ◌∙◌, arith, length-take, length-drop}
use mir.Val.{bool_byte}
use Rattle.std.specs.List.{slice_range, slice_get}
use Rattle.esql_types.specs.declared.value.Value.{Value}
use Rattle.esql_types.specs.declared.value.Value.TheVariants.{Bool as Boolean}
use Rattle.col_blocks.specs.Pieces.{pieces, Rises}
use Rattle.col_blocks.specs.Rows.{singles, where_valid}
use Rattle.col_blocks.proofs.Cuts.{get_or-pieces, rises_at}
use Rattle.col_blocks.proofs.Gets.{get-range, get-range_past}

pub length-range : {X : Type 0} (xs : List X) (from end : ℕ) → from ≤ end → end ≤ length xs → length (slice_range xs from end) ≡ end - from
length-range xs from end ordered within =
    let taken = length-take (end - from) (drop from xs) in
    let dropped = length-drop from xs in
    omega arith

pub piece_length : {X : Type 0} (xs : List X) (ends : List ℕ) (row : ℕ) → Rises 0 ends (length xs) → row < length ends → length (get_or (pieces xs 0 ends) row []) ≡ get_or ends row 0 - get_or (0 ∷ ends) row 0
piece_length xs ends row rises within =
    let inside = rises_at 0 ends (length xs) row rises within in
    ap length (get_or-pieces xs 0 ends row within) ∙ length-range xs (get_or (0 ∷ ends) row 0) (get_or ends row 0) inside.0 inside.1

pub piece_at : {X : Type 0} (xs : List X) (ends : List ℕ) (row place : ℕ) → row < length ends → place < get_or ends row 0 - get_or (0 ∷ ends) row 0
    → slice_get (get_or (pieces xs 0 ends) row []) place ≡ slice_get xs (get_or (0 ∷ ends) row 0 + place)
piece_at xs ends row place within below = ap (λ cell. slice_get cell place) (get_or-pieces xs 0 ends row within) ∙ get-range xs (get_or (0 ∷ ends) row 0) (get_or ends row 0) place below

pub piece_past : {X : Type 0} (xs : List X) (ends : List ℕ) (row place : ℕ) → row < length ends → get_or ends row 0 - get_or (0 ∷ ends) row 0 ≤ place
    → slice_get (get_or (pieces xs 0 ends) row []) place ≡ None
piece_past xs ends row place within past = ap (λ cell. slice_get cell place) (get_or-pieces xs 0 ends row within) ∙ get-range_past xs (get_or (0 ∷ ends) row 0) (get_or ends row 0) place past

pub single_length : (values : List Value) (row : ℕ) → row < length values → length (get_or (singles values) row []) ≡ 1
single_length [] row within = absurd (omega (arith, within))
single_length (value ∷ values) zero within = refl
single_length (value ∷ values) (suc row) within = single_length values row (omega (arith, within))

pub single_at : (values : List Value) (row : ℕ) (value : Value) → slice_get values row ≡ Some value → get_or (singles values) row [] ≡ value ∷ []
single_at [] row value is = absurd cc
single_at (one ∷ values) zero value is = let e : one ≡ value = cc in ap (λ (value : Value). value ∷ []) e
single_at (one ∷ values) (suc row) value is = single_at values row value is

one_length : (valid : Bool) (value : Value) → length (cond {A = List Value} valid (value ∷ []) []) ≡ cond {A = ℕ} valid 1 0
one_length true value = refl
one_length false value = refl

pub valid_length : (valid : List Bool) (values : List Value) (row : ℕ) → length valid ≡ length values → row < length valid → length (get_or (where_valid valid values) row []) ≡ cond {A = ℕ} (get_or valid row false) 1 0
valid_length [] values row long within = absurd (omega (arith, within))
valid_length (one ∷ valid) [] row long within = absurd (omega (arith, long))
valid_length (one ∷ valid) (value ∷ values) zero long within = one_length one value
valid_length (one ∷ valid) (value ∷ values) (suc row) long within = valid_length valid values row (omega (arith, long)) (omega (arith, within))

pub valid_at : (valid : List Bool) (values : List Value) (row : ℕ) (value : Value) → length valid ≡ length values → slice_get values row ≡ Some value → get_or (where_valid valid values) row [] ≡ cond {A = List Value} (get_or valid row false) (value ∷ []) []
valid_at [] [] row value long is = absurd cc
valid_at [] (other ∷ values) row value long is = absurd (omega (arith, long))
valid_at (one ∷ valid) [] row value long is = absurd cc
valid_at (one ∷ valid) (other ∷ values) zero value long is = let e : other ≡ value = cc in ap (λ (value : Value). cond {A = List Value} one (value ∷ []) []) e
valid_at (one ∷ valid) (other ∷ values) (suc row) value long is = valid_at valid values row value (omega (arith, long)) is

pub length-where_valid : (valid : List Bool) (values : List Value) → length valid ≡ length values → length (where_valid valid values) ≡ length values
length-where_valid [] [] long = refl
length-where_valid [] (value ∷ values) long = absurd (omega (arith, long))
length-where_valid (one ∷ valid) [] long = absurd (omega (arith, long))
length-where_valid (one ∷ valid) (value ∷ values) long = ap suc (length-where_valid valid values (omega (arith, long)))

-- a cell of one value has none past the first
pub single_past : (value : Value) (place : ℕ) → 0 < place → slice_get (value ∷ []) place ≡ None
single_past value zero past = absurd (omega (arith, past))
single_past value (suc place) past = refl

pub if_past : (valid : Bool) (value : Value) (place : ℕ) → 0 < place → slice_get (cond {A = List Value} valid (value ∷ []) []) place ≡ None
if_past true value place past = single_past value place past
if_past false value place past = refl

-- any value
abbrev pub false_value : Value
false_value = Boolean false

pub byte_is : (b : Bool) → bool_byte b ≡ cond {A = ℕ} b 1 0
byte_is true = refl
byte_is false = refl
