-- The numbers and the mask of a flat block.
use Rattle.std.proofs.Common.{◌≡◌, ℕ, zero, suc, ◌<◌, ℤ, pos, Bool, true, false, cond, List, [], ◌∷◌, Option, Some, None, map, length, refl, sym, ap, ◌∙◌, subst, arith}
use Rattle.esql_types.specs.declared.value.Kind.{Kind}
use Rattle.esql_types.specs.declared.value.Value.{Value}
use Rattle.esql_types.specs.declared.value.Value.TheVariants.{Int, Long, Bool as Boolean, Text as Keyword}
use Rattle.col_blocks.specs.declared.form.BlockForm.TheVariants.{Vector as VectorForm, Nullable as NullableForm}
use Rattle.col_blocks.specs.declared.values.Values.{Values}
use Rattle.col_blocks.specs.declared.values.Values.TheVariants.{Integers, Longs, Booleans, Keywords, Nulls}
use Rattle.col_blocks.specs.Cells.{blank, first_or, has_value, int_of, long_of}
use Rattle.col_blocks.specs.Rows.{singles, where_valid, IsFlat}
use Rattle.col_blocks.specs.Seen.{BlockSeen, ints_seen, longs_seen}
use Rattle.col_blocks.specs.Stored.{values_of, kind_of, ints_of, longs_of}

-- the number of a value
abbrev int_in : Value → ℤ
int_in (Int number) = number
int_in value = pos 0

abbrev long_in : Value → ℤ
long_in (Long number) = number
long_in value = pos 0

ints_in : (numbers : List ℤ) → map int_in (map Int numbers) ≡ numbers
ints_in [] = refl
ints_in (number ∷ numbers) = ap (λ rest. number ∷ rest) (ints_in numbers)

longs_in : (numbers : List ℤ) → map long_in (map Long numbers) ≡ numbers
longs_in [] = refl
longs_in (number ∷ numbers) = ap (λ rest. number ∷ rest) (longs_in numbers)

int_first : (cell : List Value) → int_in (first_or (Int (pos 0)) cell) ≡ int_of cell
int_first [] = refl
int_first (Int number ∷ values) = refl
int_first (Long number ∷ values) = refl
int_first (Boolean truth ∷ values) = refl
int_first (Keyword text ∷ values) = refl

long_first : (cell : List Value) → long_in (first_or (Long (pos 0)) cell) ≡ long_of cell
long_first [] = refl
long_first (Int number ∷ values) = refl
long_first (Long number ∷ values) = refl
long_first (Boolean truth ∷ values) = refl
long_first (Keyword text ∷ values) = refl

ints_first : (cells : List (List Value)) → map int_in (map (first_or (Int (pos 0))) cells) ≡ map int_of cells
ints_first [] = refl
ints_first (cell ∷ cells) = λ i. int_first cell i ∷ ints_first cells i

longs_first : (cells : List (List Value)) → map long_in (map (first_or (Long (pos 0))) cells) ≡ map long_of cells
longs_first [] = refl
longs_first (cell ∷ cells) = λ i. long_first cell i ∷ longs_first cells i

first_single : (other : Value) (values : List Value) → map (first_or other) (singles values) ≡ values
first_single other [] = refl
first_single other (value ∷ values) = ap (λ rest. value ∷ rest) (first_single other values)

ints_are : (numbers : List ℤ) (cells : List (List Value)) → map Int numbers ≡ map (first_or (Int (pos 0))) cells → numbers ≡ map int_of cells
ints_are numbers cells is = sym (ints_in numbers) ∙ ap (map int_in) is ∙ ints_first cells

longs_are : (numbers : List ℤ) (cells : List (List Value)) → map Long numbers ≡ map (first_or (Long (pos 0))) cells → numbers ≡ map long_of cells
longs_are numbers cells is = sym (longs_in numbers) ∙ ap (map long_in) is ∙ longs_first cells

abbrev pub seen_vector : Kind → Values → BlockSeen
seen_vector kind values = record { kind = kind; form = VectorForm; cells = singles (values_of values) }

abbrev pub seen_nullable : Kind → Values → List Bool → BlockSeen
seen_nullable kind values valid = record { kind = kind; form = NullableForm; cells = where_valid valid (values_of values) }

own_ints_vector : (values : Values) → ints_of values ≡ ints_seen (seen_vector (kind_of values) values)
own_ints_vector (Integers numbers) = ap Some (ints_are numbers.items (singles (map Int numbers.items)) (sym (first_single (Int (pos 0)) (map Int numbers.items))))
own_ints_vector (Longs numbers) = refl
own_ints_vector (Booleans truths) = refl
own_ints_vector (Keywords texts) = refl
own_ints_vector Nulls = refl

own_longs_vector : (values : Values) → longs_of values ≡ longs_seen (seen_vector (kind_of values) values)
own_longs_vector (Integers numbers) = refl
own_longs_vector (Longs numbers) = ap Some (longs_are numbers.items (singles (map Long numbers.items)) (sym (first_single (Long (pos 0)) (map Long numbers.items))))
own_longs_vector (Booleans truths) = refl
own_longs_vector (Keywords texts) = refl
own_longs_vector Nulls = refl

own_ints_nullable : (values : Values) (valid : List Bool) → IsFlat (kind_of values) valid (values_of values) → ints_of values ≡ ints_seen (seen_nullable (kind_of values) values valid)
own_ints_nullable (Integers numbers) valid flat = ap Some (ints_are numbers.items (where_valid valid (map Int numbers.items)) flat.blanks)
own_ints_nullable (Longs numbers) valid flat = refl
own_ints_nullable (Booleans truths) valid flat = refl
own_ints_nullable (Keywords texts) valid flat = refl
own_ints_nullable Nulls valid flat = refl

own_longs_nullable : (values : Values) (valid : List Bool) → IsFlat (kind_of values) valid (values_of values) → longs_of values ≡ longs_seen (seen_nullable (kind_of values) values valid)
own_longs_nullable (Integers numbers) valid flat = refl
own_longs_nullable (Longs numbers) valid flat = ap Some (longs_are numbers.items (where_valid valid (map Long numbers.items)) flat.blanks)
own_longs_nullable (Booleans truths) valid flat = refl
own_longs_nullable (Keywords texts) valid flat = refl
own_longs_nullable Nulls valid flat = refl

pub ints_vector : (kind : Kind) (values : Values) → kind_of values ≡ kind → ints_of values ≡ ints_seen (seen_vector kind values)
ints_vector kind values is = subst (λ (kind : Kind). ints_of values ≡ ints_seen (seen_vector kind values)) is (own_ints_vector values)

pub longs_vector : (kind : Kind) (values : Values) → kind_of values ≡ kind → longs_of values ≡ longs_seen (seen_vector kind values)
longs_vector kind values is = subst (λ (kind : Kind). longs_of values ≡ longs_seen (seen_vector kind values)) is (own_longs_vector values)

pub ints_nullable : (kind : Kind) (values : Values) (valid : List Bool) → kind_of values ≡ kind → IsFlat kind valid (values_of values) → ints_of values ≡ ints_seen (seen_nullable kind values valid)
ints_nullable kind values valid is flat =
    subst (λ (kind : Kind). ints_of values ≡ ints_seen (seen_nullable kind values valid)) is
    (own_ints_nullable values valid (subst (λ (kind : Kind). IsFlat kind valid (values_of values)) (sym is) flat))

pub longs_nullable : (kind : Kind) (values : Values) (valid : List Bool) → kind_of values ≡ kind → IsFlat kind valid (values_of values) → longs_of values ≡ longs_seen (seen_nullable kind values valid)
longs_nullable kind values valid is flat =
    subst (λ (kind : Kind). longs_of values ≡ longs_seen (seen_nullable kind values valid)) is
    (own_longs_nullable values valid (subst (λ (kind : Kind). IsFlat kind valid (values_of values)) (sym is) flat))

one_value : (valid : Bool) (value : Value) → has_value (cond {A = List Value} valid (value ∷ []) []) ≡ valid
one_value true value = refl
one_value false value = refl

pub valid_is : (valid : List Bool) (values : List Value) → length valid ≡ length values → map has_value (where_valid valid values) ≡ valid
valid_is [] values long = refl
valid_is (one ∷ valid) [] long = absurd (omega (arith, long))
valid_is (one ∷ valid) (value ∷ values) long = λ i. one_value one value i ∷ valid_is valid values (omega (arith, long)) i
