-- A call by a name has as many arguments as the signature of its function takes, and calls no function with a pattern beside an operator.
use Rattle.std.proofs.Common.{◌≡◌, ℕ, nat_le, ◌==◌, Bool, true, false, ◌&&◌, List, [], ◌∷◌, length, Option, Some, None, is_some, refl, ap, sym, ◌∙◌, if◌then◌else◌, arith}
use Rattle.std.proofs.lemmas.Bool.{and_parts}
use Rattle.std.proofs.lemmas.Bool.Decides.{nat_tests}
use Rattle.esql_plan.specs.declared.function.Function.{Function}
use Rattle.esql_plan.specs.declared.function.Function.TheVariants as function
use Rattle.esql_plan.specs.declared.names.FunctionRow.{FunctionRow}
use Rattle.esql_plan.specs.Names.{function_names, cast_names, function_named, cast_named}
use Rattle.esql_plan.specs.Signatures.{signature_of, least_count, most_count, is_at_most, is_count}
use Rattle.query_semantics.proofs.NamesFound.{found_passes}
use Rattle.row_semantics.specs.Forms.{Part, is_word, takes, function_in_plan, arguments_in_plan}

-- the pattern beside LIKE and RLIKE is a literal
abbrev pub HasPattern : {A : Type 0} → Function → List (Part A) → Type 0
HasPattern function.Like (left ∷ pattern ∷ rest) = is_some pattern.literal ≡ true
HasPattern function.NotLike (left ∷ pattern ∷ rest) = is_some pattern.literal ≡ true
HasPattern function.Rlike (left ∷ pattern ∷ rest) = is_some pattern.literal ≡ true
HasPattern function.NotRlike (left ∷ pattern ∷ rest) = is_some pattern.literal ≡ true
HasPattern function parts = Unit {0}

-- the plan's function has as many arguments as it takes
abbrev pub IsCount : {A : Type 0} → Function → List (Part A) → Type 0
IsCount function parts = is_count (signature_of (function_in_plan function parts)).parameters (length (arguments_in_plan function parts)) ≡ true

-- calls ----------------------------------------------------------------------------------------------------------------------

abbrev same_most : Option ℕ → Option ℕ → Bool
same_most None None = true
same_most None (Some that) = false
same_most (Some this) None = false
same_most (Some this) (Some that) = this == that

-- the numbers are those of the function's signature, but MV_SORT may have a direction
abbrev is_signed : Function → ℕ → Option ℕ → Bool
is_signed function.Like least most = false
is_signed function.NotLike least most = false
is_signed function.Rlike least most = false
is_signed function.NotRlike least most = false
is_signed function.MvSort least most = least == 1
is_signed function least most = least == least_count (signature_of function).parameters && same_most most (most_count (signature_of function).parameters)

same_number : (this that : ℕ) → this == that ≡ true → this ≡ that
same_number this that is = grind (arith, is)

most_is : (this that : Option ℕ) → same_most this that ≡ true → this ≡ that
most_is None None is = refl
most_is None (Some that) is = absurd cc
most_is (Some this) None is = absurd cc
most_is (Some this) (Some that) is = ap Some (same_number this that is)

one_at_least : (least : ℕ) → least == 1 ≡ true → nat_le least 0 ≡ true → ⊥
one_at_least least one none = grind (arith, nat_tests, one, none)

ordered_count : (descending : Bool) → is_count (signature_of (if descending then function.MvSortDesc else function.MvSort)).parameters 1 ≡ true
ordered_count true = refl
ordered_count false = refl

signed_count : {A : Type 0} (function : Function) (least : ℕ) (most : Option ℕ) → is_signed function least most ≡ true → (parts : List (Part A))
    → (nat_le least (length parts) && is_at_most most (length parts)) ≡ true → IsCount function parts
signed_count function.Like least most signed parts taken = absurd cc
signed_count function.NotLike least most signed parts taken = absurd cc
signed_count function.Rlike least most signed parts taken = absurd cc
signed_count function.NotRlike least most signed parts taken = absurd cc
signed_count function.MvSort least most signed [] taken = absurd (one_at_least least signed (and_parts (nat_le least 0) (is_at_most most 0) taken).0)
signed_count function.MvSort least most signed (values ∷ []) taken = refl
signed_count function.MvSort least most signed (values ∷ order ∷ rest) taken = ordered_count (is_word "DESC" order.literal)
signed_count other least most signed parts taken =
    let both = and_parts (least == least_count (signature_of other).parameters) (same_most most (most_count (signature_of other).parameters)) signed in
    (λ i. nat_le (sym (same_number least _ both.0) i) (length parts) && is_at_most (sym (most_is most _ both.1) i) (length parts)) ∙ taken

signed_pattern : {A : Type 0} (function : Function) (least : ℕ) (most : Option ℕ) → is_signed function least most ≡ true → (parts : List (Part A)) → HasPattern function parts
signed_pattern function.Like least most signed parts = absurd cc
signed_pattern function.NotLike least most signed parts = absurd cc
signed_pattern function.Rlike least most signed parts = absurd cc
signed_pattern function.NotRlike least most signed parts = absurd cc
signed_pattern other least most signed parts = tt

-- a call by a name is well formed
pub record RowFits (A : Type 0) (row : FunctionRow) : Type 0 where
  pub count : (parts : List (Part A)) → takes row (length parts) ≡ true → IsCount row.function parts
  pub pattern : (parts : List (Part A)) → HasPattern row.function parts

abbrev is_row : FunctionRow → Bool
is_row row = is_signed row.function row.least row.most

pub named_fits : {A : Type 0} (name : List ℕ) (row : FunctionRow) → function_named name ≡ Some row → RowFits A row
unfolding function_named
named_fits name row is =
    let signed = found_passes is_row function_names name row refl is in
    record { count = signed_count row.function row.least row.most signed; pattern = signed_pattern row.function row.least row.most signed }

-- conversions ------------------------------------------------------------------------------------------------------------------

abbrev is_conversion : Function → Bool
is_conversion function.ToInteger = true
is_conversion function.ToLong = true
is_conversion function.ToBoolean = true
is_conversion function.ToString = true
is_conversion function = false

-- a conversion has one argument
pub record CastFits (A : Type 0) (function : Function) : Type 0 where
  pub count : (part : Part A) → IsCount function (part ∷ [])
  pub pattern : (part : Part A) → HasPattern function (part ∷ [])

conversion_fits : {A : Type 0} (function : Function) → is_conversion function ≡ true → CastFits A function
conversion_fits function.ToInteger is = record { count = λ part. refl; pattern = λ part. tt }
conversion_fits function.ToLong is = record { count = λ part. refl; pattern = λ part. tt }
conversion_fits function.ToBoolean is = record { count = λ part. refl; pattern = λ part. tt }
conversion_fits function.ToString is = record { count = λ part. refl; pattern = λ part. tt }
conversion_fits other is = absurd cc

pub cast_fits : {A : Type 0} (name : List ℕ) (function : Function) → cast_named name ≡ Some function → CastFits A function
unfolding cast_named
cast_fits name found is = conversion_fits found (found_passes is_conversion cast_names name found refl is)
