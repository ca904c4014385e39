-- Literals fit where nothing but literals is wanted as literals.
use Rattle.std.proofs.Common.{◌≡◌, ℕ, zero, suc, Bool, true, false, ◌&&◌, List, [], ◌∷◌, ◌++◌, replicate, Option, refl}
use Rattle.std.specs.List.{list_all}
use Rattle.std.proofs.lemmas.Bool.{and_parts, and_from}
use Rattle.esql_plan.specs.declared.function.Function.{Function}
use Rattle.esql_plan.specs.declared.function.Function.TheVariants as function
use Rattle.esql_plan.specs.Signatures.{Want, a_boolean, a_keyword, a_number, a_value, an_ordered, like_pattern, whole_pattern, free_pattern, Parameters, these, optional, repeated, branches, signature_of, wants_of, branch_wants}
use Rattle.esql_plan.specs.Fits.{Part, literal_fits, literals_fit, number_fits}
use Rattle.row_semantics.specs.Typed.{pattern_number}

-- an argument that is no literal
abbrev pub is_plain : Want → Bool
is_plain a_boolean = true
is_plain a_keyword = true
is_plain a_number = true
is_plain a_value = true
is_plain an_ordered = true
is_plain like_pattern = false
is_plain whole_pattern = false
is_plain free_pattern = false

abbrev pub are_plain : Parameters → Bool
are_plain (these wants) = list_all is_plain wants
are_plain (optional wants last) = list_all is_plain (wants ++ last ∷ [])
are_plain (repeated wants more) = list_all is_plain wants && is_plain more
are_plain branches = true

plain_fits : (whole free : List (List ℕ)) (pattern : Option ℕ) (want : Want) (part : Part) → is_plain want ≡ true → literal_fits whole free pattern want part ≡ true
plain_fits whole free pattern a_boolean part is = refl
plain_fits whole free pattern a_keyword part is = refl
plain_fits whole free pattern a_number part is = refl
plain_fits whole free pattern a_value part is = refl
plain_fits whole free pattern an_ordered part is = refl
plain_fits whole free pattern like_pattern part is = absurd cc
plain_fits whole free pattern whole_pattern part is = absurd cc
plain_fits whole free pattern free_pattern part is = absurd cc

pub all_plain_fit : (whole free : List (List ℕ)) (pattern : Option ℕ) (wants : List Want) (parts : List Part) → list_all is_plain wants ≡ true → literals_fit whole free pattern wants parts ≡ true
all_plain_fit whole free pattern [] parts plain = refl
all_plain_fit whole free pattern (want ∷ wants) [] plain = refl
all_plain_fit whole free pattern (want ∷ wants) (part ∷ parts) plain =
    let both = and_parts (is_plain want) (list_all is_plain wants) plain in
    and_from (literal_fits whole free pattern want part) (literals_fit whole free pattern wants parts) (plain_fits whole free pattern want part both.0)
    (all_plain_fit whole free pattern wants parts both.1)

replicate_plain : (count : ℕ) (want : Want) → is_plain want ≡ true → list_all is_plain (replicate count want) ≡ true
replicate_plain zero want plain = refl
replicate_plain (suc count) want plain = and_from (is_plain want) (list_all is_plain (replicate count want)) plain (replicate_plain count want plain)

both_plain : (first second : List Want) → list_all is_plain first ≡ true → list_all is_plain second ≡ true → list_all is_plain (first ++ second) ≡ true
both_plain [] second plain also = also
both_plain (want ∷ first) second plain also =
    let both = and_parts (is_plain want) (list_all is_plain first) plain in
    and_from (is_plain want) (list_all is_plain (first ++ second)) both.0 (both_plain first second both.1 also)

branches_plain : (count : ℕ) → list_all is_plain (branch_wants count) ≡ true
branches_plain zero = refl
branches_plain (suc zero) = refl
branches_plain (suc (suc count)) = branches_plain count

pub wants_plain : (parameters : Parameters) (count : ℕ) → are_plain parameters ≡ true → list_all is_plain (wants_of parameters count) ≡ true
wants_plain (these wants) count plain = plain
wants_plain (optional wants last) count plain = plain
wants_plain (repeated wants more) count plain =
    let both = and_parts (list_all is_plain wants) (is_plain more) plain in
    both_plain wants (replicate count more) both.0 (replicate_plain count more both.1)
wants_plain branches count plain = branches_plain count

-- only functions with a numbered pattern have a number
pub number_is : (function : Function) (count at_whole at_free : ℕ) → number_fits (wants_of (signature_of function).parameters count) (pattern_number function at_whole at_free) ≡ true
number_is function.Rlike count at_whole at_free = refl
number_is function.NotRlike count at_whole at_free = refl
number_is function.Replace count at_whole at_free = refl
number_is other count at_whole at_free = refl
