-- The values of constants and of lists have the kind of the constant.
use Rattle.std.proofs.Common.{◌≡◌, Bool, true, false, cond, List, [], ◌∷◌, map, Option, Some, None, refl, ap, subst}
use Rattle.std.specs.List.{list_all}
use Rattle.std.proofs.lemmas.Bool.{and_parts, and_from}
use Rattle.esql_types.specs.declared.value.Kind.{Kind}
use Rattle.esql_types.specs.declared.value.Kind.TheVariants as kind
use Rattle.esql_types.specs.declared.value.Value.{Value}
use Rattle.esql_types.specs.declared.value.Value.TheVariants as value
use Rattle.esql_types.specs.Values.{kind_of_value}
use Rattle.esql_plan.specs.Rules.{is_integer, is_number}
use Rattle.esql_plan.specs.Signatures.{same_kind}
use Rattle.esql_plan.specs.Fits.{has_kind}
use Rattle.row_semantics.specs.Forms.{is_boolean, is_keyword, widened, kind_of_list}

-- a list with its kind, as a constant has it
abbrev pub HaveKind : List Value → Option Kind → Type 0
HaveKind values (Some kind.Long) = has_kind kind.Long (map widened values) ≡ true
HaveKind values (Some kind.Integer) = has_kind kind.Integer values ≡ true
HaveKind values (Some kind.Boolean) = has_kind kind.Boolean values ≡ true
HaveKind values (Some kind.Keyword) = has_kind kind.Keyword values ≡ true
HaveKind values (Some kind.Null) = has_kind kind.Null values ≡ true
HaveKind values None = Unit {0}

each_has : (test : Value → Bool) (change : Value → Value) (kind : Kind) → ((value : Value) → test value ≡ true → same_kind (kind_of_value (change value)) kind ≡ true)
    → (values : List Value) → list_all test values ≡ true → has_kind kind (map change values) ≡ true
each_has test change kind one [] all = refl
each_has test change kind one (value ∷ values) all =
    let both = and_parts (test value) (list_all test values) all in
    and_from (same_kind (kind_of_value (change value)) kind) (has_kind kind (map change values)) (one value both.0) (each_has test change kind one values both.1)

unchanged : (values : List Value) → map (λ value. value) values ≡ values
unchanged [] = refl
unchanged (value ∷ values) = ap (λ (rest : List Value). value ∷ rest) (unchanged values)

each_is : (test : Value → Bool) (kind : Kind) → ((value : Value) → test value ≡ true → same_kind (kind_of_value value) kind ≡ true)
    → (values : List Value) → list_all test values ≡ true → has_kind kind values ≡ true
each_is test kind one values all = subst (λ (these : List Value). has_kind kind these ≡ true) (unchanged values) (each_has test (λ value. value) kind one values all)

integer_has : (value : Value) → is_integer value ≡ true → same_kind (kind_of_value value) kind.Integer ≡ true
integer_has (value.Int number) is = refl
integer_has (value.Long number) is = absurd cc
integer_has (value.Bool truth) is = absurd cc
integer_has (value.Text text) is = absurd cc

number_has : (value : Value) → is_number value ≡ true → same_kind (kind_of_value (widened value)) kind.Long ≡ true
number_has (value.Int number) is = refl
number_has (value.Long number) is = refl
number_has (value.Bool truth) is = absurd cc
number_has (value.Text text) is = absurd cc

boolean_has : (value : Value) → is_boolean value ≡ true → same_kind (kind_of_value value) kind.Boolean ≡ true
boolean_has (value.Int number) is = absurd cc
boolean_has (value.Long number) is = absurd cc
boolean_has (value.Bool truth) is = refl
boolean_has (value.Text text) is = absurd cc

keyword_has : (value : Value) → is_keyword value ≡ true → same_kind (kind_of_value value) kind.Keyword ≡ true
keyword_has (value.Int number) is = absurd cc
keyword_has (value.Long number) is = absurd cc
keyword_has (value.Bool truth) is = absurd cc
keyword_has (value.Text text) is = refl

pub list_has : (values : List Value) → HaveKind values (kind_of_list values)
list_has values = integers (list_all is_integer values) refl
  where
    keywords : (all : Bool) → list_all is_keyword values ≡ all → HaveKind values (cond all (Some kind.Keyword) None)
    keywords true is = each_is is_keyword kind.Keyword keyword_has values is
    keywords false is = tt

    booleans : (all : Bool) → list_all is_boolean values ≡ all → HaveKind values (cond all (Some kind.Boolean) (cond (list_all is_keyword values) (Some kind.Keyword) None))
    booleans true is = each_is is_boolean kind.Boolean boolean_has values is
    booleans false is = keywords (list_all is_keyword values) refl

    numbers : (all : Bool) → list_all is_number values ≡ all
        → HaveKind values (cond all (Some kind.Long) (cond (list_all is_boolean values) (Some kind.Boolean) (cond (list_all is_keyword values) (Some kind.Keyword) None)))
    numbers true is = each_has is_number widened kind.Long number_has values is
    numbers false is = booleans (list_all is_boolean values) refl

    integers : (all : Bool) → list_all is_integer values ≡ all
        → HaveKind values (cond all (Some kind.Integer) (cond (list_all is_number values) (Some kind.Long) (cond (list_all is_boolean values) (Some kind.Boolean) (cond (list_all is_keyword values) (Some kind.Keyword) None))))
    integers true is = each_is is_integer kind.Integer integer_has values is
    integers false is = numbers (list_all is_number values) refl
