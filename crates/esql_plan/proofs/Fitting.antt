-- What is known of an expression that is well formed.
use Rattle.std.proofs.Common.{◌≡◌, ℕ, ◌+◌, ◌≤◌, nat_le, length, arith, true, ◌&&◌, List, [], ◌∷◌, map, All, Option, Some, None, option_map, slice_get, refl, ap, sym, ◌∙◌}
use Rattle.std.specs.List.{list_all}
use Rattle.std.proofs.lemmas.Bool.{and_parts}
use Rattle.std.proofs.lemmas.Bool.Decides.{nat_tests}
use Rattle.std.proofs.lemmas.Slice.Eq.{bytes_eq-Decides}
use Rattle.std.proofs.lemmas.List.Elements.{All-nil, All-cons}
use Rattle.esql_types.specs.declared.value.Value.{Value}
use Rattle.esql_types.specs.declared.value.Value.TheVariants.{Int, Long, Bool as Boolean, Text as Keyword}
use Rattle.esql_types.specs.declared.value.Kind.{Kind}
use Rattle.function_rules.specs.Found.{wrapped}
use Rattle.esql_plan.specs.declared.function.Function.{Function}
use Rattle.esql_plan.specs.declared.typed.TypedExpr.{TypedExpr}
use Rattle.esql_plan.specs.declared.typed.TypedForm.TheVariants.{Apply}
use Rattle.esql_plan.specs.declared.function.Function.TheVariants.{Rlike, NotRlike, Replace}
use Rattle.esql_plan.specs.Signatures.{Want, Parameters, these, a_keyword, whole_pattern, free_pattern, signature_of, least_count, most_count, is_at_most, is_count, wants_of, result_kind}
use Rattle.esql_plan.specs.Values.{NumberedRow, silent, value_of_typed}
use Rattle.esql_plan.specs.Fits.{Part, ExprFits, part_of, call_fits, literal_in, text_in, is_pattern, same_text, is_result, literals_fit, number_fits}
use Rattle.esql_plan.proofs.TypedFolds.{part_of_constant, part_of_column, part_of_call, value_of_constant}
use Rattle.esql_plan.proofs.Inductions.{typed_ind}

-- a function of parts is well formed
pub record CallFits (whole free : List (List ℕ)) (expr : TypedExpr) (function : Function) (args : List TypedExpr) (pattern : Option ℕ) : Type 0 where
  pub parts : All (ExprFits whole free) args
  pub call : call_fits whole free function (map (part_of whole free) args) pattern expr.kind ≡ true

parts_fit : (whole free : List (List ℕ)) (args : List TypedExpr) → list_all (λ (part : Part). part.fits) (map (part_of whole free) args) ≡ true → All (ExprFits whole free) args
parts_fit whole free [] all = All-nil (ExprFits whole free)
parts_fit whole free (arg ∷ args) all =
    let both = and_parts (part_of whole free arg).fits (list_all (λ (part : Part). part.fits) (map (part_of whole free) args)) all in
    All-cons (ExprFits whole free) arg args both.0 (parts_fit whole free args both.1)

pub fits_call : (whole free : List (List ℕ)) (expr : TypedExpr) (function : Function) (args : List TypedExpr) (pattern : Option ℕ) → expr.form ≡ Apply function args pattern
    → ExprFits whole free expr → CallFits whole free expr function args pattern
fits_call whole free expr function args pattern is fits =
    let both = and_parts (list_all (λ (part : Part). part.fits) (map (part_of whole free) args)) (call_fits whole free function (map (part_of whole free) args) pattern expr.kind)
    (sym (ap (λ (part : Part). part.fits) (part_of_call whole free expr function args pattern is)) ∙ fits) in
    record { parts = parts_fit whole free args both.0; call = both.1 }

text_value : (value : Value) (text : List ℕ) → text_in value ≡ Some text → value ≡ Keyword text
text_value (Int number) text is = cc
text_value (Long number) text is = cc
text_value (Boolean truth) text is = cc
text_value (Keyword own) text is = cc

literal_cell : (cell : List Value) (text : List ℕ) → literal_in cell ≡ Some text → cell ≡ Keyword text ∷ []
literal_cell [] text is = cc
literal_cell (value ∷ []) text is = ap (λ these. these ∷ []) (text_value value text is)
literal_cell (value ∷ next ∷ rest) text is = cc

-- a literal is the value of its expression on every row
pub literal_value : (whole free : List (List ℕ)) (row : NumberedRow) (text : List ℕ) (expr : TypedExpr) → (part_of whole free expr).literal ≡ Some text
    → value_of_typed expr row ≡ silent (Keyword text ∷ [])
literal_value whole free row text = typed_ind (λ expr. (part_of whole free expr).literal ≡ Some text → value_of_typed expr row ≡ silent (Keyword text ∷ [])) (record {
  constant = λ node kind cell is.
      value_of_constant _ row cell refl
      ∙ ap silent (literal_cell cell text (sym (ap (λ (part : Part). part.literal) (part_of_constant whole free _ cell refl)) ∙ is));
  column = λ node kind id is. let none : None ≡ Some text = sym (ap (λ (part : Part). part.literal) (part_of_column whole free _ id refl)) ∙ is in cc;
  apply = λ node kind function args pattern all is. let none : None ≡ Some text = sym (ap (λ (part : Part). part.literal) (part_of_call whole free _ function args pattern refl)) ∙ is in cc;
})

-- the pattern of a number is that of a text
pub record Numbers (patterns : List (List ℕ)) (pattern : Option ℕ) (text : List ℕ) : Type 0 where
  pub place : ℕ
  pub is : pattern ≡ Some place
  pub there : slice_get patterns place ≡ Some text

same_texts : (this that : Option (List ℕ)) (text : List ℕ) → that ≡ Some text → same_text this that ≡ true → this ≡ Some text
same_texts None None text is same = cc
same_texts None (Some that) text is same = cc
same_texts (Some this) None text is same = cc
same_texts (Some this) (Some that) text is same = let equal : this ≡ that = (bytes_eq-Decides this that).0 same in cc

numbered : (patterns : List (List ℕ)) (pattern : Option ℕ) (literal : Option (List ℕ)) (text : List ℕ) → literal ≡ Some text → is_pattern patterns pattern literal ≡ true
    → Numbers patterns pattern text
numbered patterns None literal text is same = absurd (cc)
numbered patterns (Some place) literal text is same = record { place = place; is = refl; there = same_texts (slice_get patterns place) literal text is same }

no_pattern : (patterns : List (List ℕ)) (pattern : Option ℕ) → is_pattern patterns pattern None ≡ true → ⊥
no_pattern patterns None same = cc
no_pattern patterns (Some place) same = elim (slice_get patterns place) as (λ these. same_text these None ≡ true → ⊥) [ None ↦ λ same. cc | Some this ↦ λ same. cc ] same

-- a literal with the pattern that is read from a text of it
pub record Read (patterns : List (List ℕ)) (pattern : Option ℕ) (text_of : List ℕ → List ℕ) (literal : Option (List ℕ)) : Type 0 where
  pub text : List ℕ
  pub is : literal ≡ Some text
  pub numbers : Numbers patterns pattern (text_of text)

read_from : (patterns : List (List ℕ)) (pattern : Option ℕ) (text_of : List ℕ → List ℕ) (literal : Option (List ℕ)) → is_pattern patterns pattern (option_map text_of literal) ≡ true
    → Read patterns pattern text_of literal
read_from patterns pattern text_of None same = absurd (no_pattern patterns pattern same)
read_from patterns pattern text_of (Some text) same = record { text = text; is = refl; numbers = numbered patterns pattern (Some (text_of text)) (text_of text) refl same }

read_free : (patterns : List (List ℕ)) (pattern : Option ℕ) (literal : Option (List ℕ)) → is_pattern patterns pattern literal ≡ true → Read patterns pattern (λ text. text) literal
read_free patterns pattern None same = absurd (no_pattern patterns pattern same)
read_free patterns pattern (Some text) same = record { text = text; is = refl; numbers = numbered patterns pattern (Some text) text refl same }

-- RLIKE and NOT RLIKE have two parts, of which the second is a literal with its pattern
pub record WholeFits (whole free : List (List ℕ)) (args : List TypedExpr) (pattern : Option ℕ) : Type 0 where
  pub input : TypedExpr
  pub second : TypedExpr
  pub are : args ≡ input ∷ second ∷ []
  pub read : Read whole pattern wrapped (part_of whole free second).literal

-- REPLACE has three parts, of which the second is a literal with its pattern
pub record FreeFits (whole free : List (List ℕ)) (args : List TypedExpr) (pattern : Option ℕ) : Type 0 where
  pub input : TypedExpr
  pub second : TypedExpr
  pub with : TypedExpr
  pub are : args ≡ input ∷ second ∷ with ∷ []
  pub read : Read free pattern (λ text. text) (part_of whole free second).literal

at_most : (n m : ℕ) → nat_le n m ≡ true → n ≤ m
at_most n m is = grind (arith, nat_tests)

-- no call has more arguments than its signature
not_more : (parameters : Parameters) (most count more : ℕ) → most_count parameters ≡ Some most → count ≡ most + 1 + more → is_count parameters count ≡ true → ⊥
not_more parameters most count more is counts fits =
    let both = and_parts (nat_le (least_count parameters) count) (is_at_most (most_count parameters) count) fits in
    let within : is_at_most (Some most) count ≡ true = sym (ap (λ (these : Option ℕ). is_at_most these count) is) ∙ both.1 in
    let bound : count ≤ most = at_most count most within in
    omega arith

-- the parts of what it is that a call fits
pub record CallParts (whole free : List (List ℕ)) (function : Function) (parts : List Part) (pattern : Option ℕ) (kind : Kind) : Type 0 where
  pub count : is_count (signature_of function).parameters (length parts) ≡ true
  pub result : is_result (result_kind function (map (λ (part : Part). part.kind) parts)) kind ≡ true
  pub literals : literals_fit whole free pattern (wants_of (signature_of function).parameters (length parts)) parts ≡ true
  pub number : number_fits (wants_of (signature_of function).parameters (length parts)) pattern ≡ true

pub call_parts : (whole free : List (List ℕ)) (function : Function) (parts : List Part) (pattern : Option ℕ) (kind : Kind)
    → call_fits whole free function parts pattern kind ≡ true → CallParts whole free function parts pattern kind
call_parts whole free function parts pattern kind fits =
    let count = is_count (signature_of function).parameters (length parts) in
    let result = is_result (result_kind function (map (λ (part : Part). part.kind) parts)) kind in
    let literals = literals_fit whole free pattern (wants_of (signature_of function).parameters (length parts)) parts in
    let number = number_fits (wants_of (signature_of function).parameters (length parts)) pattern in
    let both = and_parts (count && result) (literals && number) fits in
    let front = and_parts count result both.0 in
    let back = and_parts literals number both.1 in
    record { count = front.0; result = front.1; literals = back.0; number = back.1 }

abbrev whole_wants : List Want
whole_wants = a_keyword ∷ whole_pattern ∷ []

whole_of : (whole free : List (List ℕ)) (pattern : Option ℕ) (args : List TypedExpr) → is_count (these whole_wants) (length (map (part_of whole free) args)) ≡ true
    → literals_fit whole free pattern whole_wants (map (part_of whole free) args) ≡ true → WholeFits whole free args pattern
whole_of whole free pattern [] count literals = absurd (cc)
whole_of whole free pattern (input ∷ []) count literals = absurd (cc)
whole_of whole free pattern (input ∷ second ∷ []) count literals =
    let literal = and_parts (is_pattern whole pattern (option_map wrapped (part_of whole free second).literal)) true literals in
    record { input = input; second = second; are = refl; read = read_from whole pattern wrapped (part_of whole free second).literal literal.0 }
whole_of whole free pattern (input ∷ second ∷ third ∷ rest) count literals =
    absurd (not_more (these whole_wants) 2 (length (map (part_of whole free) (input ∷ second ∷ third ∷ rest))) (length (map (part_of whole free) rest)) refl (omega arith) count)

abbrev free_wants : List Want
free_wants = a_keyword ∷ free_pattern ∷ a_keyword ∷ []

free_of : (whole free : List (List ℕ)) (pattern : Option ℕ) (args : List TypedExpr) → is_count (these free_wants) (length (map (part_of whole free) args)) ≡ true
    → literals_fit whole free pattern free_wants (map (part_of whole free) args) ≡ true → FreeFits whole free args pattern
free_of whole free pattern [] count literals = absurd (cc)
free_of whole free pattern (input ∷ []) count literals = absurd (cc)
free_of whole free pattern (input ∷ second ∷ []) count literals = absurd (cc)
free_of whole free pattern (input ∷ second ∷ with ∷ []) count literals =
    let literal = and_parts (is_pattern free pattern (part_of whole free second).literal) true literals in
    record { input = input; second = second; with = with; are = refl; read = read_free free pattern (part_of whole free second).literal literal.0 }
free_of whole free pattern (input ∷ second ∷ with ∷ fourth ∷ rest) count literals =
    absurd (not_more (these free_wants) 3 (length (map (part_of whole free) (input ∷ second ∷ with ∷ fourth ∷ rest))) (length (map (part_of whole free) rest)) refl (omega arith) count)

module _ (whole free : List (List ℕ)) (pattern : Option ℕ) (kind : Kind) (args : List TypedExpr) where
  pub rlike_fits : call_fits whole free Rlike (map (part_of whole free) args) pattern kind ≡ true → WholeFits whole free args pattern
  rlike_fits fits =
      let parts = call_parts whole free Rlike (map (part_of whole free) args) pattern kind fits in
      whole_of whole free pattern args parts.count parts.literals

  pub not_rlike_fits : call_fits whole free NotRlike (map (part_of whole free) args) pattern kind ≡ true → WholeFits whole free args pattern
  not_rlike_fits fits =
      let parts = call_parts whole free NotRlike (map (part_of whole free) args) pattern kind fits in
      whole_of whole free pattern args parts.count parts.literals

  pub replace_fits : call_fits whole free Replace (map (part_of whole free) args) pattern kind ≡ true → FreeFits whole free args pattern
  replace_fits fits =
      let parts = call_parts whole free Replace (map (part_of whole free) args) pattern kind fits in
      free_of whole free pattern args parts.count parts.literals
