-- A function says the same of its parts by their spans and the literal of the second as it does of the parts.
use Rattle.std.proofs.Common.{◌≡◌, Bool, List, [], ◌∷◌, map, Option, Some, None, refl, ap, ◌∙◌}
use Rattle.esql_types.specs.declared.places.Span.{Span}
use Rattle.esql_types.specs.declared.value.Kind.{Kind}
use Rattle.esql_plan.specs.declared.function.Function.{Function}
use Rattle.esql_plan.specs.declared.function.Function.TheVariants as function
use Rattle.esql_plan.specs.Signatures.{misfit, kind_of_call}
use Rattle.row_semantics.specs.Forms.{Part, function_in_plan, arguments_in_plan}
use Rattle.row_semantics.specs.Kinds.{Judged, wrong_literal, regular_of, first_place, if_accepted, fitting, kind_of_applied}
use Rattle.row_semantics.specs.Regulars.{Regular}
use Rattle.row_semantics.specs.Scopes.{Scope}
use Rattle.row_semantics.specs.Typed.{whole_of, free_of}
use Rattle.expression_analysis.specs.Answers.{scope_of}
use Rattle.expression_analysis.specs.Steps.{Over, scope_over}
use Rattle.expression_analysis.specs.Calls.{parts_at, second_literal, own_kind}

abbrev pub spans_of : {A : Type 0} → List (Part A) → List Span
spans_of parts = map (λ part. part.span) parts

module _ (A : Type 0) where
  abbrev blanks : List (Part A) → List (Part (Unit {0}))
  blanks parts = parts_at (spans_of parts) (second_literal parts)

  pub function_shown : (written : Function) (parts : List (Part A)) → function_in_plan written (blanks parts) ≡ function_in_plan written parts
  function_shown function.MvSort [] = refl
  function_shown function.MvSort (first ∷ []) = refl
  function_shown function.MvSort (first ∷ second ∷ rest) = refl
  function_shown written parts = refl

  pub wrong_shown : (written : Function) (parts : List (Part A)) → wrong_literal written (blanks parts) ≡ wrong_literal written parts
  wrong_shown function.MvSort [] = refl
  wrong_shown function.MvSort (first ∷ []) = refl
  wrong_shown function.MvSort (first ∷ second ∷ rest) = refl
  wrong_shown function.Replace [] = refl
  wrong_shown function.Replace (first ∷ []) = refl
  wrong_shown function.Replace (first ∷ second ∷ rest) = refl
  wrong_shown written parts = refl

  pub regular_shown : (written : Function) (parts : List (Part A)) → regular_of written (blanks parts) ≡ regular_of written parts
  regular_shown function.Rlike [] = refl
  regular_shown function.Rlike (first ∷ []) = refl
  regular_shown function.Rlike (first ∷ second ∷ rest) = refl
  regular_shown function.NotRlike [] = refl
  regular_shown function.NotRlike (first ∷ []) = refl
  regular_shown function.NotRlike (first ∷ second ∷ rest) = refl
  regular_shown function.Replace [] = refl
  regular_shown function.Replace (first ∷ []) = refl
  regular_shown function.Replace (first ∷ second ∷ rest) = refl
  regular_shown written parts = refl

  pub whole_shown : (written : Function) (parts : List (Part A)) → whole_of written (blanks parts) ≡ whole_of written parts
  whole_shown function.Rlike [] = refl
  whole_shown function.Rlike (first ∷ []) = refl
  whole_shown function.Rlike (first ∷ second ∷ rest) = refl
  whole_shown function.NotRlike [] = refl
  whole_shown function.NotRlike (first ∷ []) = refl
  whole_shown function.NotRlike (first ∷ second ∷ rest) = refl
  whole_shown written parts = refl

  pub free_shown : (written : Function) (parts : List (Part A)) → free_of written (blanks parts) ≡ free_of written parts
  free_shown function.Replace [] = refl
  free_shown function.Replace (first ∷ []) = refl
  free_shown function.Replace (first ∷ second ∷ rest) = refl
  free_shown written parts = refl

-- a regular expression is accepted by what accepts, whatever the columns are
accepted_alike : (found : Option Regular) (scope other : Scope) (kind : Kind) → scope.accepts ≡ other.accepts → if_accepted found scope kind ≡ if_accepted found other kind
accepted_alike None scope other kind same = refl
accepted_alike (Some regular) scope other kind same = ap (λ (accepts : Regular → Bool). if_accepted (Some regular) (record { columns = scope.columns; standing = scope.standing; accepts = accepts }) kind) same

-- the kind of a function of parts, by their spans and the literal of the second
pub own_shown : (written : Function) (parts : List (Part Judged)) (kinds : List Kind) (span : Span) (over : Over) (accepts : Regular → Bool)
    → own_kind written (spans_of parts) (second_literal parts) kinds span accepts ≡ kind_of_applied written parts kinds span (scope_over accepts over)
own_shown written parts kinds span over accepts =
    (λ i. fitting (first_place (misfit (function_shown Judged written parts i) (arguments_in_plan written kinds)) (wrong_shown Judged written parts i)) (spans_of parts) span
    (if_accepted (regular_shown Judged written parts i) (scope_of accepts []) (kind_of_call (function_shown Judged written parts i) (arguments_in_plan written kinds))))
    ∙ ap (fitting (first_place (misfit (function_in_plan written parts) (arguments_in_plan written kinds)) (wrong_literal written parts)) (spans_of parts) span)
    (accepted_alike (regular_of written parts) (scope_of accepts []) (scope_over accepts over) (kind_of_call (function_in_plan written parts) (arguments_in_plan written kinds)) refl)
