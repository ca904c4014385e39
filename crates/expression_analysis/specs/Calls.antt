-- A function of parts that are typed already: what its parts say by their spans and the literal of the second alone.
use Rattle.std.specs.Prelude.{◌≡◌, ℕ, nat_le, Bool, true, List, [], ◌∷◌, map, Option, None, Result}
use Rattle.esql_types.specs.declared.places.Span.{Span}
use Rattle.esql_types.specs.declared.value.Kind.{Kind}
use Rattle.esql_plan.specs.declared.function.Function.{Function}
use Rattle.esql_plan.specs.declared.function.Function.TheVariants as function
use Rattle.esql_plan.specs.declared.names.FunctionRow.{FunctionRow}
use Rattle.esql_plan.specs.Signatures.{misfit, kind_of_call}
use Rattle.row_semantics.specs.Forms.{Part, takes, function_in_plan, arguments_in_plan}
use Rattle.row_semantics.specs.Kinds.{wrong_literal, regular_of, first_place, if_accepted, fitting}
use Rattle.row_semantics.specs.Regulars.{Regular}
use Rattle.row_semantics.specs.Scopes.{Broken}
use Rattle.expression_analysis.specs.Answers.{scope_of}

abbrev pub blank : Span → Option (List ℕ) → Part (Unit {0})
blank span literal = record { span = span; literal = literal; reading = tt }

-- parts at these spans, of which the second is this literal
abbrev pub parts_at : List Span → Option (List ℕ) → List (Part (Unit {0}))
parts_at [] literal = []
parts_at (first ∷ []) literal = blank first None ∷ []
parts_at (first ∷ second ∷ rest) literal = blank first None ∷ blank second literal ∷ map (λ span. blank span None) rest

-- the literal of the second part
abbrev pub second_literal : {Reading : Type 0} → List (Part Reading) → Option (List ℕ)
second_literal [] = None
second_literal (first ∷ []) = None
second_literal (first ∷ second ∷ rest) = second.literal

-- the place of the first part that does not fit
abbrev pub place_of : Function → List Span → Option (List ℕ) → List Kind → Option ℕ
place_of function spans literal kinds =
    first_place (misfit (function_in_plan function (parts_at spans literal)) (arguments_in_plan function kinds)) (wrong_literal function (parts_at spans literal))

-- the kind of a function of parts of these kinds, or the rule that it breaks
abbrev pub own_kind : Function → List Span → Option (List ℕ) → List Kind → Span → (Regular → Bool) → Result Kind Broken
own_kind function spans literal kinds span accepts =
    fitting (place_of function spans literal kinds) spans span
    (if_accepted (regular_of function (parts_at spans literal)) (scope_of accepts []) (kind_of_call (function_in_plan function (parts_at spans literal)) (arguments_in_plan function kinds)))

-- MV_SORT has no more parts than its values and their direction
abbrev pub takes_few : Function → ℕ → Bool
takes_few function.MvSort count = nat_le count 2
takes_few function count = true

-- so it is in every call that has a number of arguments which the function takes
abbrev pub FewAreTaken : FunctionRow → Type 0
FewAreTaken row = (count : ℕ) → takes row count ≡ true → takes_few row.function count ≡ true
