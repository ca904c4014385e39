-- The patterns that functions are handed beside their values: each is read from the text that stands as the second value.
use Rattle.std.specs.Prelude.{◌≡◌, ℕ, List, [], ◌∷◌, Option, Some, slice_get}
use Rattle.esql_types.specs.declared.value.Value.{Value}
use Rattle.function_rules.specs.Found.{wrapped}
use Rattle.esql_plan.specs.Rules.{text_of}
use Rattle.scalar_functions.specs.declared.call.SingleFunction.{SingleFunction}
use Rattle.scalar_functions.specs.declared.call.SingleFunction.TheVariants.{Unary, Binary, Rlike, Replace, Substring, Concat, Best}
use Rattle.scalar_functions.specs.Results.{AreSingle, first_values}
use Rattle.scalar_functions.specs.declared.call.Plain.{Plain}
use Rattle.scalar_functions.specs.declared.call.Plain.TheVariants.{Singles, Each, List as OfList, Append, Test, Logic, Membership}

-- the number is that of a pattern with the text
abbrev pub IsPattern : List (List ℕ) → Option ℕ → List ℕ → Type 0
IsPattern patterns number text = (place : ℕ) × (number ≡ Some place) × (slice_get patterns place ≡ Some text)

-- RLIKE has the wrapped pattern of its second value, and REPLACE the pattern of its second value
abbrev pub HasPattern : SingleFunction → List (List Value) → Option ℕ → List (List ℕ) → List (List ℕ) → Type 0
HasPattern (Unary function) cells number whole free = Unit {0}
HasPattern (Binary function) cells number whole free = Unit {0}
HasPattern (Rlike negated) cells number whole free = AreSingle cells → (text pattern : Value) → first_values cells ≡ text ∷ pattern ∷ [] → IsPattern whole number (wrapped (text_of pattern))
HasPattern Replace cells number whole free = AreSingle cells → (text pattern with : Value) → first_values cells ≡ text ∷ pattern ∷ with ∷ [] → IsPattern free number (text_of pattern)
HasPattern Substring cells number whole free = Unit {0}
HasPattern Concat cells number whole free = Unit {0}
HasPattern (Best greatest) cells number whole free = Unit {0}

abbrev pub PlainHasPattern : Plain → List (List Value) → Option ℕ → List (List ℕ) → List (List ℕ) → Type 0
PlainHasPattern (Singles function) cells number whole free = HasPattern function cells number whole free
PlainHasPattern (Each conversion) cells number whole free = Unit {0}
PlainHasPattern (OfList function) cells number whole free = Unit {0}
PlainHasPattern Append cells number whole free = Unit {0}
PlainHasPattern (Test negated) cells number whole free = Unit {0}
PlainHasPattern (Logic connective) cells number whole free = Unit {0}
PlainHasPattern (Membership negated) cells number whole free = Unit {0}
