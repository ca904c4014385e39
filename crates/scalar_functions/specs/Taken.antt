-- How a function takes its arguments: unevaluated, or the cells of all of them, and a pattern beside.
use Rattle.std.specs.Prelude.{◌≡◌, ℕ, List, [], ◌∷◌, Option, Some, None, slice_get}
use Rattle.esql_types.specs.declared.value.Value.{Value}
use Rattle.esql_types.specs.declared.value.Value.TheVariants.{Text as Keyword}
use Rattle.esql_plan.specs.declared.function.Function.{Function}
use Rattle.esql_plan.specs.Rules.{Rule, singles, each, list_and_singles, lists, tests, logic, membership, conditions, alternatives}
use Rattle.esql_plan.specs.Functions.{rule_of}
use Rattle.scalar_functions.specs.declared.call.Branches.{Branches}
use Rattle.scalar_functions.specs.declared.call.Branches.TheVariants.{Case, Coalesce}

-- CASE and COALESCE by their rules, which take conditions and alternatives
abbrev pub branches_by : Rule → Option Branches
branches_by (singles function) = None
branches_by (each function) = None
branches_by (list_and_singles function) = None
branches_by (lists function) = None
branches_by (tests function) = None
branches_by (logic function) = None
branches_by (membership function) = None
branches_by conditions = Some Case
branches_by alternatives = Some Coalesce

-- the function whose arguments are handed unevaluated, if it is one
abbrev pub branches_of : Function → Option Branches
branches_of function = branches_by (rule_of function)

-- the pattern of the number is read from the text that is the second cell
pub record IsRead (patterns : List (List ℕ)) (number : Option ℕ) (read : List ℕ → List ℕ) (cells : List (List Value)) : Type 0 where
  pub place : ℕ
  pub text : List ℕ
  pub numbered : number ≡ Some place
  pub second : slice_get cells 1 ≡ Some (Keyword text ∷ [])
  pub pattern : slice_get patterns place ≡ Some (read text)

-- a pattern that is the text itself
abbrev pub as_written : List ℕ → List ℕ
as_written text = text
