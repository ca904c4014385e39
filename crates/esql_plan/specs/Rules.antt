-- What a rule is, and how it takes the cells of its arguments.
use Rattle.std.specs.Prelude.{ℕ, ℤ, pos, Bool, true, false, ◌&&◌, List, [], ◌∷◌, map, Option, Some, None, if◌then◌else◌}
use Rattle.std.specs.List.{flat_map, list_any}
use Rattle.std.specs.Ordering.{int_cmp}
use Rattle.std.specs.declared.cmp.Ordering.{Ordering}
use Rattle.esql_types.specs.declared.value.Value.{Value}
use Rattle.esql_types.specs.declared.value.Value.TheVariants.{Int, Long, Bool as Boolean, Text as Keyword}
use Rattle.esql_types.specs.declared.cause.Cause.{Cause}
use Rattle.esql_types.specs.declared.cause.Cause.TheVariants.{Multi}
use Rattle.esql_types.specs.Values.{value_cmp}
use Rattle.number_rules.specs.declared.Comparison.TheVariants.{Equal}
use Rattle.number_rules.specs.Comparisons.{compares}
use Rattle.function_rules.specs.Logic.{any_of}

-- Values as numbers, texts and truths. Of a value of another kind they say 0, the empty text and false: no expression that
-- fits asks it.

-- the number that a value is
abbrev pub number_of : Value → ℤ
number_of (Int number) = number
number_of (Long number) = number
number_of (Boolean truth) = pos 0
number_of (Keyword text) = pos 0

-- the text that a value is
abbrev pub text_of : Value → List ℕ
text_of (Int number) = []
text_of (Long number) = []
text_of (Boolean truth) = []
text_of (Keyword text) = text

-- the truth that a value is
abbrev pub truth_of : Value → Bool
truth_of (Int number) = false
truth_of (Long number) = false
truth_of (Boolean truth) = truth
truth_of (Keyword text) = false

abbrev pub is_integer : Value → Bool
is_integer (Int number) = true
is_integer (Long number) = false
is_integer (Boolean truth) = false
is_integer (Keyword text) = false

abbrev pub is_number : Value → Bool
is_number (Int number) = true
is_number (Long number) = true
is_number (Boolean truth) = false
is_number (Keyword text) = false

-- numbers by their size, an integer widened where it meets a long; other values in their order
abbrev pub order_of : Value → Value → Ordering
order_of left right = if is_number left && is_number right then int_cmp (number_of left) (number_of right) else value_cmp left right

-- two values are equal
abbrev pub is_same : Value → Value → Bool
is_same left right = compares Equal (order_of left right)

-- What a function gives -------------------------------------------------------------------------------------------------------

-- a cell, and the causes of the function's own failures
pub record Given : Type 0 where
  pub cell : List Value
  pub causes : List Cause

abbrev pub given : List Value → Given
given cell = record { cell = cell; causes = [] }

abbrev pub given_one : Value → Given
given_one value = given (value ∷ [])

abbrev pub given_nothing : Given
given_nothing = given []

-- null, and a failure
abbrev pub failed : Cause → Given
failed cause = record { cell = []; causes = cause ∷ [] }

-- a truth, null where it is not known
abbrev pub truth_given : Option Bool → List Value
truth_given None = []
truth_given (Some truth) = Boolean truth ∷ []

-- Rules ------------------------------------------------------------------------------------------------------------------------

-- How a function takes the cells of its arguments, and what it gives of them.
pub data Rule : Type 0 where
  -- one value of each argument
  singles : (List Value → Given) → Rule
  -- each value of the one argument by itself
  each : (Value → Given) → Rule
  -- all values of the first argument, and one value of each of the others
  list_and_singles : (List Value → List Value → Given) → Rule
  -- all values of each argument
  lists : (List (List Value) → Given) → Rule
  -- the cell of the one argument, which may be null
  tests : (List Value → Bool) → Rule
  -- truths
  logic : (List (Option Bool) → Option Bool) → Rule
  -- whether the first argument is one of the others
  membership : (Option Bool → Option Bool) → Rule
  -- CASE: conditions, each with what is given where it is the first that is true
  conditions : Rule
  -- COALESCE: the first that is not null
  alternatives : Rule

-- Arguments that are taken as one value each: they are looked at from the left, and the first that has not exactly one
-- value decides.
pub data Arguments : Type 0 where
  are : List Value → Arguments
  null : Arguments
  several : Arguments

abbrev pub with_argument : Value → Arguments → Arguments
with_argument value (are values) = are (value ∷ values)
with_argument value null = null
with_argument value several = several

abbrev pub arguments_of : List (List Value) → Arguments
arguments_of [] = are []
arguments_of ([] ∷ cells) = null
arguments_of ((value ∷ []) ∷ cells) = with_argument value (arguments_of cells)
arguments_of ((value ∷ next ∷ rest) ∷ cells) = several

-- null where an argument without a value decides, null with a failure where one of several values does, else what the
-- function gives of the values
abbrev pub given_arguments : (List Value → Given) → Arguments → Given
given_arguments function (are values) = function values
given_arguments function null = given_nothing
given_arguments function several = failed Multi

abbrev pub given_singles : (List Value → Given) → List (List Value) → Given
given_singles function cells = given_arguments function (arguments_of cells)

-- what a conversion gives of each value, where one that fails gives none
abbrev pub given_each : (Value → Given) → List Value → Given
given_each function cell = record {
  cell = flat_map (λ value. (function value).cell) cell;
  causes = flat_map (λ value. (function value).causes) cell;
}

-- a first argument without a value decides
abbrev pub given_list : (List Value → List Value → Given) → List Value → List (List Value) → Given
given_list function [] cells = given_nothing
given_list function (value ∷ rest) cells = given_singles (function (value ∷ rest)) cells

abbrev pub is_null : List Value → Bool
is_null [] = true
is_null (value ∷ rest) = false

-- an argument without a value decides
abbrev pub given_lists : (List (List Value) → Given) → List (List Value) → Given
given_lists function cells = if list_any is_null cells then given_nothing else function cells

abbrev pub is_several : List Value → Bool
is_several [] = false
is_several (value ∷ []) = false
is_several (value ∷ next ∷ rest) = true

-- a failure where a cell that is to have one value has several
abbrev pub multi_of : List Value → List Cause
multi_of cell = if is_several cell then Multi ∷ [] else []

-- the truth of a cell, which is not known of null and of several values
abbrev pub truth_in : List Value → Option Bool
truth_in [] = None
truth_in (value ∷ []) = Some (truth_of value)
truth_in (value ∷ next ∷ rest) = None

-- each operand of several values is a failure
abbrev pub given_logic : (List (Option Bool) → Option Bool) → List (List Value) → Given
given_logic function cells = record { cell = truth_given (function (map truth_in cells)); causes = flat_map multi_of cells }

-- whether an item is the left side, which is not known of null and of several values
abbrev pub is_item : Value → List Value → Option Bool
is_item left [] = None
is_item left (item ∷ []) = Some (is_same left item)
is_item left (item ∷ next ∷ rest) = None

-- one failure where there is an item of several values
abbrev pub multi_among : List (List Value) → List Cause
multi_among items = if list_any is_several items then Multi ∷ [] else []

-- a left side that is not one value decides
abbrev pub given_membership : (Option Bool → Option Bool) → List Value → List (List Value) → Given
given_membership function [] items = given_nothing
given_membership function (left ∷ []) items = record { cell = truth_given (function (any_of (map (is_item left) items))); causes = multi_among items }
given_membership function (left ∷ next ∷ rest) items = failed Multi

-- a list without its first argument has none
abbrev pub first_cell : List (List Value) → List Value
first_cell [] = []
first_cell (cell ∷ cells) = cell

abbrev pub later_cells : List (List Value) → List (List Value)
later_cells [] = []
later_cells (cell ∷ cells) = cells
