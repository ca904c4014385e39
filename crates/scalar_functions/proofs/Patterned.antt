-- The pattern of a function, by the text of its second value; and what a function gives, by how it takes its cells.
use Rattle.std.proofs.Common.{◌≡◌, ℕ, List, [], ◌∷◌, ◌++◌, map, Option, Some, arith, refl, ap, sym, ◌∙◌}
use Rattle.std.specs.Prelude.{slice_get}
use Rattle.std.specs.List.{flat_map}
use Rattle.esql_types.specs.declared.value.Value.{Value}
use Rattle.esql_types.specs.declared.value.Value.TheVariants.{Text as Keyword}
use Rattle.esql_types.specs.declared.names.NodeId.{NodeId}
use Rattle.esql_types.specs.declared.cause.Failure.{Failure}
use Rattle.function_rules.specs.Found.{wrapped}
use Rattle.esql_plan.specs.declared.function.Function.{Function}
use Rattle.esql_plan.specs.declared.function.Function.TheVariants as function
use Rattle.esql_plan.specs.Rules.{text_of}
use Rattle.esql_plan.specs.Values.{Valued, silent, cells_of, failures_at, applied, applied_by}
use Rattle.scalar_functions.specs.declared.call.Call.{Call}
use Rattle.scalar_functions.specs.declared.call.Call.TheVariants.{Branches as InBranches, Plain as OfCells}
use Rattle.scalar_functions.specs.declared.call.Plain.{Plain}
use Rattle.scalar_functions.specs.declared.call.Plain.TheVariants.{Singles, Each, List as OfList, Append, Test, Logic, Membership}
use Rattle.scalar_functions.specs.Calls.{call_of, rule_of_call, rule_of_plain, given_of}
use Rattle.scalar_functions.specs.Patterns.{IsPattern, PlainHasPattern}
use Rattle.scalar_functions.specs.Results.{AreSingle, first_values}
use Rattle.scalar_functions.specs.Taken.{IsRead, as_written}
use Rattle.scalar_functions.proofs.Calls.{call_rule}

-- the second of single values, where the second cell is a text
second_value : (cells : List (List Value)) (text : List ℕ) (one other : Value) (more : List Value) → AreSingle cells → slice_get cells 1 ≡ Some (Keyword text ∷ [])
    → first_values cells ≡ one ∷ other ∷ more → text_of other ≡ text
second_value [] text one other more single second values = absurd cc
second_value (first ∷ []) text one other more single second values = absurd cc
second_value ([] ∷ next ∷ cells) text one other more single second values = absurd (let h : 0 ≡ 1 = single.0 in omega arith)
second_value ((value ∷ rest) ∷ next ∷ cells) text one other more single second values =
    let is : next ≡ Keyword text ∷ [] = cc in
    let two : value ∷ Keyword text ∷ first_values cells ≡ one ∷ other ∷ more = sym (ap (λ s. first_values ((value ∷ rest) ∷ s ∷ cells)) is) ∙ values in
    let same : Keyword text ≡ other = cc in
    ap text_of (sym same)

-- what a call has beside its cells
abbrev pub CallHasPattern : Call → List (List Value) → Option ℕ → List (List ℕ) → List (List ℕ) → Type 0
CallHasPattern (InBranches branches) cells number whole free = Unit {0}
CallHasPattern (OfCells plain) cells number whole free = PlainHasPattern plain cells number whole free

module _ (patterns : List (List ℕ)) (number : Option ℕ) (read : List ℕ → List ℕ) (cells : List (List Value)) (is : IsRead patterns number read cells) (single : AreSingle cells) where
  is_read : (one other : Value) (more : List Value) → first_values cells ≡ one ∷ other ∷ more → IsPattern patterns number (read (text_of other))
  is_read one other more values =
      (is.place, is.numbered, is.pattern ∙ ap (λ text. Some (read text)) (sym (second_value cells is.text one other more single is.second values)))

module _ (whole free : List (List ℕ)) (number : Option ℕ) (cells : List (List Value)) where
  -- only RLIKE, NOT RLIKE and REPLACE have a pattern
  pub has_pattern : (own : Function) → (own ≡ function.Rlike → IsRead whole number wrapped cells) → (own ≡ function.NotRlike → IsRead whole number wrapped cells)
      → (own ≡ function.Replace → IsRead free number as_written cells) → CallHasPattern (call_of own) cells number whole free
  has_pattern function.Rlike rlike not_rlike replace = λ single text pattern. is_read whole number wrapped cells (rlike refl) single text pattern []
  has_pattern function.NotRlike rlike not_rlike replace = λ single text pattern. is_read whole number wrapped cells (not_rlike refl) single text pattern []
  has_pattern function.Replace rlike not_rlike replace = λ single text pattern with. is_read free number as_written cells (replace refl) single text pattern (with ∷ [])
  has_pattern own rlike not_rlike replace = tt

silent_cells : (cells : List (List Value)) → cells_of (map silent cells) ≡ cells
silent_cells [] = refl
silent_cells (cell ∷ cells) = ap (λ rest. cell ∷ rest) (silent_cells cells)

silent_failures : (cells : List (List Value)) → flat_map (λ (part : Valued). part.failures) (map silent cells) ≡ []
silent_failures [] = refl
silent_failures (cell ∷ cells) = silent_failures cells

-- what a node gives of cells
abbrev pub given_at : NodeId → Plain → List (List Value) → Valued
given_at node plain cells = record { cell = (given_of plain cells).cell; failures = failures_at node (given_of plain cells).causes }

plain_by : (plain : Plain) (node : NodeId) (parts : List Valued)
    → applied_by (rule_of_plain plain) node parts ≡ record { cell = (given_of plain (cells_of parts)).cell; failures = flat_map (λ (part : Valued). part.failures) parts ++ failures_at node (given_of plain (cells_of parts)).causes }
plain_by (Singles function) node parts = refl
plain_by (Each conversion) node parts = refl
plain_by (OfList function) node parts = refl
plain_by Append node parts = refl
plain_by (Test negated) node parts = refl
plain_by (Logic connective) node parts = refl
plain_by (Membership negated) node parts = refl

-- a function gives of cells what the call of it does
pub applied_cells : (function : Function) (plain : Plain) (node : NodeId) (cells : List (List Value)) → call_of function ≡ OfCells plain
    → applied function node (map silent cells) ≡ given_at node plain cells
applied_cells function plain node cells called =
    ap (λ rule. applied_by rule node (map silent cells)) (call_rule function ∙ ap rule_of_call called)
    ∙ plain_by plain node (map silent cells)
    ∙ ap (λ (failures : List Failure). record { cell = (given_of plain (cells_of (map silent cells))).cell; failures = failures ++ failures_at node (given_of plain (cells_of (map silent cells))).causes }) (silent_failures cells)
    ∙ ap (given_at node plain) (silent_cells cells)
