-- What a function of parts gives by the cells of the parts, and the pattern that it is read with.
use Rattle.std.proofs.Common.{◌≡◌, ℕ, true, List, [], ◌∷◌, ◌++◌, map, Option, Some, None, refl, ap, sym, ◌∙◌}
use Rattle.std.specs.Prelude.{slice_get, unwrap_or}
use Rattle.std.specs.List.{flat_map}
use Rattle.std.proofs.lemmas.List.Folds.{flat_map-map}
use Rattle.std.proofs.lemmas.Option.{unwrap_or-slice_get}
use Rattle.esql_types.specs.declared.value.Kind.{Kind}
use Rattle.esql_types.specs.declared.value.Value.{Value}
use Rattle.esql_types.specs.declared.value.Value.TheVariants.{Bool as Boolean}
use Rattle.esql_types.specs.declared.cause.Failure.{Failure}
use Rattle.esql_types.specs.declared.names.NodeId.{NodeId}
use Rattle.function_rules.specs.Found.{wrapped}
use Rattle.esql_plan.specs.declared.function.Function.{Function}
use Rattle.esql_plan.specs.declared.function.Function.TheVariants.{Rlike, NotRlike, Replace}
use Rattle.esql_plan.specs.declared.typed.TypedExpr.{TypedExpr}
use Rattle.esql_plan.specs.declared.typed.TypedForm.TheVariants.{Apply}
use Rattle.esql_plan.specs.Fits.{part_of, call_fits}
use Rattle.esql_plan.specs.Rules.{Rule, singles, each, list_and_singles, lists, tests, logic, membership, conditions, alternatives, Given, given_one, given_singles, given_each, given_list, given_lists, given_logic, given_membership, first_cell, later_cells}
use Rattle.esql_plan.specs.Functions.{rule_of}
use Rattle.esql_plan.specs.Values.{NumberedRow, Valued, silent, value_of_typed, applied, applied_by, behind, behind_parts, cells_of, failures_at, case_of, coalesce_of}
use Rattle.esql_plan.proofs.TypedFolds.{map_map, value_of_call}
use Rattle.esql_plan.proofs.Fitting.{literal_value, rlike_fits, not_rlike_fits, replace_fits, WholeFits, FreeFits}
use Rattle.scalar_functions.specs.declared.call.Branches.TheVariants.{Case, Coalesce}
use Rattle.scalar_functions.specs.Taken.{branches_by, branches_of, IsRead, as_written}
use Rattle.esql_scalar.specs.Rows.{row_of, values_of}

-- the cell of a number that a row does not have
pub nothing_at : (cells : List (List Value)) (id : ℕ) → slice_get cells id ≡ None → [] ≡ row_of cells id
nothing_at cells id none = sym (ap (λ cell. unwrap_or cell []) none) ∙ unwrap_or-slice_get cells id []

silent_cells : (cells : List (List Value)) → cells_of (map silent cells) ≡ cells
silent_cells [] = refl
silent_cells (cell ∷ cells) = ap (λ rest. cell ∷ rest) (silent_cells cells)

silent_failures : (cells : List (List Value)) → flat_map (λ (part : Valued). part.failures) (map silent cells) ≡ []
silent_failures [] = refl
silent_failures (cell ∷ cells) = silent_failures cells

module _ (node : NodeId) (parts : List Valued) where
  abbrev own_failures : List Failure
  own_failures = flat_map (λ (part : Valued). part.failures) parts

  behind_own : (own : List (List Value) → Given) → behind_parts node parts (own (cells_of parts))
      ≡ behind own_failures (behind_parts node (map silent (cells_of parts)) (own (cells_of (map silent (cells_of parts)))))
  behind_own own =
      sym (ap (λ (failures : List Failure). record {
        cell = (own (cells_of (map silent (cells_of parts)))).cell;
        failures = own_failures ++ (failures ++ failures_at node (own (cells_of (map silent (cells_of parts)))).causes);
      }) (silent_failures (cells_of parts))
      ∙ ap (λ (cells : List (List Value)). record { cell = (own cells).cell; failures = own_failures ++ failures_at node (own cells).causes }) (silent_cells (cells_of parts)))

  -- the parts of a node may stand for their cells, behind their failures, where all of them are evaluated
  applied_alone : (rule : Rule) → branches_by rule ≡ None → applied_by rule node parts ≡ behind own_failures (applied_by rule node (map silent (cells_of parts)))
  applied_alone (singles function) is = behind_own (given_singles function)
  applied_alone (each function) is = behind_own (λ cells. given_each function (first_cell cells))
  applied_alone (list_and_singles function) is = behind_own (λ cells. given_list function (first_cell cells) (later_cells cells))
  applied_alone (lists function) is = behind_own (given_lists function)
  applied_alone (tests function) is = behind_own (λ cells. given_one (Boolean (function (first_cell cells))))
  applied_alone (logic function) is = behind_own (given_logic function)
  applied_alone (membership function) is = behind_own (λ cells. given_membership function (first_cell cells) (later_cells cells))
  applied_alone conditions is = absurd cc
  applied_alone alternatives is = absurd cc

  case_alone : (rule : Rule) → branches_by rule ≡ Some Case → applied_by rule node parts ≡ case_of node parts
  case_alone (singles function) is = absurd cc
  case_alone (each function) is = absurd cc
  case_alone (list_and_singles function) is = absurd cc
  case_alone (lists function) is = absurd cc
  case_alone (tests function) is = absurd cc
  case_alone (logic function) is = absurd cc
  case_alone (membership function) is = absurd cc
  case_alone conditions is = refl
  case_alone alternatives is = absurd cc

  coalesce_alone : (rule : Rule) → branches_by rule ≡ Some Coalesce → applied_by rule node parts ≡ coalesce_of parts
  coalesce_alone (singles function) is = absurd cc
  coalesce_alone (each function) is = absurd cc
  coalesce_alone (list_and_singles function) is = absurd cc
  coalesce_alone (lists function) is = absurd cc
  coalesce_alone (tests function) is = absurd cc
  coalesce_alone (logic function) is = absurd cc
  coalesce_alone (membership function) is = absurd cc
  coalesce_alone conditions is = absurd cc
  coalesce_alone alternatives is = refl

-- the cells and the failures of parts on a row
abbrev pub cells_on : List TypedExpr → NumberedRow → List (List Value)
cells_on args row = map (λ (arg : TypedExpr). (value_of_typed arg row).cell) args

abbrev pub failures_on : List TypedExpr → NumberedRow → List Failure
failures_on args row = flat_map (λ (arg : TypedExpr). (value_of_typed arg row).failures) args

module _ (expr : TypedExpr) (function : Function) (args : List TypedExpr) (pattern : Option ℕ) (row : NumberedRow) (is : expr.form ≡ Apply function args pattern) where
  pub case_value : branches_of function ≡ Some Case → value_of_typed expr row ≡ case_of expr.node (values_of args row)
  case_value taken = value_of_call expr row function args pattern is ∙ case_alone expr.node (values_of args row) (rule_of function) taken

  pub coalesce_value : branches_of function ≡ Some Coalesce → value_of_typed expr row ≡ coalesce_of (values_of args row)
  coalesce_value taken = value_of_call expr row function args pattern is ∙ coalesce_alone expr.node (values_of args row) (rule_of function) taken

  -- every other function gives what it does of the cells of its parts, behind their failures
  pub cells_value : branches_of function ≡ None → value_of_typed expr row ≡ behind (failures_on args row) (applied function expr.node (map silent (cells_on args row)))
  cells_value taken =
      value_of_call expr row function args pattern is
      ∙ applied_alone expr.node (values_of args row) (rule_of function) taken
      ∙ (λ i. behind (flat_map-map (λ (valued : Valued). valued.failures) (λ (arg : TypedExpr). value_of_typed arg row) args i)
      (applied function expr.node (map silent (map_map (λ (valued : Valued). valued.cell) (λ (arg : TypedExpr). value_of_typed arg row) args i))))

module _ (whole free : List (List ℕ)) (args : List TypedExpr) (pattern : Option ℕ) (row : NumberedRow) where
  whole_read : WholeFits whole free args pattern → IsRead whole pattern wrapped (cells_on args row)
  whole_read fits = record {
    place = fits.read.numbers.place;
    text = fits.read.text;
    numbered = fits.read.numbers.is;
    second = ap (λ (these : List TypedExpr). slice_get (cells_on these row) 1) fits.are
        ∙ ap (λ (valued : Valued). Some valued.cell) (literal_value whole free row fits.read.text fits.second fits.read.is);
    pattern = fits.read.numbers.there;
  }

  free_read : FreeFits whole free args pattern → IsRead free pattern as_written (cells_on args row)
  free_read fits = record {
    place = fits.read.numbers.place;
    text = fits.read.text;
    numbered = fits.read.numbers.is;
    second = ap (λ (these : List TypedExpr). slice_get (cells_on these row) 1) fits.are
        ∙ ap (λ (valued : Valued). Some valued.cell) (literal_value whole free row fits.read.text fits.second fits.read.is);
    pattern = fits.read.numbers.there;
  }

  module _ (function : Function) (kind : Kind) (fits : call_fits whole free function (map (part_of whole free) args) pattern kind ≡ true) where
    fits_as : (other : Function) → function ≡ other → call_fits whole free other (map (part_of whole free) args) pattern kind ≡ true
    fits_as other same = sym (ap (λ (own : Function). call_fits whole free own (map (part_of whole free) args) pattern kind) same) ∙ fits

    pub rlike_read : function ≡ Rlike → IsRead whole pattern wrapped (cells_on args row)
    rlike_read same = whole_read (rlike_fits whole free pattern kind args (fits_as Rlike same))

    pub not_rlike_read : function ≡ NotRlike → IsRead whole pattern wrapped (cells_on args row)
    not_rlike_read same = whole_read (not_rlike_fits whole free pattern kind args (fits_as NotRlike same))

    pub replace_read : function ≡ Replace → IsRead free pattern as_written (cells_on args row)
    replace_read same = free_read (replace_fits whole free pattern kind args (fits_as Replace same))
