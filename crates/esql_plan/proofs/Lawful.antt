-- What functions give.
use Rattle.std.proofs.Common.{◌≡◌, Bool, true, false, List, [], ◌∷◌, ◌++◌, map, Some, refl, ap, sym, ◌∙◌, if◌then◌else◌}
use Rattle.std.proofs.lemmas.List.{append-nil, append_assoc}
use Rattle.esql_types.specs.declared.value.Value.{Value}
use Rattle.esql_types.specs.declared.value.Value.TheVariants.{Bool as Boolean}
use Rattle.esql_types.specs.declared.cause.Cause.TheVariants.{Multi}
use Rattle.esql_types.specs.declared.names.NodeId.{NodeId}
use Rattle.esql_plan.specs.declared.function.Function.TheVariants.{And}
use Rattle.esql_plan.specs.Rules.{Rule, singles, each, list_and_singles, lists, tests, logic, membership, conditions, alternatives, Given, given_one, given_nothing, failed, with_argument, given_each, given_list, given_lists, given_logic, given_membership, first_cell, later_cells, Arguments, are, null, several, arguments_of, given_singles, given_arguments, multi_of, truth_in, is_null}
use Rattle.esql_plan.specs.Values.{Valued, silent, behind, failures_at, cells_of, applied, applied_by, case_of, coalesce_of, is_met}

abbrev ones : List Value → List (List Value)
ones values = map (λ value. value ∷ []) values

abbrev with_values : List Value → Arguments → Arguments
with_values values (are others) = are (values ++ others)
with_values values null = null
with_values values several = several

single_front : (values : List Value) (cells : List (List Value)) → arguments_of (ones values ++ cells) ≡ with_values values (arguments_of cells)
single_front [] cells = elim (arguments_of cells) as (λ these. these ≡ with_values [] these) [ are others ↦ refl | null ↦ refl | several ↦ refl ]
single_front (value ∷ values) cells =
    ap (λ these. with_argument value these) (single_front values cells)
    ∙ elim (arguments_of cells) as (λ these. with_argument value (with_values values these) ≡ with_values (value ∷ values) these) [ are others ↦ refl | null ↦ refl | several ↦ refl ]

pub single_values : (function : List Value → Given) (values : List Value) → given_singles function (ones values) ≡ function values
single_values function values =
    ap (λ cells. given_singles function cells) (sym (append-nil (ones values)))
    ∙ ap (given_arguments function) (single_front values [])
    ∙ ap function (append-nil values)

pub null_first : (function : List Value → Given) (values : List Value) (cells : List (List Value)) → given_singles function (ones values ++ [] ∷ cells) ≡ given_nothing
null_first function values cells = ap (given_arguments function) (single_front values ([] ∷ cells))

pub several_first : (function : List Value → Given) (values : List Value) (first second : Value) (more : List Value) (cells : List (List Value))
    → given_singles function (ones values ++ (first ∷ second ∷ more) ∷ cells) ≡ failed Multi
several_first function values first second more cells = ap (given_arguments function) (single_front values ((first ∷ second ∷ more) ∷ cells))

-- two causes of operands, without the empty end of a list of two
pub both_sides : (node : NodeId) (left right : Valued)
    → (applied And node (left ∷ right ∷ [])).failures ≡ left.failures ++ (right.failures ++ failures_at node (multi_of left.cell ++ multi_of right.cell))
both_sides node left right =
    ap (λ these. (left.failures ++ these) ++ failures_at node (multi_of left.cell ++ (multi_of right.cell ++ []))) (append-nil right.failures)
    ∙ ap (λ these. (left.failures ++ right.failures) ++ failures_at node (multi_of left.cell ++ these)) (append-nil (multi_of right.cell))
    ∙ append_assoc left.failures right.failures (failures_at node (multi_of left.cell ++ multi_of right.cell))

silent_cells : (parts : List Valued) → cells_of (map silent (cells_of parts)) ≡ cells_of parts
silent_cells [] = refl
silent_cells (part ∷ parts) = ap (λ cells. part.cell ∷ cells) (silent_cells parts)

case_cells : (node : NodeId) (parts : List Valued) → (case_of node parts).cell ≡ (case_of node (map silent (cells_of parts))).cell
case_cells node [] = refl
case_cells node (otherwise ∷ []) = refl
case_cells node (condition ∷ part ∷ rest) =
    elim (is_met (truth_in condition.cell)) as (λ b. (if b then part else case_of node rest).cell ≡ (if b then silent part.cell else case_of node (map silent (cells_of rest))).cell)
    [ true ↦ refl | false ↦ case_cells node rest ]

coalesce_cells : (parts : List Valued) → (coalesce_of parts).cell ≡ (coalesce_of (map silent (cells_of parts))).cell
coalesce_cells [] = refl
coalesce_cells (part ∷ rest) =
    elim (is_null part.cell) as (λ b. (if b then behind part.failures (coalesce_of rest) else part).cell ≡ (if b then behind [] (coalesce_of (map silent (cells_of rest))) else silent part.cell).cell)
    [ true ↦ coalesce_cells rest | false ↦ refl ]

pub rule_cells : (rule : Rule) (node : NodeId) (parts : List Valued) → (applied_by rule node parts).cell ≡ (applied_by rule node (map silent (cells_of parts))).cell
rule_cells (singles function) node parts = ap (λ cells. (given_singles function cells).cell) (sym (silent_cells parts))
rule_cells (each function) node parts = ap (λ cells. (given_each function (first_cell cells)).cell) (sym (silent_cells parts))
rule_cells (list_and_singles function) node parts = ap (λ cells. (given_list function (first_cell cells) (later_cells cells)).cell) (sym (silent_cells parts))
rule_cells (lists function) node parts = ap (λ cells. (given_lists function cells).cell) (sym (silent_cells parts))
rule_cells (tests function) node parts = ap (λ cells. (given_one (Boolean (function (first_cell cells)))).cell) (sym (silent_cells parts))
rule_cells (logic function) node parts = ap (λ cells. (given_logic function cells).cell) (sym (silent_cells parts))
rule_cells (membership function) node parts = ap (λ cells. (given_membership function (first_cell cells) (later_cells cells)).cell) (sym (silent_cells parts))
rule_cells conditions node parts = case_cells node parts
rule_cells alternatives node parts = coalesce_cells parts

known_cell : (cell : List Value) (truth : Bool) → truth_in cell ≡ Some truth → multi_of cell ≡ []
known_cell [] truth is = refl
known_cell (value ∷ []) truth is = refl
known_cell (value ∷ next ∷ rest) truth is = cc

module _ (node : NodeId) (condition part : Valued) (rest : List Valued) where
  known : (truth : Bool) → truth_in condition.cell ≡ Some truth
      → case_of node (condition ∷ part ∷ rest) ≡ behind condition.failures (if truth then part else case_of node rest)
  known truth is =
      ap (λ these. behind (condition.failures ++ failures_at node these) (if is_met (truth_in condition.cell) then part else case_of node rest)) (known_cell condition.cell truth is)
      ∙ ap (λ these. behind (condition.failures ++ []) (if is_met these then part else case_of node rest)) is
      ∙ ap (λ failures. behind failures (if truth then part else case_of node rest)) (append-nil condition.failures)

  pub case_met : truth_in condition.cell ≡ Some true → case_of node (condition ∷ part ∷ rest) ≡ behind condition.failures part
  case_met = known true

  pub case_unmet : truth_in condition.cell ≡ Some false → case_of node (condition ∷ part ∷ rest) ≡ behind condition.failures (case_of node rest)
  case_unmet = known false
