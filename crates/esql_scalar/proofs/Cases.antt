-- The parts of a CASE in turn.
use Rattle.std.proofs.Common.{◌≡◌, ◌≢◌, ℕ, suc, ◌+◌, ◌-◌, ◌<◌, Bool, true, false, List, [], ◌∷◌, ◌++◌, drop, get_or, length, refl, ap, sym, ◌∙◌, arith, append_assoc, add-one, drop-cons, length-drop}
use Rattle.esql_types.specs.declared.cause.Failure.{Failure}
use Rattle.esql_types.specs.declared.names.NodeId.{NodeId}
use Rattle.esql_plan.specs.declared.typed.TypedExpr.{TypedExpr}
use Rattle.esql_plan.specs.Rules.{truth_in, multi_of}
use Rattle.esql_plan.specs.Values.{NumberedRow, Valued, value_of_typed, behind, failures_at, is_met, case_of}
use Rattle.esql_scalar.specs.declared.expression.CaseTurn.TheVariants.{Condition, Passed}
use Rattle.esql_scalar.specs.Rows.{values_of}
use Rattle.esql_scalar.specs.Turns.{turn_after, case_at}

-- the values from a place on are that of the expression there, then those behind it
pub values_next : (args : List TypedExpr) (place : ℕ) (arg : TypedExpr) (row : NumberedRow) → place < length args → arg ≡ get_or args place arg
    → values_of (drop place args) row ≡ value_of_typed arg row ∷ values_of (drop (place + 1) args) row
values_next args place arg row within is =
    ap (λ rest. values_of rest row) (drop-cons args place arg within)
    ∙ ap (λ first. value_of_typed first row ∷ values_of (drop (suc place) args) row) (sym is)
    ∙ ap (λ next. value_of_typed arg row ∷ values_of (drop next args) row) (sym (add-one place))

pub values_left : (args : List TypedExpr) (place : ℕ) (row : NumberedRow) → place < length args → place ≢ length args - 1 → 0 < length (values_of (drop (place + 1) args) row)
values_left args place row within other = some (drop (place + 1) args) (omega (arith, length-drop (place + 1) args)) where
  some : (rest : List TypedExpr) → 0 < length rest → 0 < length (values_of rest row)
  some [] more = more
  some (first ∷ rest) more = omega arith

-- the part of a condition that is not met is passed
pub passed : (node : NodeId) (parts next : List Valued) (part : Valued) → parts ≡ part ∷ next → case_at Passed node parts ≡ case_at Condition node next
passed node parts next part is = ap (case_at Passed node) is

turned : (node : NodeId) (met : Bool) (part second : Valued) (rest : List Valued) → is_met (truth_in part.cell) ≡ met
    → case_of node (part ∷ second ∷ rest) ≡ behind (part.failures ++ failures_at node (multi_of part.cell)) (case_at (turn_after met) node (second ∷ rest))
turned node true part second rest is = rw is refl
turned node false part second rest is = rw is refl

-- a condition tells what stands behind it
pub condition_turned : (node : NodeId) (parts next : List Valued) (part : Valued) → parts ≡ part ∷ next → 0 < length next
    → case_at Condition node parts ≡ behind (part.failures ++ failures_at node (multi_of part.cell)) (case_at (turn_after (is_met (truth_in part.cell))) node next)
condition_turned node parts [] part is some = absurd (let none : 0 < 0 = some in omega arith)
condition_turned node parts (second ∷ rest) part is some = ap (case_at Condition node) is ∙ turned node (is_met (truth_in part.cell)) part second rest refl

pub regrouped : (before first own rest : List Failure) → before ++ ((first ++ own) ++ rest) ≡ ((before ++ first) ++ own) ++ rest
regrouped before first own rest = simp append_assoc
