-- What is orderly in an orderly plan.
use Rattle.std.proofs.Common.{◌≤◌, List, [], ◌∷◌, ◌++◌, ap, arith}
use Rattle.std.specs.List.{flat_map}
use Rattle.std.proofs.lemmas.List.{map-append}
use Rattle.esql_types.specs.declared.names.ColId.{ColId}
use Rattle.esql_types.specs.declared.names.NodeId.{NodeId}
use Rattle.esql_plan.specs.declared.typed.TypedExpr.{TypedExpr}
use Rattle.esql_plan.specs.declared.step.Step.{Step}
use Rattle.esql_plan.specs.declared.step.Step.TheVariants.{Eval, Filter}
use Rattle.esql_plan.specs.Values.{NumberedRow}
use Rattle.plan_semantics.specs.Steps.{step_rows, rows_after}
use Rattle.plan_semantics.specs.Parts.{FalliblePart, parted, condition_part, over_rows, step_parts, parts_after, fails_at, count_of, AreOrderly, IsExprOrderly}
use Rattle.plan_semantics.proofs.Transposed.{count_of-append}
use Rattle.plan_semantics.specs.Tables.{CatalogHeld}

-- the steps behind the first of steps that are orderly
pub orderly_later : (held : CatalogHeld) → (step : Step) (steps : List Step) (rows : List NumberedRow) → AreOrderly held (step ∷ steps) rows → AreOrderly held steps (step_rows held step rows)
orderly_later held step steps rows orderly node = omega (arith, orderly node, count_of-append (fails_at node) (step_parts step rows) (parts_after held steps (step_rows held step rows)))

-- the first of steps that are orderly
pub orderly_first : (held : CatalogHeld) → (step : Step) (steps : List Step) (rows : List NumberedRow) → AreOrderly held (step ∷ steps) rows
    → (node : NodeId) → count_of (fails_at node) (step_parts step rows) ≤ 1
orderly_first held step steps rows orderly node = omega (arith, orderly node, count_of-append (fails_at node) (step_parts step rows) (parts_after held steps (step_rows held step rows)))

pub orderly_behind : (held : CatalogHeld) → (these those : List Step) (rows : List NumberedRow) → AreOrderly held (these ++ those) rows → AreOrderly held those (rows_after held these rows)
orderly_behind held [] those rows orderly = orderly
orderly_behind held (step ∷ these) those rows orderly = orderly_behind held these those (step_rows held step rows) (orderly_later held step (these ++ those) rows orderly)

-- the expressions of the first step
pub orderly_eval : (held : CatalogHeld) → (to : ColId) (expr : TypedExpr) (steps : List Step) (rows : List NumberedRow) → AreOrderly held (Eval to expr ∷ steps) rows → IsExprOrderly expr rows
orderly_eval held to expr steps rows orderly = orderly_first held (Eval to expr) steps rows orderly

pub orderly_condition : (held : CatalogHeld) → (own : NodeId) (condition : TypedExpr) (steps : List Step) (rows : List NumberedRow) → AreOrderly held (Filter own condition ∷ steps) rows → IsExprOrderly condition rows
orderly_condition held own condition steps rows orderly node =
    omega (
      arith,
      orderly_first held (Filter own condition) steps rows orderly node,
      ap (count_of (fails_at node)) (map-append (λ (part : FalliblePart). flat_map part rows) (parted condition).parts (condition_part own condition ∷ [])),
      count_of-append (fails_at node) (over_rows (parted condition).parts rows) (over_rows (condition_part own condition ∷ []) rows),
    )
