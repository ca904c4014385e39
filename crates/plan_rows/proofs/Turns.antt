-- One turn of the loop over the steps of a plan.
use Rattle.std.proofs.Common.{◌≡◌, ℕ, suc, ◌+◌, ◌<◌, List, ◌∷◌, ◌++◌, length, get_or, drop, ap, sym, ◌∙◌, add-one, drop-cons}
use Rattle.esql_types.specs.declared.value.Value.{Value}
use Rattle.esql_types.specs.declared.cause.Cause.{Cause}
use Rattle.esql_types.specs.declared.cause.Failure.{Failure}
use Rattle.esql_plan.specs.declared.step.Step.{Step}
use Rattle.esql_plan.specs.Values.{NumberedRow}
use Rattle.plan_semantics.specs.Steps.{step_rows, step_failures, rows_after, failures_after}
use Rattle.plan_semantics.specs.Tables.{CatalogHeld}
use Rattle.plan_semantics.specs.WellFormed.{Bounds}
use Rattle.warn_log.specs.Logs.{logged}
use Rattle.plan_rows.specs.Kept.{rows_of, kept_rows, kept_failures}
use Rattle.plan_rows.specs.Runs.{CanRun}
use Rattle.plan_rows.proofs.KeptSteps.{rows_of-step, failures_of-step}
use Rattle.plan_rows.proofs.ListTurns.{logged-append}

next_step : (steps : List Step) (place : ℕ) (step : Step) → place < length steps → step ≡ get_or steps place step → drop place steps ≡ step ∷ drop (place + 1) steps
next_step steps place step within is =
    drop-cons steps place step within
    ∙ ap (λ first. first ∷ drop (suc place) steps) (sym is)
    ∙ ap (λ next. step ∷ drop next steps) (sym (add-one place))

module _ (held : CatalogHeld) (bounds : Bounds) (steps : List Step) (place : ℕ) (step : Step) (rows new : List (List (List Value)))
    (within : place < length steps) (is : step ≡ get_or steps place step) (run : CanRun bounds step) (made : new ≡ kept_rows held step rows) where
  new_rows : rows_of new ≡ step_rows held step (rows_of rows)
  new_rows = ap rows_of made ∙ rows_of-step held bounds step run rows

  pub rows_turn : rows_after held (drop (place + 1) steps) (rows_of new) ≡ rows_after held (drop place steps) (rows_of rows)
  rows_turn =
      ap (rows_after held (drop (place + 1) steps)) new_rows
      ∙ ap (λ (these : List Step). rows_after held these (rows_of rows)) (sym (next_step steps place step within is))

  pub log_turn : (before after : List (List Cause)) → after ≡ logged before (kept_failures step rows)
      → logged after (failures_after held (drop (place + 1) steps) (rows_of new)) ≡ logged before (failures_after held (drop place steps) (rows_of rows))
  log_turn before after noted =
      ap (λ (log : List (List Cause)). logged log (failures_after held (drop (place + 1) steps) (rows_of new))) noted
      ∙ ap (λ (these : List NumberedRow). logged (logged before (kept_failures step rows)) (failures_after held (drop (place + 1) steps) these)) new_rows
      ∙ ap (λ (these : List Failure). logged (logged before these) (failures_after held (drop (place + 1) steps) (step_rows held step (rows_of rows)))) (failures_of-step step rows)
      ∙ logged-append before (step_failures step (rows_of rows)) (failures_after held (drop (place + 1) steps) (step_rows held step (rows_of rows)))
      ∙ ap (λ (these : List Step). logged before (failures_after held these (rows_of rows))) (sym (next_step steps place step within is))
