-- Steps one after another.
use Rattle.std.proofs.Common.{◌≡◌, List, [], ◌∷◌, ◌++◌, refl, ap, sym, ◌∙◌, append_assoc}
use Rattle.esql_plan.specs.declared.step.Step.{Step}
use Rattle.esql_plan.specs.Values.{NumberedRow}
use Rattle.plan_semantics.specs.Steps.{step_rows, step_failures, rows_after, failures_after}
use Rattle.plan_semantics.specs.Parts.{step_parts, parts_after}
use Rattle.plan_semantics.specs.Tables.{CatalogHeld}

pub rows_after-append : (held : CatalogHeld) → (these those : List Step) (rows : List NumberedRow) → rows_after held (these ++ those) rows ≡ rows_after held those (rows_after held these rows)
rows_after-append held [] those rows = refl
rows_after-append held (step ∷ these) those rows = rows_after-append held these those (step_rows held step rows)

pub failures_after-append : (held : CatalogHeld) → (these those : List Step) (rows : List NumberedRow)
    → failures_after held (these ++ those) rows ≡ failures_after held these rows ++ failures_after held those (rows_after held these rows)
failures_after-append held [] those rows = refl
failures_after-append held (step ∷ these) those rows =
    ap (λ rest. step_failures step rows ++ rest) (failures_after-append held these those (step_rows held step rows))
    ∙ sym (append_assoc (step_failures step rows) (failures_after held these (step_rows held step rows)) (failures_after held those (rows_after held these (step_rows held step rows))))

pub parts_after-append : (held : CatalogHeld) → (these those : List Step) (rows : List NumberedRow)
    → parts_after held (these ++ those) rows ≡ parts_after held these rows ++ parts_after held those (rows_after held these rows)
parts_after-append held [] those rows = refl
parts_after-append held (step ∷ these) those rows =
    ap (λ rest. step_parts step rows ++ rest) (parts_after-append held these those (step_rows held step rows))
    ∙ sym (append_assoc (step_parts step rows) (parts_after held these (step_rows held step rows)) (parts_after held those (rows_after held these (step_rows held step rows))))
