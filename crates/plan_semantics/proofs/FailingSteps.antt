-- Steps fail as their parts do.
use Rattle.std.proofs.Common.{◌≡◌, ℕ, ◌+◌, ◌≤◌, length, List, [], ◌∷◌, ◌++◌, refl, ap, sym, ◌∙◌, arith}
use Rattle.std.specs.List.{flat_map}
use Rattle.std.proofs.lemmas.List.{append-nil, map-append}
use Rattle.std.proofs.lemmas.Grind.{flat_map-append}
use Rattle.std.proofs.lemmas.List.Folds.{flat_map-map}
use Rattle.esql_types.specs.declared.cause.Failure.{Failure}
use Rattle.esql_types.specs.declared.names.NodeId.{NodeId}
use Rattle.esql_plan.specs.declared.typed.TypedExpr.{TypedExpr}
use Rattle.esql_plan.specs.declared.step.Aggregate.{Aggregate}
use Rattle.esql_plan.specs.declared.step.Step.{Step}
use Rattle.esql_plan.specs.declared.step.Step.TheVariants.{Eval, Filter, Sort, TopN, Limit, Expand, Stats, Dissect, Grok, Enrich}
use Rattle.esql_plan.specs.Values.{NumberedRow, value_of_typed}
use Rattle.plan_semantics.specs.Groups.{Key, Entry, keys_of_groups, entries_of_key, aggregates_from, aggregates_at, failures_given}
use Rattle.plan_semantics.specs.Stats.{entries_of}
use Rattle.plan_semantics.specs.Steps.{step_rows, step_fails, step_failures, failures_after}
use Rattle.plan_semantics.specs.Agrees.{causes_at}
use Rattle.plan_semantics.specs.Parts.{FalliblePart, parted, fails_in, over_rows, condition_part, aggregate_part, grok_part, aggregate_parts, step_parts, parts_after, fails_at, count_of}
use Rattle.plan_semantics.proofs.Transposed.{count_of-append, causes-append, on, by_rows, by_parts, alike_over, same_at}
use Rattle.plan_semantics.proofs.Failing.{failures_by_parts}
use Rattle.plan_semantics.specs.Tables.{CatalogHeld}

module _ (node : NodeId) where
  -- an expression over rows, row by row and part by part
  pub expr_by_rows : (expr : TypedExpr) (rows : List NumberedRow) → count_of (fails_at node) (over_rows (parted expr).parts rows) ≤ 1
      → causes_at node (flat_map (λ (row : NumberedRow). (value_of_typed expr row).failures) rows) ≡ causes_at node (by_rows (parted expr).parts rows)
  expr_by_rows expr rows once = alike_over node (λ (row : NumberedRow). (value_of_typed expr row).failures) (parted expr).parts (λ row. failures_by_parts node row expr) rows once

  pub expr_by_parts : (expr : TypedExpr) (rows : List NumberedRow) → count_of (fails_at node) (over_rows (parted expr).parts rows) ≤ 1
      → causes_at node (flat_map (λ (row : NumberedRow). (value_of_typed expr row).failures) rows) ≡ causes_at node (by_parts (parted expr).parts rows)
  expr_by_parts expr rows once = expr_by_rows expr rows once ∙ same_at node (parted expr).parts rows once

  condition_alike : (own : NodeId) (condition : TypedExpr) (row : NumberedRow) → count_of (fails_at node) (on ((parted condition).parts ++ condition_part own condition ∷ []) row) ≤ 1
      → causes_at node (step_fails (Filter own condition) row) ≡ causes_at node (fails_in ((parted condition).parts ++ condition_part own condition ∷ []) row)
  condition_alike own condition row once =
      let split =
      ap (count_of (fails_at node)) (map-append (λ (part : FalliblePart). part row) (parted condition).parts (condition_part own condition ∷ []))
      ∙ count_of-append (fails_at node) (on (parted condition).parts row) (on (condition_part own condition ∷ []) row) in
      causes-append node (value_of_typed condition row).failures (condition_part own condition row)
      ∙ (λ i. failures_by_parts node row condition (omega (arith, split, once)) i ++ causes_at node (sym (append-nil (condition_part own condition row)) i))
      ∙ sym (causes-append node (fails_in (parted condition).parts row) (condition_part own condition row ++ []))
      ∙ ap (causes_at node) (sym (flat_map-append (λ (part : FalliblePart). part row) (parted condition).parts (condition_part own condition ∷ [])))

  -- the failures of parts, one part after another
  abbrev pub one_by_one : List (List Failure) → List Failure
  one_by_one parts = flat_map (λ (these : List Failure). these) parts

  -- what fails at the node on each row as parts do fails over all rows as the parts do, one after another
  over_alike : {Row : Type 0} (of : Row → List Failure) (parts : List (Row → List Failure))
      → ((row : Row) → count_of (fails_at node) (on parts row) ≤ 1 → causes_at node (of row) ≡ causes_at node (flat_map (λ part. part row) parts))
      → (rows : List Row) → count_of (fails_at node) (over_rows parts rows) ≤ 1 → causes_at node (flat_map of rows) ≡ causes_at node (one_by_one (over_rows parts rows))
  over_alike {Row} of parts alike rows once =
      alike_over node of parts alike rows once
      ∙ same_at node parts rows once
      ∙ ap (causes_at node) (sym (flat_map-map (λ (these : List Failure). these) (λ (part : Row → List Failure). flat_map part rows) parts))

  -- the aggregates of a group fail as their parts do
  given_by_parts : (place : ℕ) (aggregates : List Aggregate) (entries : List Entry) (key : Key)
      → failures_given aggregates (aggregates_from place aggregates (entries_of_key key entries)) ≡ flat_map (λ part. part key) (aggregate_parts place aggregates entries)
  given_by_parts place [] entries key = refl
  given_by_parts place (aggregate ∷ aggregates) entries key =
      ap (λ (rest : List Failure). aggregate_part place aggregate entries key ++ rest) (given_by_parts (place + 1) aggregates entries key)

  pub step_by_parts : (step : Step) (rows : List NumberedRow) → count_of (fails_at node) (step_parts step rows) ≤ 1
      → causes_at node (step_failures step rows) ≡ causes_at node (one_by_one (step_parts step rows))
  step_by_parts (Eval to expr) rows once = over_alike (step_fails (Eval to expr)) (parted expr).parts (λ row. failures_by_parts node row expr) rows once
  step_by_parts (Filter own condition) rows once =
      over_alike (step_fails (Filter own condition)) ((parted condition).parts ++ condition_part own condition ∷ []) (condition_alike own condition) rows once
  step_by_parts (Expand id to) rows once = over_alike (step_fails (Expand id to)) [] (λ row none. refl) rows once
  step_by_parts (Sort keys) rows once = over_alike (step_fails (Sort keys)) [] (λ row none. refl) rows once
  step_by_parts (TopN keys count) rows once = over_alike (step_fails (TopN keys count)) [] (λ row none. refl) rows once
  step_by_parts (Limit count) rows once = over_alike (step_fails (Limit count)) [] (λ row none. refl) rows once
  step_by_parts (Stats aggregates groups) rows once =
      let entries : List Entry = entries_of aggregates groups rows in
      over_alike (λ (key : Key). failures_given aggregates (aggregates_at aggregates entries key)) (aggregate_parts 0 aggregates entries)
      (λ key none. ap (causes_at node) (given_by_parts 0 aggregates entries key)) (keys_of_groups (length groups) entries) once
  step_by_parts (Dissect own input cutter pattern separator to) rows once = over_alike (step_fails (Dissect own input cutter pattern separator to)) [] (λ row none. refl) rows once
  step_by_parts (Grok own input cutter pattern to) rows once =
      over_alike (step_fails (Grok own input cutter pattern to)) (grok_part own input pattern (length to) ∷ [])
      (λ row alone. ap (causes_at node) (sym (append-nil (step_fails (Grok own input cutter pattern to) row)))) rows once
  step_by_parts (Enrich policy on fields to) rows once = over_alike (step_fails (Enrich policy on fields to)) [] (λ row none. refl) rows once

  pub steps_by_parts : (held : CatalogHeld) → (steps : List Step) (rows : List NumberedRow) → count_of (fails_at node) (parts_after held steps rows) ≤ 1
      → causes_at node (failures_after held steps rows) ≡ causes_at node (one_by_one (parts_after held steps rows))
  steps_by_parts held [] rows once = refl
  steps_by_parts held (step ∷ steps) rows once =
      let split = count_of-append (fails_at node) (step_parts step rows) (parts_after held steps (step_rows held step rows)) in
      causes-append node (step_failures step rows) (failures_after held steps (step_rows held step rows))
      ∙ (λ i. step_by_parts step rows (omega (arith, split, once)) i ++ steps_by_parts held steps (step_rows held step rows) (omega (arith, split, once)) i)
      ∙ sym (causes-append node (one_by_one (step_parts step rows)) (one_by_one (parts_after held steps (step_rows held step rows))))
      ∙ ap (causes_at node) (sym (flat_map-append (λ (these : List Failure). these) (step_parts step rows) (parts_after held steps (step_rows held step rows))))
