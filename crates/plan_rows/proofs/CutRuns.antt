-- What DISSECT, GROK and ENRICH give of the patterns and of the policy of their numbers.
use Rattle.std.proofs.Common.{◌≡◌, ℕ, List, length, map, Option, Some, None, refl, ap, sym, subst, ◌∙◌}
use Rattle.std.specs.Prelude.{slice_get}
use Rattle.std.specs.List.{flat_map}
use Rattle.esql_types.specs.declared.names.ColId.{ColId}
use Rattle.esql_types.specs.declared.names.NodeId.{NodeId}
use Rattle.esql_types.specs.declared.value.Value.{Value}
use Rattle.esql_plan.specs.declared.catalog.PolicyShape.{PolicyShape}
use Rattle.esql_plan.specs.declared.step.NewColumn.{NewColumn}
use Rattle.esql_plan.specs.declared.step.Step.{Step}
use Rattle.esql_plan.specs.declared.step.Step.TheVariants.{Dissect, Grok, Enrich}
use Rattle.esql_plan.specs.Values.{NumberedRow}
use Rattle.dissect_grok.specs.declared.cutter.Cutter.{Cutter}
use Rattle.dissect_grok.specs.declared.cutter.Cutter.TheVariants as cutter
use Rattle.dissect_grok.specs.Patterns.{Reading, reading_of}
use Rattle.dissect_grok.specs.Groks.{GrokRead, grok_of}
use Rattle.enrich_match.specs.Matches.{MatchRow, matched_cell}
use Rattle.plan_semantics.specs.Laws.{AreBelow}
use Rattle.plan_semantics.specs.Tables.{CatalogHeld}
use Rattle.plan_semantics.specs.Taken.{taken_of_cell, dissected_by, grokked_by, rows_of_policy, found_if}
use Rattle.plan_semantics.specs.WellFormed.{Bounds}
use Rattle.plan_rows.specs.Kept.{kept_taken, kept_enriched, kept_rows}
use Rattle.plan_rows.specs.Runs.{CanRun, DissectRun, GrokRun, FailsBelow, TakenBelow}

grok_read : (bounds : Bounds) (number : ℕ) (pattern : List ℕ) (run : GrokRun bounds number pattern) (found : GrokRead)
    → slice_get bounds.cutters number ≡ Some (cutter.Grok found) → grok_of pattern ≡ Some found
grok_read bounds number pattern run found is =
    let both : Some (cutter.Grok run.reading) ≡ Some (cutter.Grok found) = sym run.cutter ∙ is in
    let same : run.reading ≡ found = cc in
    run.read ∙ ap Some same

module _ (held : CatalogHeld) (bounds : Bounds) (rows : List (List (List Value))) where
  pub grok_gives : (node : NodeId) (input : ColId) (number : ℕ) (pattern : List ℕ) (to : List NewColumn) (found : GrokRead) → CanRun bounds (Grok node input number pattern to)
      → slice_get bounds.cutters number ≡ Some (cutter.Grok found)
      → flat_map (kept_taken (λ count cell. taken_of_cell count (grokked_by node (Some found)) cell) input to) rows ≡ kept_rows held (Grok node input number pattern to) rows
  grok_gives node input number pattern to found run is =
      ap (λ (read : Option GrokRead). flat_map (kept_taken (λ count cell. taken_of_cell count (grokked_by node read) cell) input to) rows)
      (sym (grok_read bounds number pattern run found is))

  pub enrich_gives : (policy : ℕ) (on : ColId) (fields : List ℕ) (to : List NewColumn) (shape : PolicyShape) (found : List MatchRow)
      → slice_get held.policies policy ≡ Some shape → found ≡ rows_of_policy held.tables shape
      → flat_map (kept_enriched (λ cell. map (matched_cell found cell) fields) on to) rows ≡ kept_rows held (Enrich policy on fields to) rows
  enrich_gives policy on fields to shape found is are =
      ap (λ (these : List MatchRow). flat_map (kept_enriched (λ cell. map (matched_cell these cell) fields) on to) rows) are
      ∙ ap (λ (one : Option PolicyShape). flat_map (kept_enriched (λ cell. found_if held.tables one fields cell) on to) rows) (sym is)

pub grok_fails : (bounds : Bounds) (nodes : ℕ) (node : NodeId) (input : ColId) (number : ℕ) (pattern : List ℕ) (to : List NewColumn) (found : GrokRead) → CanRun bounds (Grok node input number pattern to)
    → slice_get bounds.cutters number ≡ Some (cutter.Grok found) → FailsBelow nodes (Grok node input number pattern to)
    → TakenBelow nodes (taken_of_cell (length to) (grokked_by node (Some found)))
grok_fails bounds nodes node input number pattern to found run is fails cell =
    subst (λ (read : Option GrokRead). AreBelow nodes (taken_of_cell (length to) (grokked_by node read) cell).failures) (grok_read bounds number pattern run found is) (fails (λ id. cell))
