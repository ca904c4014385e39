use Rattle.std.proofs.Common.{◌≡◌, [], map, Some, List, OnOk, Result, Ok, Err, sym, ap, refl, subst, ◌∙◌, length}
use Rattle.esql_types.specs.declared.cause.Failure.{Failure}
use Rattle.esql_plan.specs.declared.step.Step.{Step}
use Rattle.esql_plan.specs.declared.step.Step.TheVariants.{Expand, Sort, TopN, Limit}
use Rattle.warn_log.specs.Logs.{logged}
use Rattle.plan_rows.specs.Kept.{kept_failures}
use Rattle.plan_rows.specs.Runs.{FailsBelow}
use Rattle.plan_rows.proofs.KeptSteps.{no_failures}
use Rattle.std.proofs.lemmas.Result.{IfOk-weaker}
use Rattle.std.specs.List.{flat_map}
use Rattle.esql_types.specs.declared.value.Value.{Value}
use Rattle.esql_plan.specs.declared.step.NewColumn.{NewColumn}
use Rattle.enrich_match.specs.Matches.{matched_cell}
use Rattle.plan_semantics.specs.Taken.{taken_of_cell, grokked_by}
use Rattle.plan_rows.specs.Kept.{kept_taken, kept_enriched, kept_rows}
use Rattle.plan_rows.specs.Runs.{CanRun, TakenBelow}
use Rattle.plan_rows.specs.Settings.{bounds_over, held_by}
use Rattle.plan_rows.proofs.CutRuns.{grok_gives, grok_fails, enrich_gives}
use Rattle.plan_rows.proofs.run.run_step.Goals as goal

known : {Value Error P : Type 0} (result : Result Value Error) → P → OnOk result P
known (Ok value) holds = holds
known (Err error) holds = tt

pub eval_rows-requires-clause-fails : goal.eval_rows-requires-clause-fails
eval_rows-requires-clause-fails c = subst (FailsBelow (length c.args.log.now)) c.in-Eval.is c.requires.fails

pub filter_rows-requires-clause-fails : goal.filter_rows-requires-clause-fails
filter_rows-requires-clause-fails c = subst (FailsBelow (length c.args.log.now)) c.in-Filter.is c.requires.fails

pub returns-in-Expand-clause-log : goal.returns-in-Expand-clause-log
returns-in-Expand-clause-log c =
    known c.expand_rows.result
    (ap (λ (failures : List Failure). logged c.args.log.now failures)
    (sym (ap (λ (step : Step). kept_failures step c.args.rows) c.in-Expand.is ∙ no_failures (λ row. []) (λ row. refl) c.args.rows)))

pub returns-in-Sort-clause-log : goal.returns-in-Sort-clause-log
returns-in-Sort-clause-log c =
    known c.sort_rows.result
    (ap (λ (failures : List Failure). logged c.args.log.now failures)
    (sym (ap (λ (step : Step). kept_failures step c.args.rows) c.in-Sort.is ∙ no_failures (λ row. []) (λ row. refl) c.args.rows)))

pub returns-in_ok-sorted-in-TopN-clause-log : goal.returns-in_ok-sorted-in-TopN-clause-log
returns-in_ok-sorted-in-TopN-clause-log c =
    ap (λ (failures : List Failure). logged c.args.log.now failures)
    (sym (ap (λ (step : Step). kept_failures step c.args.rows) c.in-TopN.is ∙ no_failures (λ row. []) (λ row. refl) c.args.rows))

pub returns-in-Limit-clause-log : goal.returns-in-Limit-clause-log
returns-in-Limit-clause-log c =
    ap (λ (failures : List Failure). logged c.args.log.now failures)
    (sym (ap (λ (step : Step). kept_failures step c.args.rows) c.in-Limit.is ∙ no_failures (λ row. []) (λ row. refl) c.args.rows))

pub returns-in-Dissect-clause-log : goal.returns-in-Dissect-clause-log
returns-in-Dissect-clause-log c =
    known c.dissect_rows.result
    (ap (λ (failures : List Failure). logged c.args.log.now failures)
    (sym (ap (λ (step : Step). kept_failures step c.args.rows) c.in-Dissect.is ∙ no_failures (λ row. []) (λ row. refl) c.args.rows)))

pub grok_rows-requires : goal.grok_rows-requires
grok_rows-requires c =
    let own = c.in-Grok in
    subst (λ (to : List NewColumn). TakenBelow (length c.args.log.now) (taken_of_cell (length to) (grokked_by own.node (Some c.grok_at-grok.result.now)))) (sym c.as_slice-to.ensures)
    (grok_fails (bounds_over c.args.setting) (length c.args.log.now) own.node own.input own.cutter own.pattern own.to c.grok_at-grok.result.now
    (subst (CanRun (bounds_over c.args.setting)) own.is c.requires.run) c.grok_at-grok.ensures (subst (FailsBelow (length c.args.log.now)) own.is c.requires.fails))

pub returns-in-Grok-clause-rows : goal.returns-in-Grok-clause-rows
returns-in-Grok-clause-rows c =
    let own = c.in-Grok in
    let held = held_by c.args.setting in
    let found = c.grok_at-grok.result.now in
    IfOk-weaker c.grok_rows.result
    (λ new. new ≡ flat_map (kept_taken (λ count cell. taken_of_cell count (grokked_by own.node (Some found)) cell) own.input c.as_slice-to.result.now) c.args.rows)
    (λ new. new ≡ kept_rows held c.args.step.now c.args.rows)
    (λ new is. is
    ∙ ap (λ to. flat_map (kept_taken (λ count cell. taken_of_cell count (grokked_by own.node (Some found)) cell) own.input to) c.args.rows) c.as_slice-to.ensures
    ∙ grok_gives held (bounds_over c.args.setting) c.args.rows own.node own.input own.cutter own.pattern own.to found
    (subst (CanRun (bounds_over c.args.setting)) own.is c.requires.run) c.grok_at-grok.ensures
    ∙ ap (λ (step : Step). kept_rows held step c.args.rows) (sym own.is))
    c.grok_rows.ensures.rows

pub returns-in_ok-lookup-in-Enrich-clause-rows : goal.returns-in_ok-lookup-in-Enrich-clause-rows
returns-in_ok-lookup-in-Enrich-clause-rows c =
    let own = c.in-Enrich in
    let held = held_by c.args.setting in
    let found = c.in_ok-lookup-in-Enrich.lookup.rows in
    IfOk-weaker c.enrich_rows.result
    (λ new. new ≡ flat_map (kept_enriched (λ cell. map (matched_cell found cell) c.as_slice-fields.result.now) own.on c.as_slice-in-Enrich.result.now) c.args.rows)
    (λ new. new ≡ kept_rows held c.args.step.now c.args.rows)
    (λ new is. is
    ∙ ap (λ fields. flat_map (kept_enriched (λ cell. map (matched_cell found cell) fields) own.on c.as_slice-in-Enrich.result.now) c.args.rows) c.as_slice-fields.ensures
    ∙ ap (λ to. flat_map (kept_enriched (λ cell. map (matched_cell found cell) own.fields) own.on to) c.args.rows) c.as_slice-in-Enrich.ensures
    ∙ enrich_gives held (bounds_over c.args.setting) c.args.rows own.policy own.on own.fields own.to c.policy_at-policy.result.now found
    c.policy_at-policy.ensures c.in_ok-lookup-in-Enrich.ensures
    ∙ ap (λ (step : Step). kept_rows held step c.args.rows) (sym own.is))
    c.enrich_rows.ensures

pub returns-in_ok-lookup-in-Enrich-clause-log : goal.returns-in_ok-lookup-in-Enrich-clause-log
returns-in_ok-lookup-in-Enrich-clause-log c =
    known c.enrich_rows.result
    (ap (λ (failures : List Failure). logged c.args.log.now failures)
    (sym (ap (λ (step : Step). kept_failures step c.args.rows) c.in-Enrich.is ∙ no_failures (λ row. []) (λ row. refl) c.args.rows)))
