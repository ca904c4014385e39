use Rattle.std.proofs.Common.{◌≡◌, sym, ap, subst, All, length}
use Rattle.esql_plan.specs.declared.step.Step.{Step}
use Rattle.plan_semantics.specs.WellFormed.{bounds_of, source_made}
use Rattle.plan_rows.specs.Runs.{CanRun, FailsBelow, StatsFailBelow}
use Rattle.plan_rows.proofs.KeptSteps.{unnumbered, all_run, all_run_anyway, all_below, all_groups_below}
use Rattle.plan_rows.proofs.run.run_plan.Goals as goal

pub run_steps-requires-clause-run : goal.run_steps-requires-clause-run
run_steps-requires-clause-run c =
    let bounds = bounds_of c.args.catalog.now c.args.patterns.now.whole c.args.patterns.now.free c.args.cutters.now c.args.plan.now in
    subst (All (CanRun (unnumbered bounds))) (sym c.as_slice-steps.ensures)
    (all_run_anyway bounds c.args.plan.now.steps (all_run bounds c.args.plan.now.output (source_made c.args.plan.now.source) c.args.plan.now.steps c.requires.formed.steps))

pub run_steps-requires-clause-fails : goal.run_steps-requires-clause-fails
run_steps-requires-clause-fails c =
    subst (All (FailsBelow (length c.args.log.now))) (sym c.as_slice-steps.ensures)
    (all_below (bounds_of c.args.catalog.now c.args.patterns.now.whole c.args.patterns.now.free c.args.cutters.now c.args.plan.now) c.args.plan.now.output (source_made c.args.plan.now.source) c.args.plan.now.steps
    (length c.args.log.now) c.requires.log c.requires.formed.steps)

pub run_steps-requires-clause-stats : goal.run_steps-requires-clause-stats
run_steps-requires-clause-stats c =
    subst (All (StatsFailBelow (length c.args.log.now))) (sym c.as_slice-steps.ensures)
    (all_groups_below (bounds_of c.args.catalog.now c.args.patterns.now.whole c.args.patterns.now.free c.args.cutters.now c.args.plan.now) c.args.plan.now.output (source_made c.args.plan.now.source) c.args.plan.now.steps
    (length c.args.log.now) c.requires.log c.requires.formed.steps)
