use Rattle.std.proofs.Common.{◌∙◌, ap, sym, subst, length}
use Rattle.plan_semantics.specs.Laws.{AreBelow}
use Rattle.warn_log.specs.Logs.{logged}
use Rattle.plan_rows.specs.Kept.{rows_of}
use Rattle.plan_rows.proofs.StatsRows.{rows_given, failures_given}
use Rattle.plan_rows.proofs.stats.stats_rows.Goals as goal

pub note_failures-requires : goal.note_failures-requires
note_failures-requires c =
    let aggregates = c.args.aggregates.now in
    let groups = c.args.groups.now in
    let same = c.in_ok-grouped.ensures in
    subst (AreBelow (length c.args.log.now))
    (sym (failures_given aggregates groups c.args.rows c.new-failures.result c.finish.new.failures c.in_ok-grouped.grouped same c.new-failures.ensures c.in_ok-rows.ensures.failures))
    (c.requires (rows_of c.args.rows))

pub returns-clause-rows : goal.returns-clause-rows
returns-clause-rows c =
    rows_given c.args.aggregates.now c.args.groups.now c.args.rows c.in_ok-rows.rows c.in_ok-grouped.grouped c.in_ok-grouped.ensures c.in_ok-rows.ensures.rows

pub returns-clause-log : goal.returns-clause-log
returns-clause-log c =
    let aggregates = c.args.aggregates.now in
    let groups = c.args.groups.now in
    let same = c.in_ok-grouped.ensures in
    c.note_failures.ensures.log
    ∙ ap (logged c.args.log.now) (failures_given aggregates groups c.args.rows c.new-failures.result c.finish.new.failures c.in_ok-grouped.grouped same c.new-failures.ensures c.in_ok-rows.ensures.failures)
