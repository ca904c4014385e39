use Rattle.std.proofs.Common.{◌∙◌, ap, subst}
use Rattle.plan_semantics.specs.Plans.{columns_of, plan_means}
use Rattle.plan_rows.specs.Held.{tables_held}
use Rattle.warn_log.specs.Logs.{LogStands}
use Rattle.esql_answer.specs.Prepared.{PreparedSeen}
use Rattle.esql_answer.proofs.Plans.{opened_stands, shown_wide}
use Rattle.esql_answer.proofs.answering.answer.Goals as goal

pub returns-clause-log : goal.returns-clause-log
returns-clause-log c =
    let prepared = c.prepared.inside in
    subst (λ (seen : PreparedSeen). LogStands c.run_plan.new.log (plan_means seen.plan (tables_held seen.catalog c.args.tables.now)).failures) c.prepared.view_is
    (opened_stands prepared.catalog prepared.patterns.whole prepared.patterns.free prepared.cutters prepared.plan (tables_held prepared.catalog c.args.tables.now) c.in_ok-log.log c.run_plan.new.log c.prepared.invariant
    c.in_ok-log.ensures c.in_ok-rows.ensures.log c.plans_fail_below.ensures c.stands_for_its_failures.ensures)

pub returns-clause-wide : goal.returns-clause-wide
returns-clause-wide c =
    shown_wide c.prepared.inside.plan.output c.in_ok-columns.columns _ c.in_ok-rows.rows (c.in_ok-columns.ensures ∙ ap columns_of c.as_slice-2.ensures) c.in_ok-rows.ensures.rows
