use Rattle.std.proofs.Common.{◌+◌, List, IfErr, Result, ap, sym, subst, ◌∙◌, arith}
use Rattle.esql_plan.specs.declared.plan.OutColumn.{OutColumn}
use Rattle.query_semantics.specs.Writings.{Writing}
use Rattle.query_semantics.specs.WrittenStats.{write_stats_fields, put_groups}
use Rattle.expression_analysis.specs.declared.error.AnalyzeError.{AnalyzeError}
use Rattle.stats_writing.specs.declared.stats_inputs.GroupInput.{GroupInput}
use Rattle.plan_writing.specs.declared.writing.Writing.{Writing as Made}
use Rattle.stats_writing.specs.Parts.{OneIsRefused, judged_fields}
use Rattle.stats_writing.specs.StatsSeen.{groups_seen}
use Rattle.plan_writing.specs.Writings.{seen}
use Rattle.plan_writing.proofs.Turns.{err_is}
use Rattle.stats_writing.proofs.stats.write_behind.Goals as goal

pub write_fields-requires-clause-few : goal.write_fields-requires-clause-few
write_fields-requires-clause-few g c = omega (arith, c.requires.calls, c.requires.few)

pub returns-in_err-writing-clause-refusal : goal.returns-in_err-writing-clause-refusal
returns-in_err-writing-clause-refusal g c =
    let fields = c.args.fields.now in
    let grouped = c.args.grouped in
    let error = c.in_err-writing.field-0.0 in
    let refused = c.in_err-writing.ensures.refusal in
    subst (λ (result : Result Made AnalyzeError). IfErr result (OneIsRefused (judged_fields grouped.before fields))) (sym (err_is c.from_residual.result error c.from_residual.ensures.1)) refused

pub returns-clause-written : goal.returns-clause-written
returns-clause-written g c =
    let text = c.args.text.now in
    let grouped = c.args.grouped in
    let fields = c.args.fields.now in
    let groups = c.args.groups.now in
    let written = c.in_ok-writing.ensures.written in
    let visible = c.in_ok-visible.ensures ∙ ap (λ (inputs : List GroupInput). put_groups text (grouped.first + grouped.calls) groups (groups_seen inputs) c.in_ok-writing.writing.visible) c.as_slice.ensures in
    (λ i. record (seen c.in_ok-writing.writing) { visible = visible i })
    ∙ ap (λ (writing : Writing). record writing { visible = put_groups text (grouped.first + grouped.calls) groups (groups_seen grouped.groups) writing.visible }) written
