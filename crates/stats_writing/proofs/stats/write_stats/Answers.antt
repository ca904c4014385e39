use Rattle.std.proofs.Common.{◌≡◌, List, ◌++◌, IfOk, Result, sym, subst, ◌∙◌}
use Rattle.std.specs.List.{flat_map}
use Rattle.esql_plan.specs.declared.plan.OutColumn.{OutColumn}
use Rattle.plan_semantics.specs.Plans.{columns_of}
use Rattle.row_semantics.specs.Regulars.{is_accepted}
use Rattle.query_semantics.specs.StatsShapes.{shape_of_stats}
use Rattle.query_semantics.specs.Writings.{Writing}
use Rattle.query_semantics.specs.WrittenStats.{write_stats}
use Rattle.expression_analysis.specs.declared.error.AnalyzeError.{AnalyzeError}
use Rattle.expression_analysis.specs.Answers.{IsRefusal}
use Rattle.plan_writing.specs.declared.writing.Writing.{Writing as Made}
use Rattle.plan_writing.specs.Answers.{Writes, Hears}
use Rattle.stats_writing.specs.Parts.{HasValue, OneIsRefused, judged_groups, regulars_before}
use Rattle.plan_writing.specs.Regulars.{regulars_of_field, regulars_of_stats}
use Rattle.plan_writing.specs.Writings.{seen}
use Rattle.stats_writing.proofs.CallsRegulars.{within_then}
use Rattle.plan_writing.proofs.Heard.{heard_more, hears_more, untouched_more, within_front, within_back}
use Rattle.stats_writing.proofs.StatsJudged.{stats_have, before_refused, groups_refused, before_within}
use Rattle.stats_writing.proofs.StatsWrites.{stats_made, few_fields, few_groups, fields_have_room, groups_have_room, numbers_have_room, fields_have_room_behind, calls_stand, groups_stand, few_behind, behind_is, stats_writes}
use Rattle.plan_writing.proofs.Turns.{err_is}
use Rattle.stats_writing.proofs.stats.write_stats.Goals as goal

pub judge-requires-clause-fields : goal.judge-requires-clause-fields
judge-requires-clause-fields g c = few_fields c.args.fields.now c.args.groups.now c.args.writing c.requires.room

pub judge-requires-clause-groups : goal.judge-requires-clause-groups
judge-requires-clause-groups g c = few_groups c.args.fields.now c.args.groups.now c.args.writing c.requires.room

pub returns-in_err-judge-clause-writes : goal.returns-in_err-judge-clause-writes
returns-in_err-judge-clause-writes g c =
    let text = c.args.text.now in
    let fields = c.args.fields.now in
    let groups = c.args.groups.now in
    let old = c.args.writing in
    let error = c.in_err-judge.field-0.0 in
    subst (λ (result : Result Made AnalyzeError). Writes (λ accepts. shape_of_stats text accepts fields groups (columns_of old.visible)) (write_stats text fields groups (seen old)) result)
    (sym (err_is c.from_residual.result error c.from_residual.ensures.1))
    (c.in_err-judge.ensures.refusal text)

pub write_all_before-requires : goal.write_all_before-requires
write_all_before-requires g c = fields_have_room c.args.fields.now c.args.groups.now c.args.writing c.requires.room

pub returns-in_err-made-clause-writes : goal.returns-in_err-made-clause-writes
returns-in_err-made-clause-writes g c =
    let text = c.args.text.now in
    let fields = c.args.fields.now in
    let groups = c.args.groups.now in
    let old = c.args.writing in
    let error = c.in_err-made.field-0.0 in
    let has = c.in_ok-judge.ensures.found text in
    subst (λ (result : Result Made AnalyzeError). Writes (λ accepts. shape_of_stats text accepts fields groups (columns_of old.visible)) (write_stats text fields groups (seen old)) result)
    (sym (err_is c.from_residual-in_err-made.result error c.from_residual-in_err-made.ensures.1))
    (before_refused text old.visible fields groups error has c.in_err-made.ensures.refusal)

pub returns-in_err-made-clause-hears : goal.returns-in_err-made-clause-hears
returns-in_err-made-clause-hears g c =
    let text = c.args.text.now in
    let fields = c.args.fields.now in
    let groups = c.args.groups.now in
    let old = c.args.writing in
    let own = flat_map regulars_of_stats fields in
    let others = flat_map regulars_of_field groups in
    let error = c.in_err-made.field-0.0 in
    let has = c.in_ok-judge.ensures.found text in
    let within = within_then (flat_map regulars_before fields) own (own ++ others) (before_within is_accepted old.visible fields (stats_have is_accepted old.visible text fields groups has).0) (within_front own others) in
    subst (λ (result : Result Made AnalyzeError). Hears g.M.Maker.refused g.M.Maker.last (own ++ others) c.args.maker.now c.write_all_before.new.maker result)
    (sym (err_is c.from_residual-in_err-made.result error c.from_residual-in_err-made.ensures.1))
    (heard_more g.M.Maker.refused g.M.Maker.last (flat_map regulars_before fields) (own ++ others) c.args.maker.now c.judge.new.maker c.write_all_before.new.maker error c.in_ok-judge.ensures.hears within c.in_err-made.ensures.hears)

pub write_groups-requires : goal.write_groups-requires
write_groups-requires g c = groups_have_room c.args.fields.now c.args.groups.now c.args.writing c.requires.room (seen c.in_ok-made.made.writing) c.in_ok-made.ensures.written

pub returns-in_err-grouping-clause-writes : goal.returns-in_err-grouping-clause-writes
returns-in_err-grouping-clause-writes g c =
    let text = c.args.text.now in
    let fields = c.args.fields.now in
    let groups = c.args.groups.now in
    let old = c.args.writing in
    let error = c.in_err-grouping.field-0.0 in
    let has = c.in_ok-judge.ensures.found text in
    subst (λ (result : Result Made AnalyzeError). Writes (λ accepts. shape_of_stats text accepts fields groups (columns_of old.visible)) (write_stats text fields groups (seen old)) result)
    (sym (err_is c.from_residual-in_err-grouping.result error c.from_residual-in_err-grouping.ensures.1))
    (groups_refused text old.visible fields groups error has
    (subst (λ (columns : List OutColumn). OneIsRefused (judged_groups columns groups) error) c.in_ok-made.ensures.visible c.in_err-grouping.ensures.refusal))

pub returns-in_err-grouping-clause-hears : goal.returns-in_err-grouping-clause-hears
returns-in_err-grouping-clause-hears g c =
    let own = flat_map regulars_of_stats c.args.fields.now in
    let others = flat_map regulars_of_field c.args.groups.now in
    let error = c.in_err-grouping.field-0.0 in
    let heard = untouched_more g.M.Maker.refused g.M.Maker.last c.args.maker.now c.judge.new.maker c.write_all_before.new.maker c.in_ok-judge.ensures.hears c.in_ok-made.ensures.hears in
    subst (λ (result : Result Made AnalyzeError). Hears g.M.Maker.refused g.M.Maker.last (own ++ others) c.args.maker.now c.write_groups.new.maker result)
    (sym (err_is c.from_residual-in_err-grouping.result error c.from_residual-in_err-grouping.ensures.1))
    (heard_more g.M.Maker.refused g.M.Maker.last others (own ++ others) c.args.maker.now c.write_all_before.new.maker c.write_groups.new.maker error heard (within_back own others) c.in_err-grouping.ensures.hears)

pub write_grouping-requires : goal.write_grouping-requires
write_grouping-requires g c =
    let groups = c.args.groups.now in
    let made = c.in_ok-made in
    let grouping = c.in_ok-grouping in
    numbers_have_room c.args.fields.now groups c.args.writing c.requires.room made.made grouping.grouping
    (stats_made c.args.fields.now groups c.args.writing c.requires.room made.made grouping.grouping made.ensures.visible made.ensures.written made.ensures.inputs grouping.ensures.visible grouping.ensures.written grouping.ensures.inputs)

pub write_behind-requires-clause-room : goal.write_behind-requires-clause-room
write_behind-requires-clause-room g c =
    let made = c.in_ok-made in
    let grouping = c.in_ok-grouping in
    let grouped = c.in_ok-grouped in
    fields_have_room_behind c.args.fields.now c.args.groups.now c.args.writing c.requires.room made.made grouping.grouping
    (stats_made c.args.fields.now c.args.groups.now c.args.writing c.requires.room made.made grouping.grouping made.ensures.visible made.ensures.written made.ensures.inputs grouping.ensures.visible grouping.ensures.written grouping.ensures.inputs)
    grouped.grouped (record { before_is = grouped.ensures.before; first = grouped.ensures.first; calls_are = grouped.ensures.calls; groups_same = grouped.ensures.groups; written_is = grouped.ensures.written })

pub write_behind-requires-clause-calls : goal.write_behind-requires-clause-calls
write_behind-requires-clause-calls g c =
    let made = c.in_ok-made in
    let grouping = c.in_ok-grouping in
    let grouped = c.in_ok-grouped in
    calls_stand c.args.fields.now c.args.groups.now c.args.writing c.requires.room made.made grouping.grouping
    (stats_made c.args.fields.now c.args.groups.now c.args.writing c.requires.room made.made grouping.grouping made.ensures.visible made.ensures.written made.ensures.inputs grouping.ensures.visible grouping.ensures.written grouping.ensures.inputs)
    grouped.grouped (record { before_is = grouped.ensures.before; first = grouped.ensures.first; calls_are = grouped.ensures.calls; groups_same = grouped.ensures.groups; written_is = grouped.ensures.written })

pub write_behind-requires-clause-same : goal.write_behind-requires-clause-same
write_behind-requires-clause-same g c =
    let made = c.in_ok-made in
    let grouping = c.in_ok-grouping in
    let grouped = c.in_ok-grouped in
    groups_stand c.args.fields.now c.args.groups.now c.args.writing c.requires.room made.made grouping.grouping
    (stats_made c.args.fields.now c.args.groups.now c.args.writing c.requires.room made.made grouping.grouping made.ensures.visible made.ensures.written made.ensures.inputs grouping.ensures.visible grouping.ensures.written grouping.ensures.inputs)
    grouped.grouped (record { before_is = grouped.ensures.before; first = grouped.ensures.first; calls_are = grouped.ensures.calls; groups_same = grouped.ensures.groups; written_is = grouped.ensures.written })

pub write_behind-requires-clause-few : goal.write_behind-requires-clause-few
write_behind-requires-clause-few g c =
    let made = c.in_ok-made in
    let grouping = c.in_ok-grouping in
    let grouped = c.in_ok-grouped in
    few_behind c.args.fields.now c.args.groups.now c.args.writing c.requires.room made.made grouping.grouping
    (stats_made c.args.fields.now c.args.groups.now c.args.writing c.requires.room made.made grouping.grouping made.ensures.visible made.ensures.written made.ensures.inputs grouping.ensures.visible grouping.ensures.written grouping.ensures.inputs)
    grouped.grouped (record { before_is = grouped.ensures.before; first = grouped.ensures.first; calls_are = grouped.ensures.calls; groups_same = grouped.ensures.groups; written_is = grouped.ensures.written })

pub returns-clause-writes : goal.returns-clause-writes
returns-clause-writes g c =
    let text = c.args.text.now in
    let fields = c.args.fields.now in
    let groups = c.args.groups.now in
    let old = c.args.writing in
    let made = c.in_ok-made in
    let grouping = c.in_ok-grouping in
    let grouped = c.in_ok-grouped in
    let is = stats_made fields groups old c.requires.room made.made grouping.grouping made.ensures.visible made.ensures.written made.ensures.inputs grouping.ensures.visible grouping.ensures.written grouping.ensures.inputs in
    let all = behind_is fields groups old c.requires.room made.made grouping.grouping is grouped.grouped
    (record { before_is = grouped.ensures.before; first = grouped.ensures.first; calls_are = grouped.ensures.calls; groups_same = grouped.ensures.groups; written_is = grouped.ensures.written }) text in
    let has = c.in_ok-judge.ensures.found text in
    stats_writes text fields groups old grouped.grouped.before c.write_behind.result has (grouped.ensures.before ∙ grouping.ensures.visible ∙ made.ensures.visible)
    (subst (λ (writing : Writing). IfOk c.write_behind.result (λ new. seen new ≡ writing)) all c.write_behind.ensures.written) c.write_behind.ensures.refusal

pub returns-clause-hears : goal.returns-clause-hears
returns-clause-hears g c =
    let own = flat_map regulars_of_stats c.args.fields.now in
    let others = flat_map regulars_of_field c.args.groups.now in
    let judged = untouched_more g.M.Maker.refused g.M.Maker.last c.args.maker.now c.judge.new.maker c.write_all_before.new.maker c.in_ok-judge.ensures.hears c.in_ok-made.ensures.hears in
    let heard = untouched_more g.M.Maker.refused g.M.Maker.last c.args.maker.now c.write_all_before.new.maker c.write_groups.new.maker judged c.in_ok-grouping.ensures.hears in
    hears_more g.M.Maker.refused g.M.Maker.last own (own ++ others) c.args.maker.now c.write_groups.new.maker c.write_behind.new.maker c.write_behind.result heard (within_front own others) c.write_behind.ensures.hears
