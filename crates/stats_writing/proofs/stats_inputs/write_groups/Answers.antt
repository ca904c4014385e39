use Rattle.std.proofs.Common.{List, [], ◌∷◌, ◌++◌, length, drop, ◌+◌, Result, IfErr, refl, ap, sym, subst, ◌∙◌, arith}
use Rattle.std.proofs.lemmas.List.{drop_all, map-append}
use Rattle.std.specs.List.{flat_map}
use Rattle.esql_ast.specs.declared.query.Field.{Field}
use Rattle.esql_plan.specs.declared.plan.OutColumn.{OutColumn}
use Rattle.plan_semantics.specs.Plans.{columns_of}
use Rattle.query_semantics.specs.StatsShapes.{outside_scope}
use Rattle.row_semantics.specs.Regulars.{is_accepted}
use Rattle.query_semantics.specs.WrittenStats.{GroupInput}
use Rattle.query_semantics.proofs.Kinded.{expr_kinded}
use Rattle.expression_analysis.specs.declared.error.AnalyzeError.{AnalyzeError}
use Rattle.stats_writing.specs.declared.stats_inputs.GroupInput.{GroupInput as MadeGroup}
use Rattle.stats_writing.specs.declared.stats_inputs.Grouping.{Grouping}
use Rattle.plan_writing.specs.Answers.{Hears}
use Rattle.stats_writing.specs.Parts.{OneIsRefused, judged_outside, judged_groups}
use Rattle.plan_writing.specs.Regulars.{regulars_of_field}
use Rattle.stats_writing.specs.StatsSeen.{group_in, groups_seen}
use Rattle.plan_writing.specs.Writings.{seen}
use Rattle.plan_writing.proofs.Heard.{heard_more, untouched_more}
use Rattle.stats_writing.proofs.OneRefused.{refused_alone}
use Rattle.stats_writing.proofs.Series.{SeriesAlong, groups_series, item_refused, item_within, item_room, series_start, series_more, series_written, series_given}
use Rattle.plan_writing.proofs.Turns.{dropped, err_is}
use Rattle.stats_writing.proofs.stats_inputs.write_groups.Goals as goal

pub write_input-requires : goal.write_input-requires
write_input-requires g c =
    let groups = c.args.groups.now in
    let start = c.args.writing in
    let made = c.loop-group.writing in
    let i = c.loop-group.group-index in
    let item = c.group-item.result in
    let series = groups_series start.visible in
    let along = subst (λ (rest : List Field). SeriesAlong series groups (seen start) [] rest (seen made) (groups_seen c.loop-group.inputs)) (dropped i groups item c.loop-group-test.true c.group-item.is) c.loop-group.invariant.along in
    item_room series groups (seen start) [] item (drop (i + 1) groups) (seen made) (groups_seen c.loop-group.inputs) along

pub returns-in_err-input-clause-refusal : goal.returns-in_err-input-clause-refusal
returns-in_err-input-clause-refusal g c =
    let groups = c.args.groups.now in
    let start = c.args.writing in
    let made = c.loop-group.writing in
    let i = c.loop-group.group-index in
    let item = c.group-item.result in
    let error = c.in_err-input.field-0.0 in
    let series = groups_series start.visible in
    let along = subst (λ (rest : List Field). SeriesAlong series groups (seen start) [] rest (seen made) (groups_seen c.loop-group.inputs)) (dropped i groups item c.loop-group-test.true c.group-item.is) c.loop-group.invariant.along in
    let refused = subst (λ (columns : List OutColumn). OneIsRefused (judged_outside columns item.expr ∷ []) error) along.visible (refused_alone (judged_outside made.visible item.expr) error c.in_err-input.ensures.refusal) in
    subst (λ (result : Result Grouping AnalyzeError). IfErr result (OneIsRefused (judged_groups start.visible groups)))
    (sym (err_is c.from_residual.result error c.from_residual.ensures.1))
    (item_refused series groups (seen start) [] item (drop (i + 1) groups) (seen made) (groups_seen c.loop-group.inputs) error along refused)

pub returns-in_err-input-clause-hears : goal.returns-in_err-input-clause-hears
returns-in_err-input-clause-hears g c =
    let groups = c.args.groups.now in
    let start = c.args.writing in
    let made = c.loop-group.writing in
    let i = c.loop-group.group-index in
    let item = c.group-item.result in
    let error = c.in_err-input.field-0.0 in
    let series = groups_series start.visible in
    let along = subst (λ (rest : List Field). SeriesAlong series groups (seen start) [] rest (seen made) (groups_seen c.loop-group.inputs)) (dropped i groups item c.loop-group-test.true c.group-item.is) c.loop-group.invariant.along in
    subst (λ (result : Result Grouping AnalyzeError). Hears g.M.Maker.refused g.M.Maker.last (flat_map regulars_of_field groups) c.args.maker.now c.write_input.new.maker result)
    (sym (err_is c.from_residual.result error c.from_residual.ensures.1))
    (heard_more g.M.Maker.refused g.M.Maker.last (regulars_of_field item) (flat_map regulars_of_field groups) c.args.maker.now c.loop-group.maker c.write_input.new.maker error
    c.loop-group.invariant.heard (item_within series groups (seen start) [] item (drop (i + 1) groups) (seen made) (groups_seen c.loop-group.inputs) along) c.in_err-input.ensures.hears)

pub loop-group-init : goal.loop-group-init
loop-group-init g c =
    let groups = c.args.groups.now in
    let start = c.args.writing in
    record {
      along = subst (λ (given : List MadeGroup). SeriesAlong (groups_series start.visible) groups (seen start) [] groups (seen start) (groups_seen given)) (sym c.new-inputs.ensures)
          (series_start (groups_series start.visible) groups (seen start) [] c.requires);
      heard = record { counted = refl; noted = refl };
    }

pub loop-group-preserved : goal.loop-group-preserved
loop-group-preserved g c =
    let groups = c.args.groups.now in
    let start = c.args.writing in
    let made = c.loop-group.writing in
    let i = c.loop-group.group-index in
    let item = c.group-item.result in
    let input = c.in_ok-input.input in
    let given = c.loop-group.inputs in
    let series = groups_series start.visible in
    let along = subst (λ (rest : List Field). SeriesAlong series groups (seen start) [] rest (seen made) (groups_seen given)) (dropped i groups item c.loop-group-test.true c.group-item.is) c.loop-group.invariant.along in
    let kind = sym (expr_kinded item.expr (record { columns = made.visible; calls = [] }) (outside_scope is_accepted (columns_of made.visible)) input.kind refl c.in_ok-input.ensures.kind (length made.patterns.whole) (length made.patterns.free)) in
    let pushed = ap groups_seen c.in_ok-push.ensures.ok ∙ map-append group_in given _
    ∙ ap (λ (one : GroupInput). groups_seen given ++ one ∷ []) (λ j. record { id = c.in_ok-input.ensures.id j; kind = kind j }) in
    record {
      along = series_more series groups (seen start) [] item (drop (i + 1) groups) (seen made) (seen input.writing) (groups_seen given) (groups_seen c.push.new.self) along c.in_ok-input.ensures.written c.in_ok-input.ensures.visible pushed;
      heard = untouched_more g.M.Maker.refused g.M.Maker.last c.args.maker.now c.loop-group.maker c.write_input.new.maker c.loop-group.invariant.heard c.in_ok-input.ensures.hears;
    }

pub returns-clause-written : goal.returns-clause-written
returns-clause-written g c =
    let groups = c.args.groups.now in
    let start = c.args.writing in
    let made = c.loop-group.writing in
    let given = groups_seen c.loop-group.inputs in
    let series = groups_series start.visible in
    let along = subst (λ (rest : List Field). SeriesAlong series groups (seen start) [] rest (seen made) given) (drop_all c.loop-group.group-index groups (omega (arith, c.loop-group-test.false))) c.loop-group.invariant.along in
    series_written series groups (seen start) [] (seen made) given along

pub returns-clause-inputs : goal.returns-clause-inputs
returns-clause-inputs g c =
    let groups = c.args.groups.now in
    let start = c.args.writing in
    let made = c.loop-group.writing in
    let given = groups_seen c.loop-group.inputs in
    let series = groups_series start.visible in
    let along = subst (λ (rest : List Field). SeriesAlong series groups (seen start) [] rest (seen made) given) (drop_all c.loop-group.group-index groups (omega (arith, c.loop-group-test.false))) c.loop-group.invariant.along in
    series_given series groups (seen start) [] (seen made) given along
