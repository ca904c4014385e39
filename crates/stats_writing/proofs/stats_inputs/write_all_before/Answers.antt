use Rattle.std.proofs.Common.{List, [], drop, ◌+◌, Result, IfErr, refl, sym, subst, arith}
use Rattle.std.proofs.lemmas.List.{drop_all}
use Rattle.std.specs.List.{flat_map}
use Rattle.esql_ast.specs.declared.query.StatsField.{StatsField}
use Rattle.esql_plan.specs.declared.plan.OutColumn.{OutColumn}
use Rattle.expression_analysis.specs.declared.error.AnalyzeError.{AnalyzeError}
use Rattle.stats_writing.specs.declared.stats_inputs.Arguments.{Arguments}
use Rattle.stats_writing.specs.declared.stats_inputs.CallInput.{CallInput as MadeCall}
use Rattle.plan_writing.specs.Answers.{Hears}
use Rattle.stats_writing.specs.Parts.{OneIsRefused, judged_before, regulars_before}
use Rattle.stats_writing.specs.StatsSeen.{calls_seen}
use Rattle.plan_writing.specs.Writings.{seen}
use Rattle.plan_writing.proofs.Heard.{heard_more, untouched_more}
use Rattle.stats_writing.proofs.Series.{SeriesAlong, fields_series, item_refused, item_within, item_room, series_start, series_more, series_written, series_given}
use Rattle.plan_writing.proofs.Turns.{dropped, err_is}
use Rattle.stats_writing.proofs.stats_inputs.write_all_before.Goals as goal

pub write_before-requires : goal.write_before-requires
write_before-requires g c =
    let fields = c.args.fields.now in
    let start = c.args.writing in
    let made = c.loop-stats.made in
    let i = c.loop-stats.stats-index in
    let item = c.stats-item.result in
    let series = fields_series start.visible in
    let along = subst (λ (rest : List StatsField). SeriesAlong series fields (seen start) [] rest (seen made.writing) (calls_seen made.calls)) (dropped i fields item c.loop-stats-test.true c.stats-item.is) c.loop-stats.invariant.along in
    item_room series fields (seen start) [] item (drop (i + 1) fields) (seen made.writing) (calls_seen made.calls) along

pub returns-in_err-made-clause-refusal : goal.returns-in_err-made-clause-refusal
returns-in_err-made-clause-refusal g c =
    let fields = c.args.fields.now in
    let start = c.args.writing in
    let made = c.loop-stats.made in
    let i = c.loop-stats.stats-index in
    let item = c.stats-item.result in
    let error = c.in_err-made.field-0.0 in
    let series = fields_series start.visible in
    let along = subst (λ (rest : List StatsField). SeriesAlong series fields (seen start) [] rest (seen made.writing) (calls_seen made.calls)) (dropped i fields item c.loop-stats-test.true c.stats-item.is) c.loop-stats.invariant.along in
    let refused = subst (λ (columns : List OutColumn). OneIsRefused (judged_before columns item) error) along.visible c.in_err-made.ensures.refusal in
    subst (λ (result : Result Arguments AnalyzeError). IfErr result (OneIsRefused (flat_map (judged_before start.visible) fields)))
    (sym (err_is c.from_residual.result error c.from_residual.ensures.1))
    (item_refused series fields (seen start) [] item (drop (i + 1) fields) (seen made.writing) (calls_seen made.calls) error along refused)

pub returns-in_err-made-clause-hears : goal.returns-in_err-made-clause-hears
returns-in_err-made-clause-hears g c =
    let fields = c.args.fields.now in
    let start = c.args.writing in
    let made = c.loop-stats.made in
    let i = c.loop-stats.stats-index in
    let item = c.stats-item.result in
    let error = c.in_err-made.field-0.0 in
    let series = fields_series start.visible in
    let along = subst (λ (rest : List StatsField). SeriesAlong series fields (seen start) [] rest (seen made.writing) (calls_seen made.calls)) (dropped i fields item c.loop-stats-test.true c.stats-item.is) c.loop-stats.invariant.along in
    subst (λ (result : Result Arguments AnalyzeError). Hears g.M.Maker.refused g.M.Maker.last (flat_map regulars_before fields) c.args.maker.now c.write_before.new.maker result)
    (sym (err_is c.from_residual.result error c.from_residual.ensures.1))
    (heard_more g.M.Maker.refused g.M.Maker.last (regulars_before item) (flat_map regulars_before fields) c.args.maker.now c.loop-stats.maker c.write_before.new.maker error
    c.loop-stats.invariant.heard (item_within series fields (seen start) [] item (drop (i + 1) fields) (seen made.writing) (calls_seen made.calls) along) c.in_err-made.ensures.hears)

pub loop-stats-init : goal.loop-stats-init
loop-stats-init g c =
    let fields = c.args.fields.now in
    let start = c.args.writing in
    record {
      along = subst (λ (given : List MadeCall). SeriesAlong (fields_series start.visible) fields (seen start) [] fields (seen start) (calls_seen given)) (sym c.new.ensures)
          (series_start (fields_series start.visible) fields (seen start) [] c.requires);
      heard = record { counted = refl; noted = refl };
    }

pub loop-stats-preserved : goal.loop-stats-preserved
loop-stats-preserved g c =
    let fields = c.args.fields.now in
    let start = c.args.writing in
    let made = c.loop-stats.made in
    let i = c.loop-stats.stats-index in
    let item = c.stats-item.result in
    let new = c.in_ok-made.made in
    let series = fields_series start.visible in
    let along = subst (λ (rest : List StatsField). SeriesAlong series fields (seen start) [] rest (seen made.writing) (calls_seen made.calls)) (dropped i fields item c.loop-stats-test.true c.stats-item.is) c.loop-stats.invariant.along in
    record {
      along = series_more series fields (seen start) [] item (drop (i + 1) fields) (seen made.writing) (seen new.writing) (calls_seen made.calls) (calls_seen new.calls) along
          c.in_ok-made.ensures.written c.in_ok-made.ensures.visible c.in_ok-made.ensures.inputs;
      heard = untouched_more g.M.Maker.refused g.M.Maker.last c.args.maker.now c.loop-stats.maker c.write_before.new.maker c.loop-stats.invariant.heard c.in_ok-made.ensures.hears;
    }

pub returns-clause-written : goal.returns-clause-written
returns-clause-written g c =
    let fields = c.args.fields.now in
    let start = c.args.writing in
    let made = c.loop-stats.made in
    let series = fields_series start.visible in
    let along = subst (λ (rest : List StatsField). SeriesAlong series fields (seen start) [] rest (seen made.writing) (calls_seen made.calls)) (drop_all c.loop-stats.stats-index fields (omega (arith, c.loop-stats-test.false))) c.loop-stats.invariant.along in
    series_written series fields (seen start) [] (seen made.writing) (calls_seen made.calls) along

pub returns-clause-inputs : goal.returns-clause-inputs
returns-clause-inputs g c =
    let fields = c.args.fields.now in
    let start = c.args.writing in
    let made = c.loop-stats.made in
    let series = fields_series start.visible in
    let along = subst (λ (rest : List StatsField). SeriesAlong series fields (seen start) [] rest (seen made.writing) (calls_seen made.calls)) (drop_all c.loop-stats.stats-index fields (omega (arith, c.loop-stats-test.false))) c.loop-stats.invariant.along in
    series_given series fields (seen start) [] (seen made.writing) (calls_seen made.calls) along
