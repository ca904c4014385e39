use Rattle.std.proofs.Common.{List, [], ◌∷◌, ◌++◌, drop, ◌+◌, Result, IfErr, refl, ap, sym, subst, ◌∙◌, arith}
use Rattle.std.proofs.lemmas.List.{drop_all, map-append}
use Rattle.esql_plan.specs.declared.plan.OutColumn.{OutColumn}
use Rattle.query_semantics.specs.Calls.{AggregateCall}
use Rattle.query_semantics.specs.WrittenStats.{CallInput}
use Rattle.expression_analysis.specs.declared.error.AnalyzeError.{AnalyzeError}
use Rattle.stats_writing.specs.declared.calls.Call.{Call}
use Rattle.stats_writing.specs.declared.stats_inputs.Arguments.{Arguments}
use Rattle.plan_writing.specs.Answers.{Hears}
use Rattle.stats_writing.specs.CallsSeen.{call_of, seen_calls}
use Rattle.stats_writing.specs.Parts.{OneIsRefused, judged_argument, judged_arguments, regulars_of_argument, regulars_of_arguments}
use Rattle.stats_writing.specs.StatsSeen.{flag_seen, call_in, calls_seen}
use Rattle.plan_writing.specs.Writings.{seen}
use Rattle.plan_writing.proofs.Heard.{heard_more, untouched_more}
use Rattle.stats_writing.proofs.Series.{SeriesAlong, calls_series, item_refused, item_within, item_room, series_start, series_more, series_written, series_given, less_argument}
use Rattle.plan_writing.proofs.Turns.{dropped, err_is}
use Rattle.stats_writing.proofs.stats_inputs.write_calls.Goals as goal

pub write_call-requires : goal.write_call-requires
write_call-requires g c =
    let calls = c.args.calls.now in
    let start = c.args.made in
    let made = c.loop-call.writing in
    let given = calls_seen c.loop-call.inputs in
    let i = c.loop-call.call-index in
    let item = c.call-item.result in
    let series = calls_series (flag_seen c.args.flag) start.writing.visible in
    let along = subst (λ (rest : List AggregateCall). SeriesAlong series (seen_calls calls) (seen start.writing) (calls_seen start.calls) rest (seen made) given) (ap seen_calls (dropped i calls item c.loop-call-test.true c.call-item.is)) c.loop-call.invariant.along in
    less_argument item (seen made) (item_room series (seen_calls calls) (seen start.writing) (calls_seen start.calls) (call_of item) (seen_calls (drop (i + 1) calls)) (seen made) given along)

pub returns-in_err-called-clause-refusal : goal.returns-in_err-called-clause-refusal
returns-in_err-called-clause-refusal g c =
    let calls = c.args.calls.now in
    let start = c.args.made in
    let made = c.loop-call.writing in
    let given = calls_seen c.loop-call.inputs in
    let i = c.loop-call.call-index in
    let item = c.call-item.result in
    let error = c.in_err-called.field-0.0 in
    let series = calls_series (flag_seen c.args.flag) start.writing.visible in
    let along = subst (λ (rest : List AggregateCall). SeriesAlong series (seen_calls calls) (seen start.writing) (calls_seen start.calls) rest (seen made) given) (ap seen_calls (dropped i calls item c.loop-call-test.true c.call-item.is)) c.loop-call.invariant.along in
    let refused = subst (λ (columns : List OutColumn). OneIsRefused (judged_argument columns (call_of item).argument) error) along.visible c.in_err-called.ensures.refusal in
    subst (λ (result : Result Arguments AnalyzeError). IfErr result (OneIsRefused (judged_arguments start.writing.visible (seen_calls calls))))
    (sym (err_is c.from_residual.result error c.from_residual.ensures.1))
    (item_refused series (seen_calls calls) (seen start.writing) (calls_seen start.calls) (call_of item) (seen_calls (drop (i + 1) calls)) (seen made) given error along refused)

pub returns-in_err-called-clause-hears : goal.returns-in_err-called-clause-hears
returns-in_err-called-clause-hears g c =
    let calls = c.args.calls.now in
    let start = c.args.made in
    let made = c.loop-call.writing in
    let given = calls_seen c.loop-call.inputs in
    let i = c.loop-call.call-index in
    let item = c.call-item.result in
    let error = c.in_err-called.field-0.0 in
    let series = calls_series (flag_seen c.args.flag) start.writing.visible in
    let along = subst (λ (rest : List AggregateCall). SeriesAlong series (seen_calls calls) (seen start.writing) (calls_seen start.calls) rest (seen made) given) (ap seen_calls (dropped i calls item c.loop-call-test.true c.call-item.is)) c.loop-call.invariant.along in
    subst (λ (result : Result Arguments AnalyzeError). Hears g.M.Maker.refused g.M.Maker.last (regulars_of_arguments (seen_calls calls)) c.args.maker.now c.write_call.new.maker result)
    (sym (err_is c.from_residual.result error c.from_residual.ensures.1))
    (heard_more g.M.Maker.refused g.M.Maker.last (regulars_of_argument (call_of item).argument) (regulars_of_arguments (seen_calls calls)) c.args.maker.now c.loop-call.maker c.write_call.new.maker error
    c.loop-call.invariant.heard
    (item_within series (seen_calls calls) (seen start.writing) (calls_seen start.calls) (call_of item) (seen_calls (drop (i + 1) calls)) (seen made) given along) c.in_err-called.ensures.hears)

pub loop-call-init : goal.loop-call-init
loop-call-init g c = record {
  along = series_start (calls_series (flag_seen c.args.flag) c.args.made.writing.visible) (seen_calls c.args.calls.now) (seen c.args.made.writing) (calls_seen c.args.made.calls) c.requires;
  heard = record { counted = refl; noted = refl };
}

pub loop-call-preserved : goal.loop-call-preserved
loop-call-preserved g c =
    let calls = c.args.calls.now in
    let start = c.args.made in
    let made = c.loop-call.writing in
    let given = calls_seen c.loop-call.inputs in
    let i = c.loop-call.call-index in
    let item = c.call-item.result in
    let called = c.in_ok-called.called in
    let series = calls_series (flag_seen c.args.flag) start.writing.visible in
    let along = subst (λ (rest : List AggregateCall). SeriesAlong series (seen_calls calls) (seen start.writing) (calls_seen start.calls) rest (seen made) given) (ap seen_calls (dropped i calls item c.loop-call-test.true c.call-item.is)) c.loop-call.invariant.along in
    let pushed = ap calls_seen c.in_ok-push.ensures.ok ∙ map-append call_in c.loop-call.inputs _
    ∙ ap (λ (one : CallInput). given ++ one ∷ []) (λ j. record { node = item.node; function = c.function_of_call.ensures j; input = c.in_ok-called.ensures.input j }) in
    record {
      along = series_more series (seen_calls calls) (seen start.writing) (calls_seen start.calls) (call_of item) (seen_calls (drop (i + 1) calls)) (seen made) (seen called.writing) given (calls_seen c.push.new.self) along
          c.in_ok-called.ensures.written c.in_ok-called.ensures.visible pushed;
      heard = untouched_more g.M.Maker.refused g.M.Maker.last c.args.maker.now c.loop-call.maker c.write_call.new.maker c.loop-call.invariant.heard c.in_ok-called.ensures.hears;
    }

pub returns-clause-written : goal.returns-clause-written
returns-clause-written g c =
    let calls = c.args.calls.now in
    let start = c.args.made in
    let made = c.loop-call.writing in
    let given = calls_seen c.loop-call.inputs in
    let series = calls_series (flag_seen c.args.flag) start.writing.visible in
    let along = subst (λ (rest : List Call). SeriesAlong series (seen_calls calls) (seen start.writing) (calls_seen start.calls) (seen_calls rest) (seen made) given) (drop_all c.loop-call.call-index calls (omega (arith, c.loop-call-test.false))) c.loop-call.invariant.along in
    series_written series (seen_calls calls) (seen start.writing) (calls_seen start.calls) (seen made) given along

pub returns-clause-inputs : goal.returns-clause-inputs
returns-clause-inputs g c =
    let calls = c.args.calls.now in
    let start = c.args.made in
    let made = c.loop-call.writing in
    let given = calls_seen c.loop-call.inputs in
    let series = calls_series (flag_seen c.args.flag) start.writing.visible in
    let along = subst (λ (rest : List Call). SeriesAlong series (seen_calls calls) (seen start.writing) (calls_seen start.calls) (seen_calls rest) (seen made) given) (drop_all c.loop-call.call-index calls (omega (arith, c.loop-call-test.false))) c.loop-call.invariant.along in
    series_given series (seen_calls calls) (seen start.writing) (calls_seen start.calls) (seen made) given along
