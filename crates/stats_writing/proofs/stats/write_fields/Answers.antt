use Rattle.std.proofs.Common.{List, drop, ◌+◌, Result, IfErr, refl, sym, subst, arith}
use Rattle.std.proofs.lemmas.List.{drop_all}
use Rattle.std.specs.List.{flat_map}
use Rattle.esql_ast.specs.declared.query.StatsField.{StatsField}
use Rattle.expression_analysis.specs.declared.error.AnalyzeError.{AnalyzeError}
use Rattle.plan_writing.specs.declared.writing.Writing.{Writing as Made}
use Rattle.plan_writing.specs.Answers.{Hears}
use Rattle.stats_writing.specs.Parts.{OneIsRefused, judged_fields}
use Rattle.plan_writing.specs.Regulars.{regulars_of_field, regulars_of_stats}
use Rattle.plan_writing.specs.Writings.{seen}
use Rattle.stats_writing.proofs.Behinds.{BehindAlong, behind_start, field_has_room, field_has_few, field_is_refused, field_is_within, behind_more}
use Rattle.plan_writing.proofs.Heard.{heard_more, untouched_more}
use Rattle.plan_writing.proofs.Turns.{dropped, err_is}
use Rattle.stats_writing.proofs.stats.write_fields.Goals as goal

pub write_field-requires-clause-room : goal.write_field-requires-clause-room
write_field-requires-clause-room g c =
    let text = c.args.text.now in
    let before = c.args.before.now in
    let fields = c.args.fields.now in
    let start = c.args.behind in
    let made = c.loop-stats.behind in
    let i = c.loop-stats.stats-index in
    let item = c.stats-item.result in
    let along = subst (λ (rest : List StatsField). BehindAlong text before fields start.number (seen start.writing) rest made.number (seen made.writing)) (dropped i fields item c.loop-stats-test.true c.stats-item.is) c.loop-stats.invariant.along in
    field_has_room text before fields start.number (seen start.writing) item (drop (i + 1) fields) made.number (seen made.writing) along

pub write_field-requires-clause-few : goal.write_field-requires-clause-few
write_field-requires-clause-few g c =
    let text = c.args.text.now in
    let before = c.args.before.now in
    let fields = c.args.fields.now in
    let start = c.args.behind in
    let made = c.loop-stats.behind in
    let i = c.loop-stats.stats-index in
    let item = c.stats-item.result in
    let along = subst (λ (rest : List StatsField). BehindAlong text before fields start.number (seen start.writing) rest made.number (seen made.writing)) (dropped i fields item c.loop-stats-test.true c.stats-item.is) c.loop-stats.invariant.along in
    field_has_few text before fields start.number (seen start.writing) item (drop (i + 1) fields) made.number (seen made.writing) along

pub returns-in_err-behind-clause-refusal : goal.returns-in_err-behind-clause-refusal
returns-in_err-behind-clause-refusal g c =
    let text = c.args.text.now in
    let before = c.args.before.now in
    let fields = c.args.fields.now in
    let start = c.args.behind in
    let made = c.loop-stats.behind in
    let i = c.loop-stats.stats-index in
    let item = c.stats-item.result in
    let error = c.in_err-behind.field-0.0 in
    let along = subst (λ (rest : List StatsField). BehindAlong text before fields start.number (seen start.writing) rest made.number (seen made.writing)) (dropped i fields item c.loop-stats-test.true c.stats-item.is) c.loop-stats.invariant.along in
    subst (λ (result : Result Made AnalyzeError). IfErr result (OneIsRefused (judged_fields before fields)))
    (sym (err_is c.from_residual.result error c.from_residual.ensures.1))
    (field_is_refused text before fields start.number (seen start.writing) item (drop (i + 1) fields) made.number (seen made.writing) error along c.in_err-behind.ensures.refusal)

pub returns-in_err-behind-clause-hears : goal.returns-in_err-behind-clause-hears
returns-in_err-behind-clause-hears g c =
    let text = c.args.text.now in
    let before = c.args.before.now in
    let fields = c.args.fields.now in
    let start = c.args.behind in
    let made = c.loop-stats.behind in
    let i = c.loop-stats.stats-index in
    let item = c.stats-item.result in
    let error = c.in_err-behind.field-0.0 in
    let along = subst (λ (rest : List StatsField). BehindAlong text before fields start.number (seen start.writing) rest made.number (seen made.writing)) (dropped i fields item c.loop-stats-test.true c.stats-item.is) c.loop-stats.invariant.along in
    subst (λ (result : Result Made AnalyzeError). Hears g.M.Maker.refused g.M.Maker.last (flat_map regulars_of_stats fields) c.args.maker.now c.write_field.new.maker result)
    (sym (err_is c.from_residual.result error c.from_residual.ensures.1))
    (heard_more g.M.Maker.refused g.M.Maker.last (regulars_of_field item.field) (flat_map regulars_of_stats fields) c.args.maker.now c.loop-stats.maker c.write_field.new.maker error
    c.loop-stats.invariant.heard (field_is_within text before fields start.number (seen start.writing) item (drop (i + 1) fields) made.number (seen made.writing) along) c.in_err-behind.ensures.hears)

pub loop-stats-init : goal.loop-stats-init
loop-stats-init g c = record {
  along = behind_start c.args.text.now c.args.before.now c.args.fields.now c.args.behind.number (seen c.args.behind.writing) c.requires.room c.requires.few;
  heard = record { counted = refl; noted = refl };
}

pub loop-stats-preserved : goal.loop-stats-preserved
loop-stats-preserved g c =
    let text = c.args.text.now in
    let before = c.args.before.now in
    let fields = c.args.fields.now in
    let start = c.args.behind in
    let made = c.loop-stats.behind in
    let new = c.in_ok-behind.behind in
    let i = c.loop-stats.stats-index in
    let item = c.stats-item.result in
    let along = subst (λ (rest : List StatsField). BehindAlong text before fields start.number (seen start.writing) rest made.number (seen made.writing)) (dropped i fields item c.loop-stats-test.true c.stats-item.is) c.loop-stats.invariant.along in
    record {
      along = behind_more text before fields start.number (seen start.writing) item (drop (i + 1) fields) made.number new.number (seen made.writing) (seen new.writing) along c.in_ok-behind.ensures.number c.in_ok-behind.ensures.written;
      heard = untouched_more g.M.Maker.refused g.M.Maker.last c.args.maker.now c.loop-stats.maker c.write_field.new.maker c.loop-stats.invariant.heard c.in_ok-behind.ensures.hears;
    }

pub returns-clause-written : goal.returns-clause-written
returns-clause-written g c =
    let text = c.args.text.now in
    let before = c.args.before.now in
    let fields = c.args.fields.now in
    let start = c.args.behind in
    let made = c.loop-stats.behind in
    let along = subst (λ (rest : List StatsField). BehindAlong text before fields start.number (seen start.writing) rest made.number (seen made.writing)) (drop_all c.loop-stats.stats-index fields (omega (arith, c.loop-stats-test.false))) c.loop-stats.invariant.along in
    along.written
