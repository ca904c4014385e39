use Rattle.std.proofs.Common.{List, drop, ◌+◌, Option, Result, IfErr, refl, sym, subst, arith}
use Rattle.std.proofs.lemmas.List.{drop_all}
use Rattle.std.specs.List.{flat_map}
use Rattle.std.specs.Option.{option_map}
use Rattle.esql_ast.specs.declared.query.StatsField.{StatsField}
use Rattle.esql_ast.specs.Nodes.{nodes_of_stats}
use Rattle.plan_semantics.specs.Plans.{columns_of}
use Rattle.row_semantics.specs.Scopes.{Broken}
use Rattle.query_semantics.specs.StatsShapes.{kinds_of_fields}
use Rattle.expression_analysis.specs.declared.error.AnalyzeError.{AnalyzeError}
use Rattle.expression_analysis.specs.Answers.{IsRefusal}
use Rattle.stats_writing.specs.declared.stats_rules.BrokenRule.{BrokenRule}
use Rattle.plan_writing.specs.Answers.{Hears}
use Rattle.plan_writing.specs.Regulars.{regulars_of_stats}
use Rattle.stats_writing.specs.StatsRules.{broken_of}
use Rattle.plan_writing.proofs.Heard.{heard_more, untouched_more, within_one}
use Rattle.stats_writing.proofs.StatsTurns.{FieldsAlong, fields_start, fields_more, fields_refused, fields_done, one_few}
use Rattle.plan_writing.proofs.Turns.{dropped, err_is}
use Rattle.stats_writing.proofs.stats_rules.judge_fields.Goals as goal

pub judge_field-requires : goal.judge_field-requires
judge_field-requires g c =
    let few = one_few nodes_of_stats c.loop-stats.stats-index c.args.fields.now c.stats-item.result c.loop-stats-test.true c.stats-item.is in
    omega (arith, few, c.requires)

pub returns-in_err-own-clause-refusal : goal.returns-in_err-own-clause-refusal
returns-in_err-own-clause-refusal g c =
    let columns = columns_of c.args.columns.now in
    let fields = c.args.fields.now in
    let broken = option_map broken_of c.loop-stats.broken in
    let i = c.loop-stats.stats-index in
    let item = c.stats-item.result in
    let error = c.in_err-own.field-0.0 in
    let along = subst (λ (rest : List StatsField). FieldsAlong columns fields broken rest) (dropped i fields item c.loop-stats-test.true c.stats-item.is) c.loop-stats.invariant.along in
    subst (λ (result : Result (Option BrokenRule) AnalyzeError). IfErr result (IsRefusal (λ accepts. kinds_of_fields accepts columns fields)))
    (sym (err_is c.from_residual.result error c.from_residual.ensures.1))
    (fields_refused columns fields broken item (drop (i + 1) fields) error along c.in_err-own.ensures.refusal)

pub returns-in_err-own-clause-hears : goal.returns-in_err-own-clause-hears
returns-in_err-own-clause-hears g c =
    let fields = c.args.fields.now in
    let i = c.loop-stats.stats-index in
    let item = c.stats-item.result in
    let error = c.in_err-own.field-0.0 in
    subst (λ (result : Result (Option BrokenRule) AnalyzeError). Hears g.M.Maker.refused g.M.Maker.last (flat_map regulars_of_stats fields) c.args.maker.now c.judge_field.new.maker result)
    (sym (err_is c.from_residual.result error c.from_residual.ensures.1))
    (heard_more g.M.Maker.refused g.M.Maker.last (regulars_of_stats item) (flat_map regulars_of_stats fields) c.args.maker.now c.loop-stats.maker c.judge_field.new.maker error
    c.loop-stats.invariant.heard (within_one regulars_of_stats i fields item c.loop-stats-test.true c.stats-item.is) c.in_err-own.ensures.hears)

pub loop-stats-init : goal.loop-stats-init
loop-stats-init g c = record { along = fields_start (columns_of c.args.columns.now) c.args.fields.now; heard = record { counted = refl; noted = refl } }

pub loop-stats-preserved : goal.loop-stats-preserved
loop-stats-preserved g c =
    let columns = columns_of c.args.columns.now in
    let fields = c.args.fields.now in
    let broken = option_map broken_of c.loop-stats.broken in
    let own = option_map broken_of c.in_ok-own.own in
    let i = c.loop-stats.stats-index in
    let item = c.stats-item.result in
    let along = subst (λ (rest : List StatsField). FieldsAlong columns fields broken rest) (dropped i fields item c.loop-stats-test.true c.stats-item.is) c.loop-stats.invariant.along in
    record {
      along = subst (λ (these : Option Broken). FieldsAlong columns fields these (drop (i + 1) fields)) (sym c.first_broken-broken.ensures)
          (fields_more columns fields broken own item (drop (i + 1) fields) along c.in_ok-own.ensures.found);
      heard = untouched_more g.M.Maker.refused g.M.Maker.last c.args.maker.now c.loop-stats.maker c.judge_field.new.maker c.loop-stats.invariant.heard c.in_ok-own.ensures.hears;
    }

pub returns-clause-found : goal.returns-clause-found
returns-clause-found g c =
    let columns = columns_of c.args.columns.now in
    let fields = c.args.fields.now in
    let broken = option_map broken_of c.loop-stats.broken in
    let along = subst (λ (rest : List StatsField). FieldsAlong columns fields broken rest) (drop_all c.loop-stats.stats-index fields (omega (arith, c.loop-stats-test.false))) c.loop-stats.invariant.along in
    fields_done columns fields broken along
