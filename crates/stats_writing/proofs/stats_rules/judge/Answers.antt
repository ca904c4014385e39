use Rattle.std.proofs.Common.{ℕ, List, ◌++◌, Result, IfErr, ap, refl, sym, subst}
use Rattle.std.specs.List.{flat_map}
use Rattle.std.specs.Option.{option_map}
use Rattle.plan_semantics.specs.Plans.{columns_of}
use Rattle.query_semantics.specs.StatsShapes.{shape_of_stats}
use Rattle.expression_analysis.specs.declared.error.AnalyzeError.{AnalyzeError}
use Rattle.expression_analysis.specs.Answers.{IsRefusal}
use Rattle.plan_writing.specs.Answers.{Hears}
use Rattle.plan_writing.specs.Regulars.{regulars_of_field, regulars_of_stats}
use Rattle.stats_writing.specs.StatsRules.{broken_of}
use Rattle.plan_writing.proofs.Heard.{heard_more, within_front, within_back}
use Rattle.stats_writing.proofs.StatsTurns.{shape_has, shape_broken, shape_fields_refused, shape_groups_refused}
use Rattle.plan_writing.proofs.Turns.{err_is}
use Rattle.stats_writing.proofs.stats_rules.judge.Goals as goal

pub returns-in_err-broken-clause-refusal : goal.returns-in_err-broken-clause-refusal
returns-in_err-broken-clause-refusal g c =
    let columns = columns_of c.args.columns.now in
    let fields = c.args.fields.now in
    let groups = c.args.groups.now in
    let error = c.in_err-broken.field-0.0 in
    subst (λ (result : Result (Unit {0}) AnalyzeError). IfErr result (λ error. (text : List ℕ) → IsRefusal (λ accepts. shape_of_stats text accepts fields groups columns) error))
    (sym (err_is c.from_residual.result error c.from_residual.ensures.1))
    (λ text. shape_fields_refused text columns fields groups error c.in_err-broken.ensures.refusal)

pub returns-in_err-broken-clause-hears : goal.returns-in_err-broken-clause-hears
returns-in_err-broken-clause-hears g c =
    let fields = flat_map regulars_of_stats c.args.fields.now in
    let groups = flat_map regulars_of_field c.args.groups.now in
    let error = c.in_err-broken.field-0.0 in
    subst (λ (result : Result (Unit {0}) AnalyzeError). Hears g.M.Maker.refused g.M.Maker.last (fields ++ groups) c.args.maker.now c.judge_fields.new.maker result)
    (sym (err_is c.from_residual.result error c.from_residual.ensures.1))
    (heard_more g.M.Maker.refused g.M.Maker.last fields (fields ++ groups) c.args.maker.now c.args.maker.now c.judge_fields.new.maker error (record { counted = refl; noted = refl }) (within_front fields groups)
    c.in_err-broken.ensures.hears)

pub returns-in_err-judge_groups-clause-refusal : goal.returns-in_err-judge_groups-clause-refusal
returns-in_err-judge_groups-clause-refusal g c =
    let columns = columns_of c.args.columns.now in
    let fields = c.args.fields.now in
    let groups = c.args.groups.now in
    let error = c.in_err-judge_groups.field-0.0 in
    subst (λ (result : Result (Unit {0}) AnalyzeError). IfErr result (λ error. (text : List ℕ) → IsRefusal (λ accepts. shape_of_stats text accepts fields groups columns) error))
    (sym (err_is c.from_residual-in_err-judge_groups.result error c.from_residual-in_err-judge_groups.ensures.1))
    (λ text. shape_groups_refused text columns fields groups (option_map broken_of c.in_ok-broken.broken) error c.in_ok-broken.ensures.found c.in_err-judge_groups.ensures.refusal)

pub returns-in_err-judge_groups-clause-hears : goal.returns-in_err-judge_groups-clause-hears
returns-in_err-judge_groups-clause-hears g c =
    let fields = flat_map regulars_of_stats c.args.fields.now in
    let groups = flat_map regulars_of_field c.args.groups.now in
    let error = c.in_err-judge_groups.field-0.0 in
    subst (λ (result : Result (Unit {0}) AnalyzeError). Hears g.M.Maker.refused g.M.Maker.last (fields ++ groups) c.args.maker.now c.judge_groups.new.maker result)
    (sym (err_is c.from_residual-in_err-judge_groups.result error c.from_residual-in_err-judge_groups.ensures.1))
    (heard_more g.M.Maker.refused g.M.Maker.last groups (fields ++ groups) c.args.maker.now c.judge_fields.new.maker c.judge_groups.new.maker error c.in_ok-broken.ensures.hears (within_back fields groups)
    c.in_err-judge_groups.ensures.hears)

pub returns-in-None-clause-found : goal.returns-in-None-clause-found
returns-in-None-clause-found g c = λ text.
    shape_has text (columns_of c.args.columns.now) c.args.fields.now c.args.groups.now (option_map broken_of c.in_ok-broken.broken) c.in_ok-broken.ensures.found c.in_ok-judge_groups.ensures.found (ap (option_map broken_of) c.in-None.is)

pub returns-in-Some-clause-refusal : goal.returns-in-Some-clause-refusal
returns-in-Some-clause-refusal g c = λ text.
    shape_broken text (columns_of c.args.columns.now) c.args.fields.now c.args.groups.now (option_map broken_of c.in_ok-broken.broken) (broken_of c.in-Some.broken) c.in_ok-broken.ensures.found c.in_ok-judge_groups.ensures.found
    (ap (option_map broken_of) c.in-Some.is)
