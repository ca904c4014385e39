use Rattle.std.proofs.Common.{Option, Result, IfErr, refl, sym, subst}
use Rattle.plan_semantics.specs.Plans.{columns_of}
use Rattle.query_semantics.specs.StatsShapes.{kinds_of_field}
use Rattle.expression_analysis.specs.declared.error.AnalyzeError.{AnalyzeError}
use Rattle.expression_analysis.specs.Answers.{IsRefusal}
use Rattle.stats_writing.specs.declared.stats_rules.BrokenRule.{BrokenRule}
use Rattle.plan_writing.specs.Answers.{Hears}
use Rattle.plan_writing.specs.Regulars.{regulars_of_field, regulars_of_condition, regulars_of_stats}
use Rattle.plan_writing.proofs.Heard.{heard_more, within_front, within_back}
use Rattle.stats_writing.proofs.StatsTurns.{condition_refused}
use Rattle.plan_writing.proofs.Turns.{err_is}
use Rattle.stats_writing.proofs.stats_rules.judge_field.Goals as goal

pub returns-in_err-kind_in_field-clause-hears : goal.returns-in_err-kind_in_field-clause-hears
returns-in_err-kind_in_field-clause-hears g c =
    let stats = c.args.stats.now in
    let error = c.in_err-kind_in_field.field-0.0 in
    subst (λ (result : Result (Option BrokenRule) AnalyzeError). Hears g.M.Maker.refused g.M.Maker.last (regulars_of_stats stats) c.args.maker.now c.kind_in_field.new.maker result)
    (sym (err_is c.from_residual.result error c.from_residual.ensures.1))
    (heard_more g.M.Maker.refused g.M.Maker.last (regulars_of_field stats.field) (regulars_of_stats stats) c.args.maker.now c.args.maker.now c.kind_in_field.new.maker error
    (record { counted = refl; noted = refl }) (within_front (regulars_of_field stats.field) (regulars_of_condition stats.condition)) c.in_err-kind_in_field.ensures.hears)

pub returns-in_err-kind-clause-refusal : goal.returns-in_err-kind-clause-refusal
returns-in_err-kind-clause-refusal g c =
    let columns = columns_of c.args.columns.now in
    let stats = c.args.stats.now in
    let error = c.in_err-kind.field-0.0 in
    subst (λ (result : Result (Option BrokenRule) AnalyzeError). IfErr result (IsRefusal (λ accepts. kinds_of_field accepts columns stats)))
    (sym (err_is c.from_residual-in_err-kind.result error c.from_residual-in_err-kind.ensures.1))
    (condition_refused columns stats c.in_ok-kind_in_field.field-0 error c.in_ok-kind_in_field.ensures.kind c.in_err-kind.ensures.refusal)

pub returns-in_err-kind-clause-hears : goal.returns-in_err-kind-clause-hears
returns-in_err-kind-clause-hears g c =
    let stats = c.args.stats.now in
    let error = c.in_err-kind.field-0.0 in
    subst (λ (result : Result (Option BrokenRule) AnalyzeError). Hears g.M.Maker.refused g.M.Maker.last (regulars_of_stats stats) c.args.maker.now c.kind_of_condition.new.maker result)
    (sym (err_is c.from_residual-in_err-kind.result error c.from_residual-in_err-kind.ensures.1))
    (heard_more g.M.Maker.refused g.M.Maker.last (regulars_of_condition stats.condition) (regulars_of_stats stats) c.args.maker.now c.kind_in_field.new.maker c.kind_of_condition.new.maker error
    c.in_ok-kind_in_field.ensures.hears (within_back (regulars_of_field stats.field) (regulars_of_condition stats.condition)) c.in_err-kind.ensures.hears)
