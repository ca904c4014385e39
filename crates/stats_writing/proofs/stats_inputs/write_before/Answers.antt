use Rattle.std.proofs.Common.{List, Result, IfErr, refl, ap, sym, subst, ◌∙◌}
use Rattle.esql_plan.specs.declared.plan.OutColumn.{OutColumn}
use Rattle.query_semantics.specs.Calls.{AggregateCall, calls_of}
use Rattle.expression_analysis.specs.declared.error.AnalyzeError.{AnalyzeError}
use Rattle.stats_writing.specs.declared.calls.Call.{Call}
use Rattle.stats_writing.specs.declared.stats_inputs.Arguments.{Arguments}
use Rattle.plan_writing.specs.Answers.{Hears}
use Rattle.stats_writing.specs.CallsSeen.{seen_calls}
use Rattle.stats_writing.specs.Parts.{OneIsRefused, judged_condition, judged_arguments, judged_before, regulars_of_arguments, regulars_before}
use Rattle.plan_writing.specs.Regulars.{regulars_of_condition}
use Rattle.plan_writing.specs.Writings.{seen}
use Rattle.plan_writing.proofs.Heard.{heard_more, hears_more, within_front, within_back}
use Rattle.stats_writing.proofs.OneRefused.{refused_front, err_back}
use Rattle.stats_writing.proofs.StatsRooms.{calls_have_room}
use Rattle.plan_writing.proofs.Turns.{err_is}
use Rattle.stats_writing.proofs.stats_inputs.write_before.Goals as goal

pub returns-in_err-flagged-clause-refusal : goal.returns-in_err-flagged-clause-refusal
returns-in_err-flagged-clause-refusal g c =
    let visible = c.args.made.writing.visible in
    let stats = c.args.stats.now in
    let error = c.in_err-flagged.field-0.0 in
    subst (λ (result : Result Arguments AnalyzeError). IfErr result (OneIsRefused (judged_before visible stats)))
    (sym (err_is c.from_residual-in_err-flagged.result error c.from_residual-in_err-flagged.ensures.1))
    (refused_front (judged_condition visible stats.condition) (judged_arguments visible (calls_of stats.field.expr)) error c.in_err-flagged.ensures.refusal)

pub returns-in_err-flagged-clause-hears : goal.returns-in_err-flagged-clause-hears
returns-in_err-flagged-clause-hears g c =
    let stats = c.args.stats.now in
    let own = regulars_of_condition stats.condition in
    let error = c.in_err-flagged.field-0.0 in
    subst (λ (result : Result Arguments AnalyzeError). Hears g.M.Maker.refused g.M.Maker.last (regulars_before stats) c.args.maker.now c.write_flag.new.maker result)
    (sym (err_is c.from_residual-in_err-flagged.result error c.from_residual-in_err-flagged.ensures.1))
    (heard_more g.M.Maker.refused g.M.Maker.last own (regulars_before stats) c.args.maker.now c.args.maker.now c.write_flag.new.maker error
    (record { counted = refl; noted = refl }) (within_front own (regulars_of_arguments (calls_of stats.field.expr))) c.in_err-flagged.ensures.hears)

pub write_calls-requires : goal.write_calls-requires
write_calls-requires g c =
    let calls = ap (λ (items : List Call). seen_calls items) c.deref.ensures.value ∙ c.in_ok-found.ensures.calls in
    calls_have_room c.args.stats.now (seen c.args.made.writing) (seen c.in_ok-flagged.flagged.writing) (seen_calls c.deref.result.now) c.in_ok-flagged.ensures.written calls c.requires

pub returns-clause-refusal : goal.returns-clause-refusal
returns-clause-refusal g c =
    let visible = c.args.made.writing.visible in
    let stats = c.args.stats.now in
    let calls = ap (λ (items : List Call). seen_calls items) c.deref.ensures.value ∙ c.in_ok-found.ensures.calls in
    let shown = subst (λ (columns : List OutColumn). IfErr c.write_calls.result (OneIsRefused (judged_arguments columns (seen_calls c.deref.result.now)))) c.in_ok-flagged.ensures.visible c.write_calls.ensures.refusal in
    err_back (judged_condition visible stats.condition) (judged_arguments visible (calls_of stats.field.expr)) c.write_calls.result
    (subst (λ (these : List AggregateCall). IfErr c.write_calls.result (OneIsRefused (judged_arguments visible these))) calls shown)

pub returns-clause-hears : goal.returns-clause-hears
returns-clause-hears g c =
    let stats = c.args.stats.now in
    let own = regulars_of_condition stats.condition in
    let arguments = regulars_of_arguments (calls_of stats.field.expr) in
    let calls = ap (λ (items : List Call). seen_calls items) c.deref.ensures.value ∙ c.in_ok-found.ensures.calls in
    hears_more g.M.Maker.refused g.M.Maker.last arguments (regulars_before stats) c.args.maker.now c.write_flag.new.maker c.write_calls.new.maker c.write_calls.result c.in_ok-flagged.ensures.hears (within_back own arguments)
    (subst (λ (these : List AggregateCall). Hears g.M.Maker.refused g.M.Maker.last (regulars_of_arguments these) c.write_flag.new.maker c.write_calls.new.maker c.write_calls.result) calls c.write_calls.ensures.hears)
