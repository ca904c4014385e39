use Rattle.std.proofs.Common.{ℕ, List, sym, subst}
use Rattle.dissect_grok.specs.Groks.{grok_of}
use Rattle.query_semantics.specs.AppendedShapes.{shape_of_grok_read}
use Rattle.expression_analysis.specs.declared.error.AnalyzeError.{AnalyzeError}
use Rattle.expression_analysis.specs.Answers.{IsRefusal}
use Rattle.expression_analysis.proofs.Regexes.{free_accepted}
use Rattle.plan_writing.specs.Answers.{IsHeard}
use Rattle.esql_analyze.specs.Regulars.{regulars_of_grok}
use Rattle.esql_analyze.proofs.GrokReads.{Tells, grok_refused, grok_heard}
use Rattle.esql_analyze.proofs.cuts.read_grok.Goals as goal

pub returns-in-Ok-clause-accepted : goal.returns-in-Ok-clause-accepted
returns-in-Ok-clause-accepted g c = free_accepted c.args.pattern.now.span c.in-Ok.grok.expansion c.in-Ok.ensures.readable

pub returns-in-Ok-clause-hears : goal.returns-in-Ok-clause-hears
returns-in-Ok-clause-hears g c = record { counted = c.in-Ok.ensures.uncounted (λ is. cc); noted = c.in-Ok.ensures.kept (λ is. cc) }

pub returns-in-Err-clause-refusal : goal.returns-in-Err-clause-refusal
returns-in-Err-clause-refusal g c = λ columns.
    let pattern = c.args.pattern.now in
    let error = c.in-Err.error in
    let ensures = c.in-Err.ensures in
    let count = g.M.Maker.refused in
    let last = g.M.Maker.last in
    let old = c.args.maker.now in
    let new = c.read.new.maker in
    let tells : Tells count last c.as_str.result.now old new error = record {
      bad = ensures.bad;
      not_read = ensures.not_read;
      rose = ensures.rose;
      noted = ensures.noted;
      counted = ensures.count;
      kept = ensures.kept;
      uncounted = ensures.uncounted;
    } in
    subst (λ (told : AnalyzeError). IsRefusal (λ accepts. shape_of_grok_read accepts (grok_of pattern.text) pattern.span columns) told) (sym c.grok_error.ensures)
    (grok_refused count last pattern.text pattern.span columns old new error (subst (λ (text : List ℕ). Tells count last text old new error) c.as_str.ensures tells))

pub returns-in-Err-clause-hears : goal.returns-in-Err-clause-hears
returns-in-Err-clause-hears g c =
    let pattern = c.args.pattern.now in
    let error = c.in-Err.error in
    let ensures = c.in-Err.ensures in
    let count = g.M.Maker.refused in
    let last = g.M.Maker.last in
    let old = c.args.maker.now in
    let new = c.read.new.maker in
    let tells : Tells count last c.as_str.result.now old new error = record {
      bad = ensures.bad;
      not_read = ensures.not_read;
      rose = ensures.rose;
      noted = ensures.noted;
      counted = ensures.count;
      kept = ensures.kept;
      uncounted = ensures.uncounted;
    } in
    subst (λ (told : AnalyzeError). IsHeard count last (regulars_of_grok pattern.span (grok_of pattern.text)) old new told) (sym c.grok_error.ensures)
    (grok_heard count last pattern.text pattern.span old new error (subst (λ (text : List ℕ). Tells count last text old new error) c.as_str.ensures tells))
