use Rattle.std.proofs.Common.{sym, ◌∙◌, ap, arith}
use Rattle.esql_lex.specs.Steps.{step_len}
use Rattle.esql_lex.proofs.Bodies.{walked, ended}
use Rattle.esql_lex.proofs.body.Body.len.Goals as goal

pub returns-then-step-eq0-clause-value : goal.returns-then-step-eq0-clause-value
returns-then-step-eq0-clause-value c = ended c.args.self c.args.text.now c.walk.len c.walk.invariant.so_far (sym (c.step-step.ensures ∙ ap (step_len c.args.self) c.split_at.ensures.back) ∙ c.if-step-eq0.true)

pub overflow_add-len : goal.overflow_add-len
overflow_add-len c = let w = walked c.args.self c.args.text.now c.walk.len c.step-step.result c.walk.invariant.within c.walk.invariant.so_far (sym (c.step-step.ensures ∙ ap (step_len c.args.self) c.split_at.ensures.back)) c.if-step-eq0.false in grind (arith, w.0)

pub walk-preserved : goal.walk-preserved
walk-preserved c = let w = walked c.args.self c.args.text.now c.walk.len c.step-step.result c.walk.invariant.within c.walk.invariant.so_far (sym (c.step-step.ensures ∙ ap (step_len c.args.self) c.split_at.ensures.back)) c.if-step-eq0.false in record { within = w.0; so_far = w.1 }
