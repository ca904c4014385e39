use Rattle.std.proofs.Common.{List, length, refl, ap, sym, ◌∙◌, arith}
use Rattle.esql_plan.specs.declared.plan.OutColumn.{OutColumn}
use Rattle.row_semantics.specs.Typed.{typed_of}
use Rattle.expression_analysis.specs.Answers.{visible_of}
use Rattle.plan_writing.proofs.Expressions.{patterns_at_most}
use Rattle.plan_writing.proofs.InputWrites.{column_written}
use Rattle.plan_writing.proofs.inputs.write_input.Goals as goal

pub typed_expr-requires-clause-whole : goal.typed_expr-requires-clause-whole
typed_expr-requires-clause-whole g c = omega (arith, c.requires.whole, (patterns_at_most c.args.expr.now).whole)

pub typed_expr-requires-clause-free : goal.typed_expr-requires-clause-free
typed_expr-requires-clause-free g c = omega (arith, c.requires.free, (patterns_at_most c.args.expr.now).free)

pub returns-in-Some-clause-written : goal.returns-in-Some-clause-written
returns-in-Some-clause-written g c =
    let expr = c.args.expr.now in
    let old = c.args.writing in
    column_written expr old (record { visible = old.visible; next = old.next; patterns = c.typed_expr.new.patterns; cutters = old.cutters; steps = old.steps }) c.in_ok-typed.typed c.in-Some.id
    c.in_ok-typed.ensures.typed
    (sym c.in-Some.ensures) refl refl c.in_ok-typed.ensures.read.0 c.in_ok-typed.ensures.read.1 refl refl
