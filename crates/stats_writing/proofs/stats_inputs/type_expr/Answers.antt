use Rattle.std.proofs.Common.{arith}
use Rattle.plan_writing.proofs.Expressions.{patterns_at_most}
use Rattle.stats_writing.proofs.stats_inputs.type_expr.Goals as goal

pub typed_expr-requires-clause-whole : goal.typed_expr-requires-clause-whole
typed_expr-requires-clause-whole g c = omega (arith, c.requires.whole, (patterns_at_most c.args.expr.now).whole)

pub typed_expr-requires-clause-free : goal.typed_expr-requires-clause-free
typed_expr-requires-clause-free g c = omega (arith, c.requires.free, (patterns_at_most c.args.expr.now).free)
