use Rattle.std.proofs.Common.{arith}
use Rattle.plan_writing.proofs.Expressions.{patterns_at_most}
use Rattle.stats_writing.proofs.stats.type_field.Goals as goal

pub typed_field-requires-clause-whole : goal.typed_field-requires-clause-whole
typed_field-requires-clause-whole g c = omega (arith, c.requires.whole, (patterns_at_most c.args.expr.now).whole)

pub typed_field-requires-clause-free : goal.typed_field-requires-clause-free
typed_field-requires-clause-free g c = omega (arith, c.requires.free, (patterns_at_most c.args.expr.now).free)
