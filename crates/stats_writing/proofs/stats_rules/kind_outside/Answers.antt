use Rattle.std.proofs.Common.{ℕ, List, length, ap, arith}
use Rattle.plan_writing.proofs.Expressions.{patterns_at_most}
use Rattle.stats_writing.proofs.stats_rules.kind_outside.Goals as goal

pub typed_expr-requires-clause-whole : goal.typed_expr-requires-clause-whole
typed_expr-requires-clause-whole g c =
    omega (arith, c.requires, (patterns_at_most c.args.expr.now).whole, ap (λ (these : List (List ℕ)). length these) c.no_patterns-patterns.ensures.whole)

pub typed_expr-requires-clause-free : goal.typed_expr-requires-clause-free
typed_expr-requires-clause-free g c =
    omega (arith, c.requires, (patterns_at_most c.args.expr.now).free, ap (λ (these : List (List ℕ)). length these) c.no_patterns-patterns.ensures.free)
