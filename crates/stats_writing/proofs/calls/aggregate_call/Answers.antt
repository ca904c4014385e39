use Rattle.std.proofs.Common.{Bool, Option, map, ap, sym, ◌∙◌}
use Rattle.esql_ast.specs.declared.expr.Expr.{Expr}
use Rattle.query_semantics.specs.Calls.{AggregateCall, aggregate_call, opened}
use Rattle.stats_writing.proofs.CallsFound.{first_argument}
use Rattle.stats_writing.proofs.calls.aggregate_call.Goals as goal

pub returns-else-star : goal.returns-else-star
returns-else-star c =
    let to_call : Option Expr → AggregateCall = λ argument. record { node = c.args.node; function = c.args.function; argument = argument } in
    ap to_call (c.first.ensures.value ∙ first_argument c.args.args.now)
    ∙ sym (ap (λ (star : Bool). aggregate_call c.args.function star (map opened c.args.args.now) c.args.node) c.if-star.false)
