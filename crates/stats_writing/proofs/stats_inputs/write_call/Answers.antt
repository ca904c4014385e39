use Rattle.std.proofs.Common.{Option, ap, sym, subst}
use Rattle.std.specs.Option.{option_copied}
use Rattle.esql_ast.specs.declared.expr.Expr.{Expr}
use Rattle.stats_writing.specs.Parts.{OneIsRefused, judged_outside, judged_argument}
use Rattle.stats_writing.proofs.OneRefused.{refused_alone}
use Rattle.stats_writing.proofs.stats_inputs.write_call.Goals as goal

pub returns-in-Err-clause-refusal : goal.returns-in-Err-clause-refusal
returns-in-Err-clause-refusal g c =
    let visible = c.args.writing.visible in
    let error = c.in-Err.error in
    subst (λ (argument : Option Expr). OneIsRefused (judged_argument visible argument) error) (sym (ap option_copied c.in-Some.is))
    (refused_alone (judged_outside visible c.in-Some.argument.now) error c.in-Err.ensures.refusal)
