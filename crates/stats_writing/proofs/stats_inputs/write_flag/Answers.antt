use Rattle.std.proofs.Common.{Option, IfErr, sym, subst}
use Rattle.esql_ast.specs.declared.query.Condition.{Condition}
use Rattle.stats_writing.specs.Parts.{OneIsRefused, judged_outside, judged_condition}
use Rattle.stats_writing.proofs.OneRefused.{err_alone}
use Rattle.stats_writing.proofs.stats_inputs.write_flag.Goals as goal

pub returns-in-Some-clause-refusal : goal.returns-in-Some-clause-refusal
returns-in-Some-clause-refusal g c =
    let visible = c.args.writing.visible in
    subst (λ (condition : Option Condition). IfErr c.make_flag.result (OneIsRefused (judged_condition visible condition))) (sym c.in-Some.is)
    (err_alone (judged_outside visible c.in-Some.condition.expr) c.make_flag.result c.make_flag.ensures.refusal)
