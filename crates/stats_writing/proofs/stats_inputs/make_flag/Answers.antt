use Rattle.std.proofs.Common.{[], ◌∷◌, Some, None, ap, ◌∙◌}
use Rattle.esql_plan.specs.declared.function.Function.TheVariants as function
use Rattle.row_semantics.specs.Typed.{typed_apply}
use Rattle.query_semantics.specs.Writings.{Writing, column_at}
use Rattle.query_semantics.specs.WrittenStats.{write_typed}
use Rattle.plan_writing.specs.Writings.{seen}
use Rattle.stats_writing.proofs.InputsWritten.{case_kind, typed_written}
use Rattle.stats_writing.proofs.stats_inputs.make_flag.Goals as goal

pub case_of-requires : goal.case_of-requires
case_of-requires g c = case_kind c.in_ok-made.made.typed.kind c.constant_true.result.kind

pub returns-clause-flag : goal.returns-clause-flag
returns-clause-flag g c =
    let id = c.in_ok-input.ensures.id ∙ ap (λ (writing : Writing). column_at writing.next) c.in_ok-made.ensures.seen in
    λ i. Some (record { node = c.args.condition.now.node; id = id i })

pub returns-clause-visible : goal.returns-clause-visible
returns-clause-visible g c = c.in_ok-input.ensures.visible ∙ ap (λ (writing : Writing). writing.visible) c.in_ok-made.ensures.seen

pub returns-clause-written : goal.returns-clause-written
returns-clause-written g c =
    let old = c.args.writing in
    let condition = c.args.condition.now in
    let ensures = c.in_ok-input.ensures in
    let is = c.in_ok-typed.ensures ∙ (λ i. typed_apply condition.node function.Case (c.in_ok-made.ensures.typed i ∷ c.constant_true.ensures i ∷ []) None) in
    typed_written condition.expr old c.in_ok-made.made.writing c.in_ok-input.input.writing c.in_ok-typed.typed c.in_ok-made.ensures.seen ensures.visible ensures.next ensures.patterns ensures.cutters ensures.steps
    ∙ ap (write_typed (seen old) condition.expr) is
