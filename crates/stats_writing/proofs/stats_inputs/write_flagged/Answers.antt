use Rattle.std.proofs.Common.{[], ◌∷◌, Some, None, ap, ◌∙◌}
use Rattle.esql_plan.specs.declared.function.Function.TheVariants as function
use Rattle.row_semantics.specs.Typed.{typed_apply}
use Rattle.query_semantics.specs.Writings.{Writing, column_at}
use Rattle.query_semantics.specs.WrittenStats.{write_typed}
use Rattle.plan_writing.specs.Writings.{seen}
use Rattle.stats_writing.proofs.InputsWritten.{case_kind, typed_written}
use Rattle.stats_writing.proofs.stats_inputs.write_flagged.Goals as goal

pub case_of-requires : goal.case_of-requires
case_of-requires g c = case_kind c.read_flag.result.kind c.in_ok-made.made.typed.kind

pub returns-clause-id : goal.returns-clause-id
returns-clause-id g c =
    let id = c.in_ok-make_input.ensures.id ∙ ap (λ (writing : Writing). column_at writing.next) c.in_ok-made.ensures.seen in
    λ i. Some (id i)

pub returns-clause-visible : goal.returns-clause-visible
returns-clause-visible g c = c.in_ok-make_input.ensures.visible ∙ ap (λ (writing : Writing). writing.visible) c.in_ok-made.ensures.seen

pub returns-clause-written : goal.returns-clause-written
returns-clause-written g c =
    let old = c.args.writing in
    let flag = c.args.flag in
    let argument = c.args.argument.now in
    let ensures = c.in_ok-make_input.ensures in
    let is = c.in_ok-typed.ensures ∙ (λ i. typed_apply flag.node function.Case (c.read_flag.ensures i ∷ c.in_ok-made.ensures.typed i ∷ []) None) in
    typed_written argument old c.in_ok-made.made.writing c.in_ok-make_input.field-0.writing c.in_ok-typed.typed c.in_ok-made.ensures.seen ensures.visible ensures.next ensures.patterns ensures.cutters ensures.steps
    ∙ ap (write_typed (seen old) argument) is
