use Rattle.std.proofs.Common.{length, drop, sym, ap, ◌∙◌, List}
use Rattle.esql_plan.specs.Signatures.{Argument, kinds_in, wants_of}
use Rattle.function_signatures.specs.Tables.{kinds_meant, parameters_meant}
use Rattle.function_signatures.proofs.Walks.{arguments-end}
use Rattle.function_signatures.proofs.calls.kinds_in.Goals as goal

pub returns : goal.returns
returns c =
    let wants = wants_of (parameters_meant c.args.parameters) (length c.args.kinds.now) in
    let place = c.loop-place.place in
    let none = arguments-end (drop place wants) place c.args.kinds.now c.loop-place-test.false in
    sym (c.loop-place.invariant ∙ ap (λ (args : List Argument). kinds_in (kinds_meant c.loop-place.so_far) args) none)
