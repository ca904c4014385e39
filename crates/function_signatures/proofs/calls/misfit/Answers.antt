use Rattle.std.proofs.Common.{◌+◌, length, drop, List, sym, ap, ◌∙◌}
use Rattle.esql_plan.specs.Signatures.{Argument, arguments, no_kinds, wants_of}
use Rattle.function_signatures.specs.Tables.{kinds_meant, parameters_meant, want_meant}
use Rattle.function_signatures.proofs.Walks.{arguments-end, misfit_behind, misfit-all, misfit-fits}
use Rattle.function_signatures.proofs.calls.misfit.Goals as goal

pub loop-place-init : goal.loop-place-init
loop-place-init c =
    let signature = c.signature_of-signature.result in
    let args = arguments (wants_of (parameters_meant signature.parameters) (length c.args.kinds.now)) c.args.kinds.now in
    rw c.none-so_far.ensures (misfit-all signature.widens no_kinds args)

pub loop-place-preserved : goal.loop-place-preserved
loop-place-preserved c =
    let signature = c.signature_of-signature.result in
    let place = c.loop-place.place in
    let kinds = c.args.kinds.now in
    let wants = wants_of (parameters_meant signature.parameters) (length kinds) in
    rw c.with_kind-so_far.ensures
    (c.loop-place.invariant
    ∙ misfit-fits place signature.widens (kinds_meant c.loop-place.so_far) wants (drop (place + 1) wants) kinds (want_meant c.in_ok-want.want) _
    c.loop-place-test.true c.in_ok-want.ensures (sym c.fits.ensures ∙ c.if-not-fits.false))

pub returns : goal.returns
returns c =
    let signature = c.signature_of-signature.result in
    let place = c.loop-place.place in
    let wants = wants_of (parameters_meant signature.parameters) (length c.args.kinds.now) in
    let none = arguments-end (drop place wants) place c.args.kinds.now c.loop-place-test.false in
    rw (← c.signature_of-signature.ensures)
    (sym (c.loop-place.invariant ∙ ap (λ (args : List Argument). misfit_behind place signature.widens (kinds_meant c.loop-place.so_far) args) none))
