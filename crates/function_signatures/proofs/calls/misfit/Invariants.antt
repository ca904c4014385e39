use Rattle.std.proofs.Common.{◌≡◌, length, drop}
use Rattle.esql_plan.specs.Signatures.{arguments, first_misfit, no_kinds, wants_of}
use Rattle.function_signatures.specs.Tables.{kinds_meant, parameters_meant}
use Rattle.function_signatures.proofs.Walks.{misfit_behind}
use Rattle.function_signatures.proofs.calls.misfit.Given as goal

abbrev pub invariant-loop-place : goal.invariant-loop-place
invariant-loop-place l =
    let wants = wants_of (parameters_meant l.signature.parameters) (length l.kinds) in
    first_misfit l.signature.widens no_kinds (arguments wants l.kinds) ≡ misfit_behind l.place l.signature.widens (kinds_meant l.so_far) (arguments (drop l.place wants) (drop l.place l.kinds))
