use Rattle.std.proofs.Common.{◌≡◌, length, drop}
use Rattle.esql_plan.specs.Signatures.{arguments, kinds_in, no_kinds, wants_of}
use Rattle.function_signatures.specs.Tables.{kinds_meant, parameters_meant}
use Rattle.function_signatures.proofs.calls.kinds_in.Given as goal

abbrev pub invariant-loop-place : goal.invariant-loop-place
invariant-loop-place l =
    let wants = wants_of (parameters_meant l.parameters) (length l.kinds) in
    kinds_in no_kinds (arguments wants l.kinds) ≡ kinds_in (kinds_meant l.so_far) (arguments (drop l.place wants) (drop l.place l.kinds))
