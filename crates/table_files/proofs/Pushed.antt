-- What a push leaves.
use Rattle.std.proofs.Common.{◌≡◌, ℕ, cond, List, ◌++◌}
use Rattle.std.specs.Result.{is_ok, OnOk}
use Rattle.std.specs.declared.result.Result.{Result}
use Rattle.std.specs.declared.result.Result.TheVariants.{Ok, Err}

pub pushed : {T E : Type 0} (result : Result T E) (old new text : List ℕ) → new ≡ cond (is_ok result) (old ++ text) old → OnOk result (new ≡ old ++ text)
pushed (Ok x) old new text is = is
pushed (Err e) old new text is = tt
