-- What is to be written, and what was.
use Rattle.std.specs.Prelude.{◌≡◌, ◌⊎◌, ℕ, List, Option}
use Rattle.esql_io.specs.Sinks.{with_more, TookFront}
use Rattle.esql_run.specs.declared.status.Status.{Status}
use Rattle.esql_run.specs.declared.status.Status.TheVariants.{WriteFault}

-- both texts were written, and the status is the wanted one
pub record WroteBoth (status result : Status) (texts : List ℕ × List ℕ) (out out_after err err_after : Option (List ℕ)) : Type 0 where
  pub same : result ≡ status
  pub wrote : out_after ≡ with_more out texts.0
  pub warned : err_after ≡ with_more err texts.1

-- A write failed and a count of faults rose: the output took a front of its text and the error stream nothing, or the
-- output took all of its text and the error stream a front of its own.
pub record FailedWrite (result : Status) (texts : List ℕ × List ℕ) (out out_after err err_after : Option (List ℕ)) (rose : Type 0) : Type 0 where
  pub fault : result ≡ WriteFault
  pub counted : rose
  pub fronts : (TookFront out out_after texts.0 × (err_after ≡ err)) ⊎ ((out_after ≡ with_more out texts.0) × TookFront err err_after texts.1)

abbrev pub Writes : Status → Status → List ℕ × List ℕ → Option (List ℕ) → Option (List ℕ) → Option (List ℕ) → Option (List ℕ) → Type 0 → Type 0
Writes status result texts out out_after err err_after rose =
    WroteBoth status result texts out out_after err err_after ⊎ FailedWrite result texts out out_after err err_after rose
