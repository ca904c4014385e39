-- What a refusal of `regex` says of the pattern.
use Rattle.std.proofs.Common.{◌≢◌, ℕ, List, inl, inr, ⊎_elim}
use Rattle.regex_syntax.specs.Verdict.{default_config, Refuses}
use Rattle.regex_syntax.specs.declared.error.ErrorKind.{ErrorKind}
use Rattle.regex_syntax.specs.declared.error.ErrorKind.TheVariants.{OutOfMemory}
use Rattle.esql_types.specs.Patterns.{IsUnreadable}

pub unreadable_from_refusal : (pattern : List ℕ) (kind : ErrorKind) → kind ≢ OutOfMemory → Refuses default_config pattern kind → IsUnreadable pattern
unfolding Refuses
unreadable_from_refusal pattern kind other refuses = ⊎_elim (λ e. absurd (other e)) (λ rest. ⊎_elim inl (λ deep. inr deep.1) rest) refuses
