-- What was written where memory was refused and a write failed.
use Rattle.std.proofs.Common.{◌≡◌, ℕ, List, [], ◌∷◌, Option, Some, None, refl, sym, ◌∙◌, ap, subst, inr, ⊎_elim, append-nil}
use Rattle.esql_io.specs.Files.{Held}
use Rattle.esql_io.specs.Sinks.{with_more, TookFront}
use Rattle.esql_run.specs.declared.status.Status.{Status}
use Rattle.esql_run.specs.declared.status.Status.TheVariants.{WriteFault}
use Rattle.esql_run.specs.Answers.{TookFronts, TookLine, IsOtherLine}
use Rattle.esql_run.specs.Writing.{WroteBoth, FailedWrite, Writes}

with_more-nil : (taken : Option (List ℕ)) → with_more taken [] ≡ taken
with_more-nil None = refl
with_more-nil (Some bytes) = ap Some (append-nil bytes)

-- a front of nothing is nothing
took_nothing : (old new : Option (List ℕ)) → TookFront old new [] → new ≡ with_more old []
took_nothing old new ([], rest, whole, took) = took
took_nothing old new (byte ∷ front, rest, whole, took) = absurd cc

-- the output took nothing, and the error stream a front of another line
pub line_fronts : (status : Status) (line : List ℕ) (words : List (List ℕ)) (held : Held) (read : Type 0) (failed : List ℕ) (IsRoom : List ℕ → Type 0) (result : Status) (texts : List ℕ × List ℕ) (out out_after err err_after : Option (List ℕ)) (rose : Type 0)
    → (status ≡ WriteFault → ⊥) → IsOtherLine words held read failed IsRoom line → texts ≡ ([], line) → Writes status result texts out out_after err err_after rose → result ≡ WriteFault
    → TookFronts words held read failed IsRoom out out_after err err_after
line_fronts status line words held read failed IsRoom result texts out out_after err err_after rose other is are writes fault =
    ⊎_elim
    (λ (both : WroteBoth status result texts out out_after err err_after). absurd (other (sym both.same ∙ fault)))
    (λ (stopped : FailedWrite result texts out out_after err err_after rose). inr (inr (⊎_elim
    (λ front. (
      line,
      is,
      took_nothing out out_after (subst (λ (t : List ℕ × List ℕ). TookFront out out_after t.0) are front.0),
      ([], line, refl, front.1 ∙ sym (with_more-nil err)),
    ))
    (λ front. (line, is, front.0 ∙ ap (λ (t : List ℕ × List ℕ). with_more out t.0) are, subst (λ (t : List ℕ × List ℕ). TookFront err err_after t.1) are front.1))
    stopped.fronts)))
    writes

-- what was written where no write failed
pub line_taken : (status : Status) (line named : List ℕ) (result : Status) (texts : List ℕ × List ℕ) (out out_after err err_after : Option (List ℕ)) (rose : Type 0)
    → (status ≡ WriteFault → ⊥) → texts ≡ ([], line) → line ≡ named → Writes status result texts out out_after err err_after rose → result ≡ status → TookLine named out out_after err err_after
line_taken status line named result texts out out_after err err_after rose other are is writes same =
    ⊎_elim
    (λ (both : WroteBoth status result texts out out_after err err_after). (
      both.wrote ∙ ap (λ (t : List ℕ × List ℕ). with_more out t.0) are,
      both.warned ∙ ap (λ (t : List ℕ × List ℕ). with_more err t.1) are ∙ ap (with_more err) is,
    ))
    (λ (stopped : FailedWrite result texts out out_after err err_after rose). absurd (other (sym same ∙ stopped.fault)))
    writes
