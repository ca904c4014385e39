-- One call on files after another.
use Rattle.std.proofs.Common.{ℕ, ◌≤◌, List, Option, refl, subst, ◌∙◌}
use Rattle.esql_types.specs.Counts.{Rose}
use Rattle.esql_io.specs.Files.{Held}
use Rattle.esql_io.specs.Calls.{NoneFailed, OneFailed}

-- no call was made yet
pub none_yet : {Files : Type 0} (holds : Files → Held) (faults : Files → ℕ) (failed : Files → List ℕ) (files : Files) → NoneFailed holds faults failed files files
none_yet holds faults failed files = record { held = refl; uncounted = refl; kept = refl }

-- no call failed, and none did after it
pub none_then : {Files : Type 0} {holds : Files → Held} {faults : Files → ℕ} {failed : Files → List ℕ} {old now new : Files}
    → NoneFailed holds faults failed old now → NoneFailed holds faults failed now new → NoneFailed holds faults failed old new
none_then first later = record {
  held = later.held ∙ first.held;
  uncounted = later.uncounted ∙ first.uncounted;
  kept = later.kept ∙ first.kept;
}

-- no call failed, and then one did
pub one_then : {Files : Type 0} {holds : Files → Held} {faults : Files → ℕ} {failed : Files → List ℕ} {file : Option (List ℕ)} {old now new : Files}
    → NoneFailed holds faults failed old now → OneFailed holds faults failed file now new → OneFailed holds faults failed file old new
one_then {Files} {holds} {faults} {failed} {file} {old} {now} {new} first later = record {
  held = later.held ∙ first.held;
  rose = subst (λ (n : ℕ). Rose n (faults new)) first.uncounted later.rose;
  counted = subst (λ (n : ℕ). n ≤ faults new) first.uncounted later.counted;
  named = later.named;
}
