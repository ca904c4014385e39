-- What calls on files do to what the files tell beside their bytes: what they hold, how many calls failed, and the name at
-- the last that did. The three are handed first, as the files tell them.
use Rattle.std.specs.Prelude.{◌≡◌, ℕ, ◌≤◌, List, Option, IfSome, Result, Ok, Err}
use Rattle.esql_types.specs.Counts.{Rose}
use Rattle.esql_io.specs.Files.{Held}

-- no call failed: what is held is the same, the count of faults too, and so is the name at the last one
pub record NoneFailed {Files : Type 0} (holds : Files → Held) (faults : Files → ℕ) (failed : Files → List ℕ) (old new : Files) : Type 0 where
  pub held : holds new ≡ holds old
  pub uncounted : faults new ≡ faults old
  pub kept : failed new ≡ failed old

-- A call on a file failed: what is held is the same, the count of faults rose, and the name at the last one is that of the
-- file, where it had one.
pub record OneFailed {Files : Type 0} (holds : Files → Held) (faults : Files → ℕ) (failed : Files → List ℕ) (file : Option (List ℕ)) (old new : Files) : Type 0 where
  pub held : holds new ≡ holds old
  pub rose : Rose (faults old) (faults new)
  pub counted : faults old ≤ faults new
  pub named : IfSome file (λ name. failed new ≡ name)

-- a call on a file failed exactly where an error is answered
abbrev pub Called : {Files A E : Type 0} → (Files → Held) → (Files → ℕ) → (Files → List ℕ) → Option (List ℕ) → Result A E → Files → Files → Type 0
Called holds faults failed file (Ok answer) old new = NoneFailed holds faults failed old new
Called holds faults failed file (Err error) old new = OneFailed holds faults failed file old new
