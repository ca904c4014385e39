-- Which calls on a file failed, by what is answered of it.
use Rattle.std.specs.Prelude.{ℕ, List, Option, Result, Ok, Err}
use Rattle.esql_io.specs.Files.{Held}
use Rattle.esql_io.specs.Calls.{NoneFailed, OneFailed}
use Rattle.ndjson_load.specs.declared.whole.ReadError.{ReadError}
use Rattle.ndjson_load.specs.declared.whole.ReadError.TheVariants as read
use Rattle.ndjson_load.specs.declared.cause.LoadError.{LoadError}
use Rattle.ndjson_load.specs.declared.cause.LoadError.TheVariants as load

-- a call on the file failed exactly where ReadFault is answered
abbrev pub CalledToRead : {Files A : Type 0} → (Files → Held) → (Files → ℕ) → (Files → List ℕ) → Option (List ℕ) → Result A ReadError → Files → Files → Type 0
CalledToRead holds faults failed file (Ok answer) old new = NoneFailed holds faults failed old new
CalledToRead holds faults failed file (Err read.ReadFault) old new = OneFailed holds faults failed file old new
CalledToRead holds faults failed file (Err read.TooLarge) old new = NoneFailed holds faults failed old new
CalledToRead holds faults failed file (Err (read.Memory error)) old new = NoneFailed holds faults failed old new

-- the same where the rows of the file are wanted
abbrev pub CalledToLoad : {Files A : Type 0} → (Files → Held) → (Files → ℕ) → (Files → List ℕ) → Option (List ℕ) → Result A LoadError → Files → Files → Type 0
CalledToLoad holds faults failed file (Ok answer) old new = NoneFailed holds faults failed old new
CalledToLoad holds faults failed file (Err load.ReadFault) old new = OneFailed holds faults failed file old new
CalledToLoad holds faults failed file (Err load.TooLarge) old new = NoneFailed holds faults failed old new
CalledToLoad holds faults failed file (Err (load.BadRow line field cause)) old new = NoneFailed holds faults failed old new
CalledToLoad holds faults failed file (Err (load.Memory error)) old new = NoneFailed holds faults failed old new
