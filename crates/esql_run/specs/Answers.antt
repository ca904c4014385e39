-- What a status says of the bytes that the output and the error stream took: what each had before is handed first, then
-- what it had after, where the sinks tell it.
use Rattle.std.specs.Prelude.{◌≡◌, ◌⊎◌, ℕ, List, [], Option}
use Rattle.esql_io.specs.Files.{Held}
use Rattle.esql_io.specs.Sinks.{with_more, TookFront}
use Rattle.answer_text.specs.Messages.{out_of_memory, cannot_read}
use Rattle.esql_run.specs.declared.status.Status.{Status}
use Rattle.esql_run.specs.declared.status.Status.TheVariants.{Done, Refused, Usage, BadData, ReadFault, WriteFault, NoMemory, PatternRoom}
use Rattle.esql_run.specs.Bytes.{Outcome}
use Rattle.esql_run.specs.Outcome.{AsksFile, IsOutcome}

-- the status tells what the words mean
abbrev pub IsTold : Status → Type 0
IsTold Done = Unit {0}
IsTold Refused = Unit {0}
IsTold Usage = Unit {0}
IsTold BadData = Unit {0}
IsTold ReadFault = ⊥
IsTold WriteFault = ⊥
IsTold NoMemory = ⊥
IsTold PatternRoom = ⊥

-- the status is that of an outcome of the words, and after what they had the output and the error stream took its bytes
pub record Tells (words : List (List ℕ)) (held : Held) (status : Status) (out out_after err err_after : Option (List ℕ)) : Type 0 where
  pub outcome : Outcome
  pub is : IsOutcome words held outcome
  pub same : status ≡ outcome.status
  pub wrote : out_after ≡ with_more out outcome.out
  pub warned : err_after ≡ with_more err outcome.err

-- Which status may come: those that tell an outcome, want of memory, a failed read where the files' count of faults rose, a
-- failed write where one of the sinks' did, and a pattern that is too large where the maker's count of refusals rose.
abbrev pub IsComplete : Status → Type 0 → Type 0 → Type 0 → Type 0
IsComplete Done read wrote made = Unit {0}
IsComplete Refused read wrote made = Unit {0}
IsComplete Usage read wrote made = Unit {0}
IsComplete BadData read wrote made = Unit {0}
IsComplete ReadFault read wrote made = read
IsComplete WriteFault read wrote made = wrote
IsComplete NoMemory read wrote made = Unit {0}
IsComplete PatternRoom read wrote made = made

-- The error stream is to have another line: that for want of memory; that for a failed read, where the files' count of faults
-- rose, with the name of the file whose call failed, which is one that the words open; or that for a pattern that is too large.
abbrev pub IsOtherLine : List (List ℕ) → Held → Type 0 → List ℕ → (List ℕ → Type 0) → List ℕ → Type 0
IsOtherLine words held read failed IsRoom line =
    (line ≡ out_of_memory) ⊎ (read × AsksFile words held failed × (line ≡ cannot_read failed)) ⊎ IsRoom line

-- After a failed write the output took a front of an outcome's bytes for it, and the error stream nothing; or the output
-- took all of them, and the error stream a front of its own; or the output took nothing, and the error stream a front of
-- another line.
abbrev pub TookFronts : List (List ℕ) → Held → Type 0 → List ℕ → (List ℕ → Type 0) → Option (List ℕ) → Option (List ℕ) → Option (List ℕ) → Option (List ℕ) → Type 0
TookFronts words held read failed IsRoom out out_after err err_after =
    ((outcome : Outcome) × IsOutcome words held outcome × TookFront out out_after outcome.out × (err_after ≡ err))
    ⊎ ((outcome : Outcome) × IsOutcome words held outcome × (out_after ≡ with_more out outcome.out) × TookFront err err_after outcome.err)
    ⊎ ((line : List ℕ) × IsOtherLine words held read failed IsRoom line × (out_after ≡ with_more out []) × TookFront err err_after line)

-- the output took nothing, and the error stream a line
abbrev pub TookLine : List ℕ → Option (List ℕ) → Option (List ℕ) → Option (List ℕ) → Option (List ℕ) → Type 0
TookLine line out out_after err err_after = (out_after ≡ with_more out []) × (err_after ≡ with_more err line)

-- the output took nothing, and the error stream the line for a pattern that is too large
abbrev pub TookRoom : (List ℕ → Type 0) → Option (List ℕ) → Option (List ℕ) → Option (List ℕ) → Option (List ℕ) → Type 0
TookRoom IsRoom out out_after err err_after = (line : List ℕ) × IsRoom line × TookLine line out out_after err err_after
