-- What a stop says, over files that tell what they hold and over those that do not.
use Rattle.std.specs.Prelude.{◌≡◌, ◌⊎◌, ℕ, List, Some, Result, Ok, Err}
use Rattle.esql_types.specs.Spans.{SpanFits}
use Rattle.esql_types.specs.declared.places.Span.{Span}
use Rattle.esql_io.specs.Files.{Held}
use Rattle.esql_io.specs.Calls.{NoneFailed, OneFailed}
use Rattle.answer_text.specs.declared.refusals.Refusal.TheVariants.{UnknownPolicy, UnknownTable}
use Rattle.answer_text.specs.Messages.{bad_data_line}
use Rattle.answer_text.specs.Refusals.{named_refusal_line, refusal_line}
use Rattle.table_files.specs.declared.stop.Stop.{Stop}
use Rattle.table_files.specs.declared.stop.Stop.TheVariants.{Refused, BadData, ReadFault, Memory}
use Rattle.table_files.specs.Halts.{Halt, unknown, unknown_of, unknown_policy, bad, place_of}

-- the line that tells where names halt
abbrev pub halt_line : List ℕ → Halt → List ℕ
halt_line text (unknown span) = refusal_line text UnknownTable span
halt_line text (unknown_of name span) = named_refusal_line text UnknownTable name span
halt_line text (unknown_policy span) = refusal_line text UnknownPolicy span
halt_line text (bad message) = bad_data_line message

-- the line refuses a name, whose place is a part of the text
pub record Refuses (text : List ℕ) (HaltsAt : Halt → Type 0) (line : List ℕ) : Type 0 where
  pub halt : Halt
  pub halts : HaltsAt halt
  pub span : Span
  pub place : place_of halt ≡ Some span
  pub fits : SpanFits text span
  pub is : line ≡ halt_line text halt

-- the line tells of a bad file
pub record TellsBad (HaltsAt : Halt → Type 0) (line : List ℕ) : Type 0 where
  pub message : List ℕ
  pub halts : HaltsAt (bad message)
  pub is : line ≡ bad_data_line message

-- what is answered is what is meant for the text, and a stop is told in its line; nothing is said of it where a call failed or
-- memory was refused
abbrev pub Says : {A : Type 0} → List ℕ → (Result A Halt → Type 0) → Result A Stop → Type 0
Says text Means (Ok a) = Means (Ok a)
Says text Means (Err (Refused line)) = Refuses text (λ halt. Means (Err halt)) line
Says text Means (Err (BadData line)) = TellsBad (λ halt. Means (Err halt)) line
Says text Means (Err (ReadFault file)) = Unit {0}
Says text Means (Err (Memory error)) = Unit {0}

-- no call failed
abbrev pub IsNoReadFault : Stop → Type 0
IsNoReadFault (Refused line) = Unit {0}
IsNoReadFault (BadData line) = Unit {0}
IsNoReadFault (ReadFault file) = ⊥
IsNoReadFault (Memory error) = Unit {0}

-- A call failed on a file that was asked for exactly where ReadFault names it. Where memory was refused none failed, or one
-- did on such a file.
abbrev pub CalledToStop : {Files : Type 0} → (Files → Held) → (Files → ℕ) → (Files → List ℕ) → (List ℕ → Type 0) → Stop → Files → Files → Type 0
CalledToStop holds faults failed IsAsked (Refused line) old new = NoneFailed holds faults failed old new
CalledToStop holds faults failed IsAsked (BadData line) old new = NoneFailed holds faults failed old new
CalledToStop holds faults failed IsAsked (ReadFault file) old new = IsAsked file × OneFailed holds faults failed (Some file) old new
CalledToStop holds faults failed IsAsked (Memory error) old new =
    NoneFailed holds faults failed old new ⊎ ((file : List ℕ) × IsAsked file × OneFailed holds faults failed (Some file) old new)

-- no call failed, or those before a stop
abbrev pub CalledUntilStop : {Files A : Type 0} → (Files → Held) → (Files → ℕ) → (Files → List ℕ) → (List ℕ → Type 0) → Result A Stop → Files → Files → Type 0
CalledUntilStop holds faults failed IsAsked (Ok a) old new = NoneFailed holds faults failed old new
CalledUntilStop holds faults failed IsAsked (Err stop) old new = CalledToStop holds faults failed IsAsked stop old new
