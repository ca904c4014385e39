-- Where tables halt, a rule is broken, a pattern is too large, or a call on a file failed.
use Rattle.std.specs.Prelude.{◌≡◌, List, ℕ, Some, Result, Ok, Err}
use Rattle.esql_io.specs.Files.{Held}
use Rattle.esql_io.specs.Calls.{NoneFailed, OneFailed}
use Rattle.esql_types.specs.Spans.{SpanFits}
use Rattle.table_files.specs.declared.stop.Stop.{Stop}
use Rattle.table_files.specs.declared.stop.Stop.TheVariants.{Refused as StoppedByRefusal, BadData as StoppedByFile, ReadFault as StoppedByFault, Memory as StoppedByMemory}
use Rattle.expression_analysis.specs.declared.error.AnalyzeError.{AnalyzeError}
use Rattle.expression_analysis.specs.declared.error.AnalyzeError.TheVariants.{Broken, PatternRoom as StoppedByRoom, Memory as LackedMemory}
use Rattle.answer_text.specs.declared.refusals.Refusal.TheVariants as refusal
use Rattle.answer_text.specs.Refusals.{refusal_line}
use Rattle.esql_run.specs.declared.rendered.Rendered.{Rendered}
use Rattle.esql_run.specs.declared.rendered.Unanswered.{Unanswered}
use Rattle.esql_run.specs.declared.rendered.Unanswered.TheVariants.{ReadFault, PatternRoom, Memory}
use Rattle.esql_run.specs.declared.status.Status.TheVariants.{Refused, BadData}
use Rattle.esql_run.specs.Bytes.{one_line, refused}
use Rattle.esql_run.specs.Made.{outcome_made}
use Rattle.esql_run.specs.Tables.{refusal_of}

-- a call failed exactly where ReadFault names its file, which is one that was asked for; nothing is said where memory was
-- refused
abbrev pub CalledToAnswer : {Files : Type 0} → (Files → Held) → (Files → ℕ) → (Files → List ℕ) → (List ℕ → Type 0) → Result Rendered Unanswered → Files → Files → Type 0
CalledToAnswer holds faults failed IsAsked (Ok answer) old new = NoneFailed holds faults failed old new
CalledToAnswer holds faults failed IsAsked (Err (ReadFault file)) old new = IsAsked file × OneFailed holds faults failed (Some file) old new
CalledToAnswer holds faults failed IsAsked (Err (PatternRoom line)) old new = NoneFailed holds faults failed old new
CalledToAnswer holds faults failed IsAsked (Err (Memory error)) old new = Unit {0}

-- a pattern was too large exactly where PatternRoom has the line that says so, and else the maker counts no more refusals;
-- nothing is said where memory was refused
abbrev pub MadeToAnswer : {Maker : Type 0} → (Maker → ℕ) → (Maker → Maker → List ℕ → Type 0) → Result Rendered Unanswered → Maker → Maker → Type 0
MadeToAnswer count IsRoom (Ok answer) old new = count new ≡ count old
MadeToAnswer count IsRoom (Err (ReadFault file)) old new = count new ≡ count old
MadeToAnswer count IsRoom (Err (PatternRoom line)) old new = IsRoom old new line
MadeToAnswer count IsRoom (Err (Memory error)) old new = Unit {0}

-- the answer to a stop is its line; a failed call and want of memory are handed on
abbrev pub IsStopped : Stop → Result Rendered Unanswered → Type 0
IsStopped (StoppedByRefusal line) (Ok answer) = outcome_made answer ≡ one_line Refused line
IsStopped (StoppedByFile line) (Ok answer) = outcome_made answer ≡ one_line BadData line
IsStopped (StoppedByFault file) (Ok answer) = ⊥
IsStopped (StoppedByMemory error) (Ok answer) = ⊥
IsStopped (StoppedByFault file) (Err (ReadFault named)) = named ≡ file
IsStopped stop (Err (ReadFault named)) = ⊥
IsStopped stop (Err (PatternRoom line)) = ⊥
IsStopped stop (Err (Memory error)) = Unit {0}

-- the answer to a broken rule is its refusal; at a pattern that is too large there is the line that says so, and want of memory
-- is handed on
abbrev pub IsUnprepared : List ℕ → AnalyzeError → Result Rendered Unanswered → Type 0
IsUnprepared text (Broken rule span) (Ok answer) = outcome_made answer ≡ refused text (refusal_of rule) span
IsUnprepared text (StoppedByRoom span) (Ok answer) = ⊥
IsUnprepared text (LackedMemory error) (Ok answer) = ⊥
IsUnprepared text error (Err (ReadFault named)) = ⊥
IsUnprepared text (StoppedByRoom span) (Err (PatternRoom line)) = line ≡ refusal_line text refusal.PatternRoom span
IsUnprepared text error (Err (PatternRoom line)) = ⊥
IsUnprepared text error (Err (Memory lack)) = Unit {0}

-- the place that an error of analysis names is a part of the text
abbrev pub ErrorFits : List ℕ → AnalyzeError → Type 0
ErrorFits text (Broken rule span) = SpanFits text span
ErrorFits text (StoppedByRoom span) = SpanFits text span
ErrorFits text (LackedMemory error) = Unit {0}

-- no pattern was too large
abbrev pub IsNoRoom : Unanswered → Type 0
IsNoRoom (ReadFault file) = Unit {0}
IsNoRoom (PatternRoom line) = ⊥
IsNoRoom (Memory error) = Unit {0}
