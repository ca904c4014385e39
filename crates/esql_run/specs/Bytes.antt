-- A status, and the bytes of the output and of the error stream.
use Rattle.std.specs.Prelude.{ℕ, List, []}
use Rattle.esql_types.specs.declared.places.Span.{Span}
use Rattle.answer_text.specs.declared.refusals.Refusal.{Refusal}
use Rattle.answer_text.specs.Messages.{bad_data_line}
use Rattle.answer_text.specs.Refusals.{named_refusal_line, refusal_line}
use Rattle.esql_run.specs.declared.status.Status.{Status}
use Rattle.esql_run.specs.declared.status.Status.TheVariants.{Refused, BadData}

pub record Outcome : Type 0 where
  pub status : Status
  pub out : List ℕ
  pub err : List ℕ

-- the error stream has one line, and the output nothing
abbrev pub one_line : Status → List ℕ → Outcome
one_line status line = record { status = status; out = []; err = line }

-- the refusal of a part of the text
abbrev pub refused : List ℕ → Refusal → Span → Outcome
refused text refusal span = one_line Refused (refusal_line text refusal span)

-- the refusal of a name that the part of the text stands for
abbrev pub refused_name : List ℕ → Refusal → List ℕ → Span → Outcome
refused_name text refusal name span = one_line Refused (named_refusal_line text refusal name span)

-- a file is bad, as a message says that names it
abbrev pub bad_file : List ℕ → Outcome
bad_file message = one_line BadData (bad_data_line message)
