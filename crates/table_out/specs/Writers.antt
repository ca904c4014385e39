-- Where a writer of records over a vector stands, for the clauses of the functions that write them.
use Rattle.std.specs.Prelude.{◌≡◌, ℕ, ◌<◌, ◌-◌, ◌^◌, ◌==◌, ◌&&◌, ◌||◌, not, List, [], ◌∷◌, ◌++◌, length, IsUtf8, Vec}
use Rattle.std.specs.declared.alloc.Global.{Global}
use Rattle.csv.specs.Writing.{default_writer, writer_setup, fields_written, has_written, writer_under, writer_pending, is_blank, row_body, row_text}
use Rattle.csv.specs.declared.writer.Writer.{Writer}

abbrev pub RecordWriter : Type 0
RecordWriter = Writer (Vec ℕ Global)

-- the bytes that it was given so far
abbrev pub text_in : RecordWriter → List ℕ
text_in writer = (writer_under writer).items ++ writer_pending writer

-- a default writer, with the text of whole records and the fields of the one that is begun
abbrev pub Stands : RecordWriter → List ℕ → List (List ℕ) → Type 0
Stands writer before fields =
    (writer_setup writer ≡ default_writer)
    × (text_in writer ≡ before ++ row_body default_writer fields)
    × (fields_written writer ≡ length fields)
    × (is_blank default_writer fields ≡ (not (has_written writer) && ((length fields == 0) || (length fields == 1))))
    × IsUtf8 (text_in writer)

-- one field more in the record that is begun
abbrev pub TakesField : RecordWriter → RecordWriter → List ℕ → Type 0
TakesField old new field =
    (before : List ℕ) (fields : List (List ℕ)) → length fields < 2 ^ 64 - 1 → Stands old before fields → Stands new before (fields ++ field ∷ [])

-- the record that is begun is ended
abbrev pub EndsRecord : RecordWriter → RecordWriter → Type 0
EndsRecord old new =
    (before : List ℕ) (fields : List (List ℕ)) → Stands old before fields → Stands new (before ++ row_text default_writer fields) []

-- the text of whole records more
abbrev pub TakesText : RecordWriter → RecordWriter → List ℕ → Type 0
TakesText old new text = (before : List ℕ) → Stands old before [] → Stands new (before ++ text) []
