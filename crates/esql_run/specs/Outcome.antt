-- What the program answers to its words: a status, and the bytes of its output and of its error stream.
use Rattle.std.specs.Prelude.{◌≡◌, ◌⊎◌, ℕ, List, [], Option, Some, None}
use Rattle.esql_io.specs.Files.{Held}
use Rattle.esql_types.specs.declared.places.Span.{Span}
use Rattle.esql_ast.specs.declared.query.Query.{Query}
use Rattle.esql_ast.specs.Uses.{source_names}
use Rattle.esql_answer.specs.Queries.{IsQuery, IsNoQuery}
use Rattle.answer_text.specs.declared.refusals.Refusal.{Refusal}
use Rattle.answer_text.specs.declared.refusals.Refusal.TheVariants.{NotBuilt}
use Rattle.answer_text.specs.Messages.{usage}
use Rattle.esql_words.specs.declared.options.Format.{Format}
use Rattle.esql_words.specs.declared.options.Options.{Options}
use Rattle.esql_words.specs.declared.options.Request.{Request}
use Rattle.esql_words.specs.declared.options.Request.TheVariants.{Query as AskQuery, Generate}
use Rattle.esql_words.specs.Words.{options_of}
use Rattle.esql_run.specs.Bytes.{Outcome, one_line, refused}
use Rattle.esql_run.specs.Built.{unbuilt_of}
use Rattle.esql_run.specs.Tables.{AnswersTables, AskedByTables}
use Rattle.esql_run.specs.Generated.{IsGenerated}
use Rattle.esql_run.specs.declared.status.Status.TheVariants.{Usage}

-- the first command that is not built is refused where it stands; where each is built the query is answered over its tables and policies
abbrev pub AnswersBy : Option Span → Option (List ℕ) → Format → List ℕ → Held → Query → Outcome → Type 0
AnswersBy (Some span) folder format text held query outcome = outcome ≡ refused text NotBuilt span
AnswersBy None folder format text held query outcome = AnswersTables folder format text held query outcome

abbrev pub AnswersQuery : Option (List ℕ) → Format → List ℕ → Held → Query → Outcome → Type 0
AnswersQuery folder format text held query outcome = AnswersBy (unbuilt_of query) folder format text held query outcome

-- the outcome of a text: that of its query, or the refusal of what is no query
abbrev pub IsAnswer : Option (List ℕ) → Format → List ℕ → Held → Outcome → Type 0
IsAnswer folder format text held outcome =
    ((query : Query) × IsQuery text query × AnswersQuery folder format text held query outcome)
    ⊎ ((refusal : Refusal) × (span : Span) × IsNoQuery text refusal span × (outcome ≡ refused text refusal span))

abbrev pub wrong_words : Outcome
wrong_words = one_line Usage usage

-- A query is answered over files of the folder, in the format; with `--generate` the program's own over a table that is made.
abbrev pub AnswersRequest : Option (List ℕ) → Format → Request → Held → Outcome → Type 0
AnswersRequest folder format (AskQuery text) held outcome = IsAnswer folder format text held outcome
AnswersRequest folder format (Generate seed rows) held outcome = IsGenerated (record { seed = seed; rows = rows; format = format }) outcome

-- the usage is shown where words ask for nothing; how many rows a page has changes nothing
abbrev pub AnswersOptions : Option Options → Held → Outcome → Type 0
AnswersOptions None held outcome = outcome ≡ wrong_words
AnswersOptions (Some options) held outcome = AnswersRequest options.folder options.format options.request held outcome

-- the outcome of the words, over files that may tell what they hold
abbrev pub IsOutcome : List (List ℕ) → Held → Outcome → Type 0
IsOutcome words held outcome = AnswersOptions (options_of words) held outcome

-- no file is read for the query of the text, if it has one: a command is refused, or no table and no policy is named
abbrev pub ReadsNoFile : List ℕ → Type 0
ReadsNoFile text = (query : Query) → IsQuery text query → unbuilt_of query ≡ None → source_names query ≡ []

-- no file is read for what is asked
abbrev pub RequestReadsNoFile : Request → Type 0
RequestReadsNoFile (AskQuery text) = ReadsNoFile text
RequestReadsNoFile (Generate seed rows) = Unit {0}

abbrev pub OptionsReadNoFile : Option Options → Type 0
OptionsReadNoFile None = Unit {0}
OptionsReadNoFile (Some options) = RequestReadsNoFile options.request

-- what is read is known: the files tell what they hold, or no file is read
abbrev pub OptionsReadKnown : Option Options → Held → Type 0
OptionsReadKnown options (Some held) = Unit {0}
OptionsReadKnown options None = OptionsReadNoFile options

-- what is read for the words is known
abbrev pub ReadsKnown : List (List ℕ) → Held → Type 0
ReadsKnown words held = OptionsReadKnown (options_of words) held

-- a query opens files where each command is built
abbrev pub AsksForQuery : Option (List ℕ) → List ℕ → Held → Query → List ℕ → Type 0
AsksForQuery folder text held query file = (unbuilt_of query ≡ None) × AskedByTables folder held text query file

-- the text is that of a query that opens the file
abbrev pub IsFileFor : Option (List ℕ) → List ℕ → Held → List ℕ → Type 0
IsFileFor folder text held file = (query : Query) × IsQuery text query × AsksForQuery folder text held query file

abbrev pub RequestAsksFile : Option (List ℕ) → Request → Held → List ℕ → Type 0
RequestAsksFile folder (AskQuery text) held file = IsFileFor folder text held file
RequestAsksFile folder (Generate seed rows) held file = ⊥

abbrev pub OptionsAskFile : Option Options → Held → List ℕ → Type 0
OptionsAskFile None held file = ⊥
OptionsAskFile (Some options) held file = RequestAsksFile options.folder options.request held file

-- The words open the file over what is held. Where they ask for no query, where the text is no query, and where a command that is not
-- built is refused, no file is opened.
abbrev pub AsksFile : List (List ℕ) → Held → List ℕ → Type 0
AsksFile words held file = OptionsAskFile (options_of words) held file
