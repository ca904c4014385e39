-- Over files that do not tell what they hold, the answer over tables is that of some contents.
use Rattle.std.proofs.Common.{◌≡◌, ℕ, List, Option, Some, None, Result, Ok, Err, IfOk, sym, subst, ⊎_elim}
use Rattle.esql_io.specs.Files.{Held}
use Rattle.esql_ast.specs.declared.query.Query.{Query}
use Rattle.esql_ast.specs.UseLaws.{UsesDiffer}
use Rattle.esql_ast.specs.Uses.{source_names}
use Rattle.ndjson_load.specs.Over.{Over}
use Rattle.esql_words.specs.declared.options.Format.{Format}
use Rattle.table_files.specs.declared.tables.Gathered.{Gathered}
use Rattle.table_files.specs.Answers.{IsGathered}
use Rattle.table_files.specs.Catalog.{Gathers}
use Rattle.table_files.specs.Found.{Found, nothing}
use Rattle.table_files.specs.Halts.{Halt}
use Rattle.table_files.specs.Laws.{HasOneContent, IsGoneSince, SomeGathering, SomeHalt, SomeLoading}
use Rattle.esql_run.specs.declared.rendered.Rendered.{Rendered}
use Rattle.esql_run.specs.declared.rendered.Unanswered.{Unanswered}
use Rattle.esql_run.specs.Bytes.{Outcome}
use Rattle.esql_run.specs.Made.{outcome_made}
use Rattle.esql_run.specs.Rooms.{IsRoomOf}
use Rattle.esql_run.specs.Stopped.{MadeToAnswer}
use Rattle.esql_run.specs.Tables.{halted, IsTablesOutcome, not_found, broken, not_loaded, loaded, AnswersTables, AskedByTables}

-- the laws of uses, and of files that do not tell what they hold
pub record ContentLaws : Type 0 where
  pub uses_differ : (query : Query) → UsesDiffer query
  pub some_gathering : SomeGathering
  pub some_loading : SomeLoading
  pub some_halt : SomeHalt

-- the tables and policies are those of what is held, or of some contents
pub found_somewhere : (laws : ContentLaws) (folder : Option (List ℕ)) (held : Held) (query : Query) (r : Result Found Halt) → Gathers folder held nothing (source_names query) r
    → Over held (λ bytes_of. Gathers folder (Some bytes_of) nothing (source_names query) r)
found_somewhere laws folder (Some held) query r gathers = gathers
found_somewhere laws folder None query r gathers = laws.some_gathering folder (source_names query) r gathers (laws.uses_differ query)

-- what is answered step by step is answered over what is held, or over some contents
pub settled : (laws : ContentLaws) (text : List ℕ) (folder : Option (List ℕ)) (format : Format) (held : Held) (query : Query) (outcome : Outcome) → IsTablesOutcome folder format held text query outcome
    → AnswersTables folder format text held query outcome
settled laws text folder format (Some held) query outcome is = is
settled laws text folder format None query outcome (not_found halt gathers) =
    let (held, over) = laws.some_gathering folder (source_names query) (Err halt) gathers (laws.uses_differ query) in (held, not_found halt over)
settled laws text folder format None query outcome (broken found first gathers shape) =
    let (held, over) = laws.some_gathering folder (source_names query) (Ok found) gathers (laws.uses_differ query) in (held, broken found first over shape)
settled laws text folder format None query outcome (not_loaded found columns halt gathers shape loads) =
    ⊎_elim
    (λ (one : HasOneContent folder (source_names query) found (Err halt)). (one.held, not_loaded found columns halt one.gathers shape one.loads))
    (λ (gone : IsGoneSince folder (source_names query) halt). (gone.held, not_found halt gone.gathers))
    (laws.some_halt folder (source_names query) found halt gathers (laws.uses_differ query) loads)
settled laws text folder format None query outcome (loaded found columns reads gathers shape loads) =
    let one : HasOneContent folder (source_names query) found (Ok reads) = laws.some_loading folder (source_names query) found reads gathers (laws.uses_differ query) loads in
    (one.held, loaded found columns reads one.gathers shape one.loads)

-- ---- after calls that do not change what is held

pub gathered_after : (given folder : Option (List ℕ)) (held after : Held) (query : Query) (gathered : Gathered) → given ≡ folder → after ≡ held → IsGathered given held query gathered → IsGathered folder after query gathered
gathered_after given folder held after query gathered same kept is =
    subst (λ (h : Held). IsGathered folder h query gathered) (sym kept) (subst (λ (f : Option (List ℕ)). IsGathered f held query gathered) same is)

pub settled_after : (laws : ContentLaws) (text : List ℕ) (folder : Option (List ℕ)) (format : Format) (held after : Held) (query : Query) (result : Result Rendered Unanswered) → after ≡ held
    → IfOk result (λ answer. IsTablesOutcome folder format after text query (outcome_made answer)) → IfOk result (λ answer. AnswersTables folder format text held query (outcome_made answer))
settled_after laws text folder format held after query (Ok answer) same is =
    settled laws text folder format held query (outcome_made answer) (subst (λ (h : Held). IsTablesOutcome folder format h text query (outcome_made answer)) same is)
settled_after laws text folder format held after query (Err error) same is = tt

pub asked_after : (folder : Option (List ℕ)) (text : List ℕ) (held after : Held) (query : Query) → after ≡ held → (file : List ℕ) → AskedByTables folder after text query file → AskedByTables folder held text query file
asked_after folder text held after query same file asked = subst (λ (h : Held). AskedByTables folder h text query file) same asked

pub made_after : {Maker : Type 0} (count : Maker → ℕ) (last : Maker → List ℕ) (folder : Option (List ℕ)) (text : List ℕ) (held after : Held) (query : Query) (result : Result Rendered Unanswered) (old new : Maker) → after ≡ held
    → MadeToAnswer count (IsRoomOf count last folder text after query) result old new → MadeToAnswer count (IsRoomOf count last folder text held query) result old new
made_after count last folder text held after query result old new same made = subst (λ (h : Held). MadeToAnswer count (IsRoomOf count last folder text h query) result old new) same made
