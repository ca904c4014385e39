-- What is answered where tables halt.
use Rattle.std.proofs.Common.{◌≡◌, ℕ, List, Result, Ok, Err, IfOk, IfErr, Option, Some, refl, sym, subst, ap, ◌∙◌}
use Rattle.esql_io.specs.Files.{Held}
use Rattle.esql_io.specs.Calls.{NoneFailed, OneFailed}
use Rattle.esql_io.proofs.Calls.{none_then, one_then}
use Rattle.esql_types.specs.declared.names.Column.{Column}
use Rattle.esql_types.specs.declared.places.Span.{Span}
use Rattle.esql_ast.specs.declared.query.Query.{Query}
use Rattle.esql_ast.specs.Uses.{source_names}
use Rattle.esql_plan.specs.declared.catalog.Catalog.{Catalog}
use Rattle.plan_rows.specs.Held.{tables_held}
use Rattle.query_semantics.specs.Shapes.{shape_of}
use Rattle.esql_words.specs.declared.options.Format.{Format}
use Rattle.table_files.specs.declared.stop.Stop.{Stop}
use Rattle.table_files.specs.declared.stop.Stop.TheVariants.{Refused as StoppedByRefusal, BadData as StoppedByFile, ReadFault as StoppedByFault, Memory as StoppedByMemory}
use Rattle.table_files.specs.declared.tables.FoundTable.{FoundTable}
use Rattle.table_files.specs.declared.tables.Gathered.{Gathered}
use Rattle.table_files.specs.declared.tables.Loaded.{Loaded}
use Rattle.table_files.specs.Answers.{GathersQuery, LoadsGathered, IsLoaded}
use Rattle.table_files.specs.Asked.{AskedToFind, AskedToLoad}
use Rattle.table_files.specs.Catalog.{Rows, Gathers, Loads}
use Rattle.table_files.specs.Found.{Found, found_of, nothing, tables_of}
use Rattle.table_files.specs.Halts.{Halt, unknown, unknown_of, unknown_policy, bad, place_of}
use Rattle.table_files.specs.Stops.{CalledToStop, Says, halt_line}
use Rattle.esql_run.specs.declared.rendered.Rendered.{Rendered}
use Rattle.esql_run.specs.declared.rendered.Unanswered.{Unanswered}
use Rattle.esql_run.specs.declared.rendered.Unanswered.TheVariants.{ReadFault, PatternRoom, Memory}
use Rattle.esql_run.specs.declared.status.Status.TheVariants.{Refused, BadData}
use Rattle.esql_run.specs.Bytes.{Outcome, one_line}
use Rattle.esql_run.specs.Made.{outcome_made}
use Rattle.esql_run.specs.Stopped.{CalledToAnswer, MadeToAnswer, IsStopped, IsNoRoom}
use Rattle.esql_run.specs.Tables.{halted, catalog_found, meant, IsTablesOutcome, not_found, not_loaded, loaded, AnswersTables, AskedByTables, to_find, to_load}
use Rattle.esql_run.proofs.Somewhere.{ContentLaws, settled}

abbrev stopped_at : (A : Type 0) → Stop → Result A Stop
stopped_at A stop = Err stop

-- a halt at a place is refused in its line
refused_in_line : (text : List ℕ) (halt : Halt) (span : Span) → place_of halt ≡ Some span → halted text halt ≡ one_line Refused (halt_line text halt)
refused_in_line text (unknown at) span is = refl
refused_in_line text (unknown_of name at) span is = refl
refused_in_line text (unknown_policy at) span is = refl
refused_in_line text (bad message) span is = absurd cc

-- a stop is answered with what it halts at
stop_answers : (A : Type 0) (text : List ℕ) (Means : Result A Halt → Type 0) (stop : Stop) (answer : Rendered) (P : Outcome → Type 0) → IsStopped stop (Ok answer) → Says text Means (stopped_at A stop)
    → ((halt : Halt) → Means (Err halt) → P (halted text halt)) → P (outcome_made answer)
stop_answers A text Means (StoppedByRefusal line) answer P is says use_ =
    subst P (sym (is ∙ ap (one_line Refused) says.is ∙ sym (refused_in_line text says.halt says.span says.place))) (use_ says.halt says.halts)
stop_answers A text Means (StoppedByFile line) answer P is says use_ = subst P (sym (is ∙ ap (one_line BadData) says.is)) (use_ (bad says.message) says.halts)
stop_answers A text Means (StoppedByFault file) answer P is says use_ = absurd is
stop_answers A text Means (StoppedByMemory error) answer P is says use_ = absurd is

pub gather_halted : (laws : ContentLaws) (text : List ℕ) (given folder : Option (List ℕ)) (format : Format) (held : Held) (query : Query) (stop : Stop) (result : Result Rendered Unanswered) → given ≡ folder
    → Says text (GathersQuery given held query) (stopped_at Gathered stop) → IsStopped stop result → IfOk result (λ answer. AnswersTables folder format text held query (outcome_made answer))
gather_halted laws text given folder format held query stop (Ok answer) same told is =
    settled laws text folder format held query (outcome_made answer)
    (stop_answers Gathered text (GathersQuery folder held query) stop answer (IsTablesOutcome folder format held text query) is
    (subst (λ (f : Option (List ℕ)). Says text (GathersQuery f held query) (stopped_at Gathered stop)) same told)
    (λ halt gathers. not_found halt gathers))
gather_halted laws text given folder format held query stop (Err error) same told is = tt

pub load_halted : (text : List ℕ) (given folder : Option (List ℕ)) (format : Format) (held : Held) (query : Query) (gathered : Gathered) (columns : List Column) (stop : Stop) (result : Result Rendered Unanswered) → given ≡ folder
    → Gathers folder held nothing (source_names query) (Ok (found_of gathered)) → shape_of text (catalog_found (found_of gathered)) query ≡ Ok columns
    → Says text (LoadsGathered given held gathered) (stopped_at Loaded stop) → IsStopped stop result → IfOk result (λ answer. IsTablesOutcome folder format held text query (outcome_made answer))
load_halted text given folder format held query gathered columns stop (Ok answer) same gathers shape told is =
    stop_answers Loaded text (LoadsGathered folder held gathered) stop answer (IsTablesOutcome folder format held text query) is
    (subst (λ (f : Option (List ℕ)). Says text (LoadsGathered f held gathered) (stopped_at Loaded stop)) same told)
    (λ halt loads. not_loaded (found_of gathered) columns halt gathers shape loads)
load_halted text given folder format held query gathered columns stop (Err error) same gathers shape told is = tt

pub all_loaded : (text : List ℕ) (given folder : Option (List ℕ)) (format : Format) (held : Held) (query : Query) (gathered : Gathered) (read : Loaded) (catalog : Catalog) (columns : List Column) (slice : List Rows) (outcome : Outcome)
    → given ≡ folder → Gathers folder held nothing (source_names query) (Ok (found_of gathered)) → shape_of text (catalog_found (found_of gathered)) query ≡ Ok columns → IsLoaded given held gathered read
    → catalog ≡ catalog_found (found_of gathered) → slice ≡ read.tables → outcome ≡ meant format text query columns (tables_held catalog slice) → IsTablesOutcome folder format held text query outcome
all_loaded text given folder format held query gathered read catalog columns slice outcome same gathers shape is_loaded are is_slice is =
    let found : Found = found_of gathered in
    subst (IsTablesOutcome folder format held text query)
    (sym (is ∙ ap (λ (c : Catalog). meant format text query columns (tables_held c slice)) are ∙ ap (λ (ts : List Rows). meant format text query columns (tables_held (catalog_found found) ts)) is_slice))
    (loaded found columns read.tables gathers shape (subst (λ (f : Option (List ℕ)). Loads f held (tables_of gathered) (Ok read.tables)) same is_loaded.loads))

-- ---- the calls

-- a stop is answered where the calls before it did not fail
pub called_stop : {Files : Type 0} {holds : Files → Held} {faults : Files → ℕ} {failed : Files → List ℕ} (P Q : List ℕ → Type 0) (stop : Stop) (result : Result Rendered Unanswered) (old now new : Files)
    → NoneFailed holds faults failed old now → ((file : List ℕ) → P file → Q file) → IsStopped stop result → CalledToStop holds faults failed P stop now new
    → CalledToAnswer holds faults failed Q result old new
called_stop P Q (StoppedByRefusal line) (Ok answer) old now new before asks is called = none_then before called
called_stop P Q (StoppedByFile line) (Ok answer) old now new before asks is called = none_then before called
called_stop P Q (StoppedByFault file) (Ok answer) old now new before asks is called = absurd is
called_stop P Q (StoppedByMemory error) (Ok answer) old now new before asks is called = absurd is
called_stop {Files} {holds} {faults} {failed} P Q (StoppedByFault file) (Err (ReadFault named)) old now new before asks is (asked, called) =
    (subst Q (sym is) (asks file asked), subst (λ (f : List ℕ). OneFailed holds faults failed (Some f) old new) (sym is) (one_then before called))
called_stop P Q (StoppedByRefusal line) (Err (ReadFault named)) old now new before asks is called = absurd is
called_stop P Q (StoppedByFile line) (Err (ReadFault named)) old now new before asks is called = absurd is
called_stop P Q (StoppedByMemory error) (Err (ReadFault named)) old now new before asks is called = absurd is
called_stop P Q (StoppedByRefusal said) (Err (PatternRoom line)) old now new before asks is called = absurd is
called_stop P Q (StoppedByFile said) (Err (PatternRoom line)) old now new before asks is called = absurd is
called_stop P Q (StoppedByFault file) (Err (PatternRoom line)) old now new before asks is called = absurd is
called_stop P Q (StoppedByMemory error) (Err (PatternRoom line)) old now new before asks is called = absurd is
called_stop P Q stop (Err (Memory error)) old now new before asks is called = tt

-- an answer after calls that did not fail is called as it is
pub called_after : {Files : Type 0} {holds : Files → Held} {faults : Files → ℕ} {failed : Files → List ℕ} (P Q : List ℕ → Type 0) (result : Result Rendered Unanswered) (old now new : Files)
    → NoneFailed holds faults failed old now → ((file : List ℕ) → P file → Q file) → CalledToAnswer holds faults failed P result now new → CalledToAnswer holds faults failed Q result old new
called_after P Q (Ok answer) old now new before asks called = none_then before called
called_after P Q (Err (ReadFault file)) old now new before asks (asked, called) = (asks file asked, one_then before called)
called_after P Q (Err (PatternRoom line)) old now new before asks called = none_then before called
called_after P Q (Err (Memory error)) old now new before asks called = tt

pub asks_to_find : (given folder : Option (List ℕ)) (held : Held) (text : List ℕ) (query : Query) → given ≡ folder → (file : List ℕ) → AskedToFind given held nothing (source_names query) file → AskedByTables folder held text query file
asks_to_find given folder held text query same file asked = to_find file (subst (λ (f : Option (List ℕ)). AskedToFind f held nothing (source_names query) file) same asked)

pub asks_to_load : (folder : Option (List ℕ)) (held : Held) (text : List ℕ) (query : Query) (found : Found) (columns : List Column) → Gathers folder held nothing (source_names query) (Ok found)
    → shape_of text (catalog_found found) query ≡ Ok columns → (file : List ℕ) → AskedToLoad folder held found.tables file → AskedByTables folder held text query file
asks_to_load folder held text query found columns gathers shape file asked = to_load found columns file gathers shape asked

pub asked_in : (given folder : Option (List ℕ)) (held : Held) (tables : List FoundTable) → given ≡ folder → (file : List ℕ) → AskedToLoad given held tables file → AskedToLoad folder held tables file
asked_in given folder held tables same file asked = subst (λ (f : Option (List ℕ)). AskedToLoad f held tables file) same asked

-- ---- patterns

-- no pattern is built where tables halt
pub no_room_stop : (stop : Stop) (result : Result Rendered Unanswered) → IsStopped stop result → IfErr result IsNoRoom
no_room_stop stop (Ok answer) is = tt
no_room_stop stop (Err (ReadFault file)) is = tt
no_room_stop (StoppedByRefusal said) (Err (PatternRoom line)) is = is
no_room_stop (StoppedByFile said) (Err (PatternRoom line)) is = is
no_room_stop (StoppedByFault file) (Err (PatternRoom line)) is = is
no_room_stop (StoppedByMemory error) (Err (PatternRoom line)) is = is
no_room_stop stop (Err (Memory error)) is = tt

-- where no pattern was too large the maker counts as many refusals
pub made_without : {Maker : Type 0} (count : Maker → ℕ) (IsRoom : Maker → Maker → List ℕ → Type 0) (result : Result Rendered Unanswered) (old new : Maker) → count new ≡ count old → IfErr result IsNoRoom
    → MadeToAnswer count IsRoom result old new
made_without count IsRoom (Ok answer) old new same none = same
made_without count IsRoom (Err (ReadFault file)) old new same none = same
made_without count IsRoom (Err (PatternRoom line)) old new same none = absurd none
made_without count IsRoom (Err (Memory error)) old new same none = tt
