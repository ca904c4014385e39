-- What the name of a policy stands for, from what was answered of its document and of its tables.
use Rattle.std.proofs.Common.{◌≡◌, ℕ, ◌+◌, ◌≤◌, true, List, [], length, All, Result, Ok, Err, Option, Some, None, ap, sym, subst, ◌∙◌, arith}
use Rattle.std.specs.List.{IsDistinct}
use Rattle.std.proofs.lemmas.List.Elements.{All-nil, All-push}
use Rattle.esql_ast.specs.declared.query.NameAt.{NameAt}
use Rattle.esql_io.specs.Files.{Held}
use Rattle.esql_plan.specs.declared.catalog.PolicyShape.{PolicyShape}
use Rattle.ndjson_load.specs.Mappings.{IfBad}
use Rattle.ndjson_load.specs.Over.{BytesOf}
use Rattle.ndjson_load.specs.Shapes.{IsLoadable, NamesRise}
use Rattle.ndjson_load.specs.declared.cause.MappingCause.{MappingCause}
use Rattle.ndjson_load.specs.declared.cause.MappingError.{MappingError}
use Rattle.ndjson_load.specs.declared.cause.MappingError.TheVariants.{Bad}
use Rattle.policy_json.specs.declared.policy.PolicyText.{PolicyText}
use Rattle.table_files.specs.declared.tables.FoundTable.{FoundTable}
use Rattle.table_files.specs.declared.stop.Stop.{Stop}
use Rattle.table_files.specs.Asked.{AskedForPolicy, the_document, its_tables, AskedForTable}
use Rattle.table_files.specs.Catalog.{Holds, AddsTable, AddsTables, AddsPolicy, no_policy, lacks_table, misfits, fits, HasPolicy, NamesPolicy, no_document, wide_document, bad_document, crowded_document, document, policy_file}
use Rattle.table_files.specs.Found.{Found, has_table, nothing, with_policy}
use Rattle.table_files.specs.Halts.{Halt, bad, unknown_policy}
use Rattle.table_files.specs.InTurn.{AskedInTurn, InTurn}
use Rattle.table_files.specs.Messages.{mapping_message}
use Rattle.table_files.specs.Policies.{each_once, entries_of_text, names_at, shape_of_policy}
use Rattle.table_files.specs.Reading.{FitsTables, IsFinding, ReadsFile, is_wide, ReadsOver, ReadsPolicy, policy_is, no_policy_is, too_wide_is}
use Rattle.table_files.specs.Shapes.{entries_in}
use Rattle.table_files.specs.Stops.{Says}
use Rattle.table_files.proofs.Documents.{document_nowhere}
use Rattle.table_files.proofs.FilesRead.{over_weaker, holds_of, missing_of}
use Rattle.table_files.proofs.Fitting.{shape_entries, shape_fits}
use Rattle.table_files.proofs.Named.{over_nowhere}
use Rattle.table_files.proofs.Numbered.{policies_more}
use Rattle.table_files.proofs.Stopped.{says_any, says_of}

-- ---- the document

no_policy_said : (text : List ℕ) (folder : Option (List ℕ)) (held : Held) (found : Found) (name : NameAt) (stop : Stop) → Says text (HasPolicy folder held (entries_in found) name) (Err stop)
    → Says text (AddsPolicy folder held found name) (Err stop)
no_policy_said text folder held found name stop says = says_of text (HasPolicy folder held (entries_in found) name) (AddsPolicy folder held found name) stop (λ halt at. no_policy halt at) says

unread : (folder : Option (List ℕ)) (h : BytesOf) (entries : ℕ) (name : NameAt) (halt : Halt) → ReadsFile h (policy_file folder name.name) (Err halt) → NamesPolicy folder h entries name (Err halt)
unread folder h entries name halt (is_wide large) = wide_document large

pub policy_unread : (text : List ℕ) (folder : Option (List ℕ)) (held : Held) (found : Found) (name : NameAt) (file : List ℕ) (stop : Stop) → file ≡ policy_file folder name.name
    → Says [] (ReadsOver held file) (Err stop) → Says text (AddsPolicy folder held found name) (Err stop)
policy_unread text folder held found name file stop is says =
    no_policy_said text folder held found name stop
    (says_of text (ReadsOver held file) (HasPolicy folder held (entries_in found) name) stop
    (λ halt at. over_weaker held (λ h. ReadsFile h file (Err halt)) (λ h. NamesPolicy folder h (entries_in found) name (Err halt))
    (λ h wide. unread folder h (entries_in found) name halt (subst (λ f. ReadsFile h f (Err halt)) is wide)) at)
    (says_any text (ReadsOver held file) stop (over_nowhere held file) says))

pub policy_missing : (folder : Option (List ℕ)) (held : Held) (found : Found) (name : NameAt) (file : List ℕ) (read : Option (List ℕ)) → file ≡ policy_file folder name.name → read ≡ None
    → ReadsOver held file (Ok read) → AddsPolicy folder held found name (Err (unknown_policy name.span))
policy_missing folder held found name file read is none reads =
    no_policy (unknown_policy name.span)
    (over_weaker held (λ h. ReadsFile h file (Ok read)) (λ h. NamesPolicy folder h (entries_in found) name (Err (unknown_policy name.span)))
    (λ h missing. no_document (subst (λ f. h f ≡ None) is (missing_of h file (subst (λ r. ReadsFile h file (Ok r)) none missing)))) reads)

badly_written : (folder : Option (List ℕ)) (h : BytesOf) (entries : ℕ) (name : NameAt) (bytes : List ℕ) → Holds h (policy_file folder name.name) bytes
    → (halt : Halt) → ReadsPolicy bytes (policy_file folder name.name) entries (Err halt) → NamesPolicy folder h entries name (Err halt)
badly_written folder h entries name bytes holds halt (no_policy_is cause fault) = bad_document bytes cause holds fault
badly_written folder h entries name bytes holds halt (too_wide_is policy text wide) = crowded_document bytes policy holds text wide

well_written : (folder : Option (List ℕ)) (h : BytesOf) (entries : ℕ) (name : NameAt) (bytes : List ℕ) → Holds h (policy_file folder name.name) bytes
    → (policy : PolicyText) → ReadsPolicy bytes (policy_file folder name.name) entries (Ok policy) → NamesPolicy folder h entries name (Ok policy)
well_written folder h entries name bytes holds policy (policy_is _ text few) = document bytes policy holds text few

-- the document of a name was read, after so many entries
over_document : (folder : Option (List ℕ)) (held : Held) (entries count : ℕ) (name : NameAt) (file shown bytes also : List ℕ) (read : Option (List ℕ)) (result : Result PolicyText Halt) → file ≡ policy_file folder name.name
    → shown ≡ policy_file folder name.name → read ≡ Some bytes → also ≡ bytes → count ≡ entries → ReadsOver held file (Ok read)
    → ((h : BytesOf) → Holds h (policy_file folder name.name) bytes → ReadsPolicy bytes (policy_file folder name.name) entries result → NamesPolicy folder h entries name result)
    → ReadsPolicy also shown count result → HasPolicy folder held entries name result
over_document folder held entries count name file shown bytes also read result is of whole copied same reads names written =
    over_weaker held (λ h. ReadsFile h file (Ok read)) (λ h. NamesPolicy folder h entries name result)
    (λ h at. names h (subst (λ f. Holds h f bytes) is (holds_of h file bytes (subst (λ r. ReadsFile h file (Ok r)) whole at)))
    (subst (λ n. ReadsPolicy bytes (policy_file folder name.name) n result) same
    (subst (λ f. ReadsPolicy bytes f count result) of (subst (λ b. ReadsPolicy b shown count result) copied written)))) reads

pub policy_bad : (text : List ℕ) (folder : Option (List ℕ)) (held : Held) (found : Found) (count : ℕ) (name : NameAt) (file shown bytes also : List ℕ) (read : Option (List ℕ)) (stop : Stop) → file ≡ policy_file folder name.name
    → shown ≡ policy_file folder name.name → read ≡ Some bytes → also ≡ bytes → count ≡ entries_in found → ReadsOver held file (Ok read) → Says [] (ReadsPolicy also shown count) (Err stop)
    → Says text (AddsPolicy folder held found name) (Err stop)
policy_bad text folder held found count name file shown bytes also read stop is of whole copied same reads says =
    no_policy_said text folder held found name stop
    (says_of text (ReadsPolicy also shown count) (HasPolicy folder held (entries_in found) name) stop
    (λ halt at. over_document folder held (entries_in found) count name file shown bytes also read (Err halt) is of whole copied same reads
    (λ h holds written. badly_written folder h (entries_in found) name bytes holds halt written) at)
    (says_any text (ReadsPolicy also shown count) stop (document_nowhere also shown count) says))

pub policy_read : (folder : Option (List ℕ)) (held : Held) (found : Found) (count : ℕ) (name : NameAt) (file shown bytes also : List ℕ) (read : Option (List ℕ)) (policy : PolicyText) → file ≡ policy_file folder name.name
    → shown ≡ policy_file folder name.name → read ≡ Some bytes → also ≡ bytes → count ≡ entries_in found → ReadsOver held file (Ok read) → ReadsPolicy also shown count (Ok policy)
    → HasPolicy folder held (entries_in found) name (Ok policy)
policy_read folder held found count name file shown bytes also read policy is of whole copied same reads written =
    over_document folder held (entries_in found) count name file shown bytes also read (Ok policy) is of whole copied same reads
    (λ h holds was. well_written folder h (entries_in found) name bytes holds policy was) written

-- ---- its tables

over_tables : (folder : Option (List ℕ)) (held now : Held) (beside : ℕ) (found : Found) (name : NameAt) (tables : List (List ℕ)) (policy : PolicyText) (result : Result Found Halt) → now ≡ held → beside ≡ entries_of_text policy
    → tables ≡ each_once policy.indices → InTurn (AddsTable folder now true beside) found (names_at name.span tables) result → AddsTables folder held found name policy result
over_tables folder held now beside found name tables policy result same sum are turns =
    subst (λ (names : List (List ℕ)). InTurn (AddsTable folder held true (entries_of_text policy)) found (names_at name.span names) result) are
    (subst (λ (n : ℕ). InTurn (AddsTable folder held true n) found (names_at name.span tables) result) sum
    (subst (λ (h : Held). InTurn (AddsTable folder h true beside) found (names_at name.span tables) result) same turns))

pub policy_lacks : (text : List ℕ) (folder : Option (List ℕ)) (held now : Held) (beside : ℕ) (found : Found) (name : NameAt) (tables : List (List ℕ)) (policy : PolicyText) (stop : Stop) → now ≡ held → beside ≡ entries_of_text policy
    → tables ≡ each_once policy.indices → HasPolicy folder held (entries_in found) name (Ok policy) → Says text (InTurn (AddsTable folder now true beside) found (names_at name.span tables)) (Err stop)
    → Says text (AddsPolicy folder held found name) (Err stop)
policy_lacks text folder held now beside found name tables policy stop same sum are has says =
    says_of text (InTurn (AddsTable folder now true beside) found (names_at name.span tables)) (AddsPolicy folder held found name) stop
    (λ halt turns. lacks_table policy halt has (over_tables folder held now beside found name tables policy (Err halt) same sum are turns)) says

pub policy_asks : (folder : Option (List ℕ)) (held now : Held) (beside : ℕ) (found : Found) (name : NameAt) (tables : List (List ℕ)) (policy : PolicyText) → now ≡ held → beside ≡ entries_of_text policy
    → tables ≡ each_once policy.indices → HasPolicy folder held (entries_in found) name (Ok policy)
    → (file : List ℕ) → AskedInTurn (AddsTable folder now true beside) (AskedForTable folder now) found (names_at name.span tables) file → AskedForPolicy folder held found name file
policy_asks folder held now beside found name tables policy same sum are has file asked =
    its_tables policy file has
    (subst (λ (names : List (List ℕ)). AskedInTurn (AddsTable folder held true (entries_of_text policy)) (AskedForTable folder held) found (names_at name.span names) file) are
    (subst (λ (n : ℕ). AskedInTurn (AddsTable folder held true n) (AskedForTable folder held) found (names_at name.span tables) file) sum
    (subst (λ (h : Held). AskedInTurn (AddsTable folder h true beside) (AskedForTable folder h) found (names_at name.span tables) file) same asked)))

pub asks_document : (folder : Option (List ℕ)) (held : Held) (found : Found) (name : NameAt) (file : List ℕ) → file ≡ policy_file folder name.name → (asked : List ℕ) → asked ≡ file → AskedForPolicy folder held found name asked
asks_document folder held found name file is asked same = subst (AskedForPolicy folder held found name) (sym (same ∙ is)) the_document

-- ---- its fields

pub policy_misfits : (folder : Option (List ℕ)) (held now : Held) (beside : ℕ) (found new : Found) (name : NameAt) (file shown message : List ℕ) (tables : List (List ℕ)) (policy : PolicyText) (cause : MappingCause) (error : MappingError) → now ≡ held
    → beside ≡ entries_of_text policy → tables ≡ each_once policy.indices → HasPolicy folder held (entries_in found) name (Ok policy)
    → InTurn (AddsTable folder now true beside) found (names_at name.span tables) (Ok new) → shown ≡ name.name → error ≡ Bad cause → IfBad error (λ cause. shape_of_policy new.tables shown policy ≡ Err cause)
    → file ≡ policy_file folder name.name → message ≡ mapping_message file cause → AddsPolicy folder held found name (Err (bad message))
policy_misfits folder held now beside found new name file shown message tables policy cause error same sum are has turns of is fault at says =
    let shape : shape_of_policy new.tables name.name policy ≡ Err cause =
    sym (ap (λ (n : List ℕ). shape_of_policy new.tables n policy) of) ∙ subst (λ (e : MappingError). IfBad e (λ cause. shape_of_policy new.tables shown policy ≡ Err cause)) is fault in
    subst (λ (m : List ℕ). AddsPolicy folder held found name (Err (bad m))) (sym (says ∙ ap (λ (f : List ℕ). mapping_message f cause) at))
    (misfits policy new cause has (over_tables folder held now beside found name tables policy (Ok new) same sum are turns) shape)

pub policy_fits : (folder : Option (List ℕ)) (held now : Held) (beside : ℕ) (found new next : Found) (name : NameAt) (shown : List ℕ) (tables : List (List ℕ)) (policy : PolicyText) (shape : PolicyShape) → now ≡ held
    → beside ≡ entries_of_text policy → tables ≡ each_once policy.indices → HasPolicy folder held (entries_in found) name (Ok policy)
    → InTurn (AddsTable folder now true beside) found (names_at name.span tables) (Ok new) → shown ≡ name.name → shape_of_policy new.tables shown policy ≡ Ok shape → next ≡ with_policy new shape
    → AddsPolicy folder held found name (Ok next)
policy_fits folder held now beside found new next name shown tables policy shape same sum are has turns of is gives =
    subst (λ (f : Found). AddsPolicy folder held found name (Ok f)) (sym gives)
    (fits policy new shape has (over_tables folder held now beside found name tables policy (Ok new) same sum are turns) (sym (ap (λ (n : List ℕ). shape_of_policy new.tables n policy) of) ∙ is))

-- ---- what was found with it

pub room_for : (new : Found) (beside : ℕ) (shown : List ℕ) (policy : PolicyText) (shape : PolicyShape) → beside ≡ entries_of_text policy → shape_of_policy new.tables shown policy ≡ Ok shape → entries_in new + beside ≤ 100000
    → entries_in new + 1 + length shape.tables + length shape.fields ≤ 100000
room_for new beside shown policy shape sum is room = let same = shape_entries new.tables shown policy shape is in omega (arith, same, sum, room)

pub finding_policy : (new next : Found) (beside : ℕ) (shown : List ℕ) (tables : List (List ℕ)) (policy : PolicyText) (shape : PolicyShape) → next ≡ with_policy new shape → IsFinding new → beside ≡ entries_of_text policy
    → tables ≡ each_once policy.indices → All (λ (one : List ℕ). has_table new.tables one ≡ true) tables → shape_of_policy new.tables shown policy ≡ Ok shape → entries_in new + beside ≤ 100000 → IsFinding next
finding_policy new next beside shown tables policy shape gives was sum are all is room =
    let few = room_for new beside shown policy shape sum is room in
    let more = policies_more new.policies shape in
    subst IsFinding (sym gives) (record {
      few = omega (arith, few, more);
      apart = was.apart;
      loadable = was.loadable;
      rise = was.rise;
      policies = All-push (FitsTables new.tables) new.policies shape was.policies
          (shape_fits new.tables shown policy shape is (subst (All (λ (one : List ℕ). has_table new.tables one ≡ true)) are all));
    })

-- where nothing was found all is so
pub finding_nothing : IsFinding nothing
unfolding IsDistinct
finding_nothing = record {
  few = omega arith;
  apart = tt;
  loadable = All-nil (λ (one : FoundTable). All IsLoadable one.columns);
  rise = All-nil (λ (one : FoundTable). NamesRise one.columns);
  policies = All-nil (FitsTables []);
}
