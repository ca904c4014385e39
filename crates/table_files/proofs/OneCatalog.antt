-- What names stand for and what tables hold is unique, over files that tell what they hold.
use Rattle.std.proofs.Common.{◌≡◌, ℕ, ◌+◌, ◌≤◌, ◌<◌, Bool, true, false, List, [], ◌∷◌, length, cond, Option, Some, None, Result, Ok, Err, refl, sym, ap, ◌∙◌, subst}
use Rattle.std.proofs.Math.Dec.{ltb}
use Rattle.std.proofs.lemmas.Bool.{true≢false, lt-ltb, le-ltb}
use Rattle.esql_ast.specs.declared.query.NameAt.{NameAt}
use Rattle.esql_ast.specs.declared.uses.SourceUse.{SourceUse}
use Rattle.esql_plan.specs.declared.catalog.PolicyShape.{PolicyShape}
use Rattle.ndjson_load.specs.declared.cause.MappingCause.{MappingCause}
use Rattle.ndjson_load.specs.declared.cause.MappingCause.TheVariants.{NotJson}
use Rattle.ndjson_load.specs.declared.column.MappedColumn.{MappedColumn}
use Rattle.ndjson_load.specs.Mappings.{IsMapping, IsMappingFault}
use Rattle.ndjson_load.specs.Over.{BytesOf}
use Rattle.ndjson_load.specs.Rows.{RowFault, table_of}
use Rattle.policy_json.specs.Policies.{policy_text}
use Rattle.policy_json.specs.declared.policy.PolicyText.{PolicyText}
use Rattle.table_files.specs.declared.tables.FoundTable.{FoundTable}
use Rattle.table_files.specs.Found.{Found, absent_table, with_policy, with_table}
use Rattle.table_files.specs.Halts.{Halt, unknown_policy, bad, absent}
use Rattle.table_files.specs.Messages.{too_large, too_many, mapping_message, row_message}
use Rattle.table_files.specs.Policies.{entries_of_text, tables_named, shape_of_policy}
use Rattle.table_files.specs.Shapes.{entries_in}
use Rattle.table_files.specs.Catalog.{mapping_file, row_file, policy_file, most_bytes, most_entries, Holds, NamesTable, no_mapping, wide_mapping, no_rows, bad_mapping, crowded, table, AddsTable, known, no_table, one_more, NamesPolicy, no_document, wide_document, bad_document, crowded_document, document, AddsTables, AddsPolicy, no_policy, lacks_table, misfits, fits, AddsNamed, AddsUse, Gathers, Rows, RowsOf, vanished, wide_rows, bad_row, rows, Loads, no_tables, stops, stops_later, more_rows}
use Rattle.table_files.proofs.Steps.{one_in_turn}

-- the laws of mappings
pub record Laws : Type 0 where
  pub one_mapping : (bytes : List ℕ) (columns others : List MappedColumn) → IsMapping bytes columns → IsMapping bytes others → columns ≡ others
  pub one_mapping_fault : (bytes : List ℕ) (cause other : MappingCause) → IsMappingFault bytes cause → IsMappingFault bytes other → cause ≡ other
  pub no_mapping_fault : (bytes : List ℕ) (columns : List MappedColumn) (cause : MappingCause) → IsMapping bytes columns → IsMappingFault bytes cause → ⊥

above : {A : Type 0} (a b : ℕ) (x y : A) → a < b → cond (ltb a b) x y ≡ x
above a b x y wide = ap (λ (t : Bool). cond t x y) (lt-ltb a b wide)

within : {A : Type 0} (a b : ℕ) (x y : A) → b ≤ a → cond (ltb a b) x y ≡ y
within a b x y few = ap (λ (t : Bool). cond t x y) (le-ltb a b few)

-- ---- what the name of a table stands for

-- what a mapping means
abbrev Meaning : Type 0
Meaning = Result (List MappedColumn) MappingCause

abbrev Means : List ℕ → Meaning → Type 0
Means bytes (Ok columns) = IsMapping bytes columns
Means bytes (Err cause) = IsMappingFault bytes cause

one_meaning : (laws : Laws) (bytes : List ℕ) (m n : Meaning) → Means bytes m → Means bytes n → m ≡ n
one_meaning laws bytes (Ok columns) (Ok others) is was = ap Ok (laws.one_mapping bytes columns others is was)
one_meaning laws bytes (Ok columns) (Err cause) is was = absurd (laws.no_mapping_fault bytes columns cause is was)
one_meaning laws bytes (Err cause) (Ok columns) is was = absurd (laws.no_mapping_fault bytes columns cause was is)
one_meaning laws bytes (Err cause) (Err other) is was = ap Err (laws.one_mapping_fault bytes cause other is was)

module _ (folder : Option (List ℕ)) (policy : Bool) (entries : ℕ) (name : NameAt) where
  -- what a name stands for, from what its files hold and what its mapping means
  abbrev with_meaning : Meaning → Result FoundTable Halt
  with_meaning (Err cause) = Err (bad (mapping_message (mapping_file folder name.name) cause))
  with_meaning (Ok columns) =
      cond (ltb most_entries (entries + 1 + length columns)) (Err (bad (too_many (mapping_file folder name.name)))) (Ok (record { name = name.name; span = name.span; policy = policy; columns = columns }))

  abbrev with_rows : Option (List ℕ) → Meaning → Result FoundTable Halt
  with_rows None meaning = Err (absent policy name)
  with_rows (Some held) meaning = with_meaning meaning

  abbrev with_files : Option (List ℕ) → Option (List ℕ) → Meaning → Result FoundTable Halt
  with_files None held meaning = Err (absent policy name)
  with_files (Some bytes) held meaning = cond (ltb most_bytes (length bytes)) (Err (bad (too_large (mapping_file folder name.name)))) (with_rows held meaning)

  abbrev stood : BytesOf → Meaning → Result FoundTable Halt
  stood held meaning = with_files (held (mapping_file folder name.name)) (held (row_file folder name.name)) meaning

  -- a name stands for what was found, whatever its mapping means, or with what it means
  data Known (held : BytesOf) (result : Result FoundTable Halt) : Type 0 where
    by_files : ((meaning : Meaning) → result ≡ stood held meaning) → Known held result
    by_mapping : (bytes : List ℕ) (meaning : Meaning) → held (mapping_file folder name.name) ≡ Some bytes → Means bytes meaning → result ≡ stood held meaning → Known held result

  found_held : (held : BytesOf) (bytes : List ℕ) (meaning : Meaning) → Holds held (mapping_file folder name.name) bytes → stood held meaning ≡ with_rows (held (row_file folder name.name)) meaning
  found_held held bytes meaning holds =
      ap (λ (o : Option (List ℕ)). with_files o (held (row_file folder name.name)) meaning) holds.is
      ∙ within most_bytes (length bytes) (Err (bad (too_large (mapping_file folder name.name)))) (with_rows (held (row_file folder name.name)) meaning) holds.fits

  found_both : (held : BytesOf) (bytes lines : List ℕ) (meaning : Meaning) → Holds held (mapping_file folder name.name) bytes → held (row_file folder name.name) ≡ Some lines → stood held meaning ≡ with_meaning meaning
  found_both held bytes lines meaning holds is = found_held held bytes meaning holds ∙ ap (λ (o : Option (List ℕ)). with_rows o meaning) is

  is_known : (held : BytesOf) (result : Result FoundTable Halt) → NamesTable folder held policy entries name result → Known held result
  is_known held result (no_mapping none) = by_files (λ meaning. sym (ap (λ (o : Option (List ℕ)). with_files o (held (row_file folder name.name)) meaning) none))
  is_known held result (wide_mapping wide) =
      by_files (λ meaning. sym (ap (λ (o : Option (List ℕ)). with_files o (held (row_file folder name.name)) meaning) wide.is
      ∙ above most_bytes (length wide.bytes) (Err (bad (too_large (mapping_file folder name.name)))) (with_rows (held (row_file folder name.name)) meaning) wide.wide))
  is_known held result (no_rows bytes holds none) =
      by_files (λ meaning. sym (found_held held bytes meaning holds ∙ ap (λ (o : Option (List ℕ)). with_rows o meaning) none))
  is_known held result (bad_mapping bytes lines cause holds is fault) =
      by_mapping bytes (Err cause) holds.is fault (sym (found_both held bytes lines (Err cause) holds is))
  is_known held result (crowded bytes lines columns holds is mapping wide) =
      by_mapping bytes (Ok columns) holds.is mapping (sym (found_both held bytes lines (Ok columns) holds is
      ∙ above most_entries (entries + 1 + length columns) (Err (bad (too_many (mapping_file folder name.name)))) (Ok (record { name = name.name; span = name.span; policy = policy; columns = columns })) wide))
  is_known held result (table bytes lines columns holds is mapping few) =
      by_mapping bytes (Ok columns) holds.is mapping (sym (found_both held bytes lines (Ok columns) holds is
      ∙ within most_entries (entries + 1 + length columns) (Err (bad (too_many (mapping_file folder name.name)))) (Ok (record { name = name.name; span = name.span; policy = policy; columns = columns })) few))

  one_known : (laws : Laws) (held : BytesOf) (result other : Result FoundTable Halt) → Known held result → Known held other → result ≡ other
  one_known laws held result other (by_files is) (by_files was) = is (Err NotJson) ∙ sym (was (Err NotJson))
  one_known laws held result other (by_files is) (by_mapping bytes meaning held_is means was) = is meaning ∙ sym was
  one_known laws held result other (by_mapping bytes meaning held_is means is) (by_files was) = is ∙ sym (was meaning)
  one_known laws held result other (by_mapping bytes meaning held_is means is) (by_mapping others also held_was meant was) =
      let both : Some bytes ≡ Some others = sym held_is ∙ held_was in
      let same : bytes ≡ others = cc in
      let one : meaning ≡ also = one_meaning laws others meaning also (subst (λ (b : List ℕ). Means b meaning) same means) meant in
      is ∙ ap (stood held) one ∙ sym was

  one_name : (laws : Laws) (held : BytesOf) (result other : Result FoundTable Halt) → NamesTable folder held policy entries name result → NamesTable folder held policy entries name other → result ≡ other
  one_name laws held result other is was = one_known laws held result other (is_known held result is) (is_known held other was)

-- ---- what was found with the table of a name

abbrev with_new : Found → Result FoundTable Halt → Result Found Halt
with_new found (Ok new) = Ok (with_table found new)
with_new found (Err halt) = Err halt

one_table : (folder : Option (List ℕ)) (laws : Laws) (held : BytesOf) (policy : Bool) (beside : ℕ) (found : Found) (name : NameAt) (result other : Result Found Halt)
    → AddsTable folder (Some held) policy beside found name result → AddsTable folder (Some held) policy beside found name other → result ≡ other
one_table folder laws held policy beside found name result other (known has) (known _) = refl
one_table folder laws held policy beside found name result other (known has) (no_table halt lacks was) = absurd (true≢false (sym has ∙ lacks))
one_table folder laws held policy beside found name result other (known has) (one_more new lacks was) = absurd (true≢false (sym has ∙ lacks))
one_table folder laws held policy beside found name result other (no_table halt lacks is) (known has) = absurd (true≢false (sym has ∙ lacks))
one_table folder laws held policy beside found name result other (no_table halt lacks is) (no_table also _ was) =
    ap (with_new found) (one_name folder policy (entries_in found + beside) name laws held (Err halt) (Err also) is was)
one_table folder laws held policy beside found name result other (no_table halt lacks is) (one_more new _ was) =
    ap (with_new found) (one_name folder policy (entries_in found + beside) name laws held (Err halt) (Ok new) is was)
one_table folder laws held policy beside found name result other (one_more new lacks is) (known has) = absurd (true≢false (sym has ∙ lacks))
one_table folder laws held policy beside found name result other (one_more new lacks is) (no_table also _ was) =
    ap (with_new found) (one_name folder policy (entries_in found + beside) name laws held (Ok new) (Err also) is was)
one_table folder laws held policy beside found name result other (one_more new lacks is) (one_more also _ was) =
    ap (with_new found) (one_name folder policy (entries_in found + beside) name laws held (Ok new) (Ok also) is was)

one_tables : (folder : Option (List ℕ)) (laws : Laws) (held : BytesOf) (found : Found) (name : NameAt) (policy : PolicyText) (result other : Result Found Halt)
    → AddsTables folder (Some held) found name policy result → AddsTables folder (Some held) found name policy other → result ≡ other
one_tables folder laws held found name policy =
    one_in_turn (AddsTable folder (Some held) true (entries_of_text policy)) (one_table folder laws held true (entries_of_text policy)) found (tables_named name policy)

-- ---- what was found with the policy of a name

abbrev with_text : Option (List ℕ) → ℕ → NameAt → Result PolicyText MappingCause → Result PolicyText Halt
with_text folder entries name (Err cause) = Err (bad (mapping_message (policy_file folder name.name) cause))
with_text folder entries name (Ok policy) = cond (ltb most_entries (entries + entries_of_text policy)) (Err (bad (too_many (policy_file folder name.name)))) (Ok policy)

abbrev with_document : Option (List ℕ) → ℕ → NameAt → Option (List ℕ) → Result PolicyText Halt
with_document folder entries name None = Err (unknown_policy name.span)
with_document folder entries name (Some bytes) = cond (ltb most_bytes (length bytes)) (Err (bad (too_large (policy_file folder name.name)))) (with_text folder entries name (policy_text bytes))

document_held : (folder : Option (List ℕ)) (held : BytesOf) (entries : ℕ) (name : NameAt) (bytes : List ℕ) → Holds held (policy_file folder name.name) bytes
    → with_document folder entries name (held (policy_file folder name.name)) ≡ with_text folder entries name (policy_text bytes)
document_held folder held entries name bytes holds =
    ap (with_document folder entries name) holds.is ∙ within most_bytes (length bytes) (Err (bad (too_large (policy_file folder name.name)))) (with_text folder entries name (policy_text bytes)) holds.fits

policy_by : (folder : Option (List ℕ)) (held : BytesOf) (entries : ℕ) (name : NameAt) (result : Result PolicyText Halt) → NamesPolicy folder held entries name result
    → result ≡ with_document folder entries name (held (policy_file folder name.name))
policy_by folder held entries name result (no_document none) = sym (ap (with_document folder entries name) none)
policy_by folder held entries name result (wide_document wide) =
    sym (ap (with_document folder entries name) wide.is
    ∙ above most_bytes (length wide.bytes) (Err (bad (too_large (policy_file folder name.name)))) (with_text folder entries name (policy_text wide.bytes)) wide.wide)
policy_by folder held entries name result (bad_document bytes cause holds is) = sym (document_held folder held entries name bytes holds ∙ ap (with_text folder entries name) is)
policy_by folder held entries name result (crowded_document bytes policy holds is wide) =
    sym (document_held folder held entries name bytes holds ∙ ap (with_text folder entries name) is
    ∙ above most_entries (entries + entries_of_text policy) (Err (bad (too_many (policy_file folder name.name)))) (Ok policy) wide)
policy_by folder held entries name result (document bytes policy holds is few) =
    sym (document_held folder held entries name bytes holds ∙ ap (with_text folder entries name) is
    ∙ within most_entries (entries + entries_of_text policy) (Err (bad (too_many (policy_file folder name.name)))) (Ok policy) few)

-- what was found with a policy, from its tables
abbrev with_shape : Option (List ℕ) → NameAt → Found → Result PolicyShape MappingCause → Result Found Halt
with_shape folder name new (Err cause) = Err (bad (mapping_message (policy_file folder name.name) cause))
with_shape folder name new (Ok shape) = Ok (with_policy new shape)

abbrev with_fields : Option (List ℕ) → NameAt → PolicyText → Result Found Halt → Result Found Halt
with_fields folder name policy (Err halt) = Err halt
with_fields folder name policy (Ok new) = with_shape folder name new (shape_of_policy new.tables name.name policy)

-- after its document
abbrev WithTables : Option (List ℕ) → BytesOf → Found → NameAt → Result PolicyText Halt → Result Found Halt → Type 0
WithTables folder held found name (Err halt) result = result ≡ Err halt
WithTables folder held found name (Ok policy) result = (new : Result Found Halt) × AddsTables folder (Some held) found name policy new × (result ≡ with_fields folder name policy new)

with_tables : (folder : Option (List ℕ)) (held : BytesOf) (found : Found) (name : NameAt) (result : Result Found Halt) → AddsPolicy folder (Some held) found name result
    → (read : Result PolicyText Halt) × NamesPolicy folder held (entries_in found) name read × WithTables folder held found name read result
with_tables folder held found name result (no_policy halt is) = (Err halt, is, refl)
with_tables folder held found name result (lacks_table policy halt is adds) = (Ok policy, is, (Err halt, adds, refl))
with_tables folder held found name result (misfits policy new cause is adds shape_is) = (Ok policy, is, (Ok new, adds, sym (ap (with_shape folder name new) shape_is)))
with_tables folder held found name result (fits policy new shape is adds shape_is) = (Ok policy, is, (Ok new, adds, sym (ap (with_shape folder name new) shape_is)))

one_with_tables : (folder : Option (List ℕ)) (laws : Laws) (held : BytesOf) (found : Found) (name : NameAt) (read : Result PolicyText Halt) (result other : Result Found Halt)
    → WithTables folder held found name read result → WithTables folder held found name read other → result ≡ other
one_with_tables folder laws held found name (Err halt) result other is was = is ∙ sym was
one_with_tables folder laws held found name (Ok policy) result other (new, adds, is) (also, adds_also, was) =
    is ∙ ap (with_fields folder name policy) (one_tables folder laws held found name policy new also adds adds_also) ∙ sym was

one_policy : (folder : Option (List ℕ)) (laws : Laws) (held : BytesOf) (found : Found) (name : NameAt) (result other : Result Found Halt)
    → AddsPolicy folder (Some held) found name result → AddsPolicy folder (Some held) found name other → result ≡ other
one_policy folder laws held found name result other is was =
    let (read, reads, then_is) = with_tables folder held found name result is in
    let (also, reads_also, then_was) = with_tables folder held found name other was in
    let same : also ≡ read = policy_by folder held (entries_in found) name also reads_also ∙ sym (policy_by folder held (entries_in found) name read reads) in
    one_with_tables folder laws held found name read result other then_is (subst (λ (r : Result PolicyText Halt). WithTables folder held found name r other) same then_was)

-- ---- uses in turn

one_named : (folder : Option (List ℕ)) (laws : Laws) (held : BytesOf) (policy : Bool) (found : Found) (name : NameAt) (result other : Result Found Halt)
    → AddsNamed folder (Some held) policy found name result → AddsNamed folder (Some held) policy found name other → result ≡ other
one_named folder laws held false found name = one_table folder laws held false 0 found name
one_named folder laws held true found name = one_policy folder laws held found name

pub one_gathering : (folder : Option (List ℕ)) (laws : Laws) (held : BytesOf) (found : Found) (uses : List SourceUse) (gathered other : Result Found Halt)
    → Gathers folder (Some held) found uses gathered → Gathers folder (Some held) found uses other → gathered ≡ other
one_gathering folder laws held = one_in_turn (AddsUse folder (Some held)) (λ found use_. one_named folder laws held use_.policy found use_.name)

-- ---- tables in turn

-- the rows of a table, from what its row file holds
abbrev with_read : Option (List ℕ) → FoundTable → Result Rows RowFault → Result Rows Halt
with_read folder found (Ok read) = Ok read
with_read folder found (Err fault) = Err (bad (row_message (row_file folder found.name) fault))

abbrev with_lines : Option (List ℕ) → FoundTable → Option (List ℕ) → Result Rows Halt
with_lines folder found None = Err (absent_table found)
with_lines folder found (Some bytes) = cond (ltb most_bytes (length bytes)) (Err (bad (too_large (row_file folder found.name)))) (with_read folder found (table_of found.columns bytes))

lines_held : (folder : Option (List ℕ)) (held : BytesOf) (found : FoundTable) (bytes : List ℕ) → Holds held (row_file folder found.name) bytes → with_lines folder found (held (row_file folder found.name)) ≡ with_read folder found (table_of found.columns bytes)
lines_held folder held found bytes holds =
    ap (with_lines folder found) holds.is ∙ within most_bytes (length bytes) (Err (bad (too_large (row_file folder found.name)))) (with_read folder found (table_of found.columns bytes)) holds.fits

read_by : (folder : Option (List ℕ)) (held : BytesOf) (found : FoundTable) (result : Result Rows Halt) → RowsOf folder held found result → result ≡ with_lines folder found (held (row_file folder found.name))
read_by folder held found result (vanished none) = sym (ap (with_lines folder found) none)
read_by folder held found result (wide_rows wide) =
    sym (ap (with_lines folder found) wide.is ∙ above most_bytes (length wide.bytes) (Err (bad (too_large (row_file folder found.name)))) (with_read folder found (table_of found.columns wide.bytes)) wide.wide)
read_by folder held found result (bad_row bytes fault holds is) = sym (lines_held folder held found bytes holds ∙ ap (with_read folder found) is)
read_by folder held found result (rows bytes read holds is) = sym (lines_held folder held found bytes holds ∙ ap (with_read folder found) is)

abbrev before : Rows → Result (List Rows) Halt → Result (List Rows) Halt
before read (Ok later) = Ok (read ∷ later)
before read (Err halt) = Err halt

-- a halt is the end, and after the rows of a table come those of the tables that are left
abbrev ThenLoads : Option (List ℕ) → BytesOf → List FoundTable → Result Rows Halt → Result (List Rows) Halt → Type 0
ThenLoads folder held founds (Err halt) result = result ≡ Err halt
ThenLoads folder held founds (Ok read) result = (rest : Result (List Rows) Halt) × Loads folder (Some held) founds rest × (result ≡ before read rest)

none_loaded : (folder : Option (List ℕ)) (held : BytesOf) (result : Result (List Rows) Halt) → Loads folder (Some held) [] result → result ≡ Ok []
none_loaded folder held result no_tables = refl

first_load : (folder : Option (List ℕ)) (held : BytesOf) (found : FoundTable) (founds : List FoundTable) (result : Result (List Rows) Halt) → Loads folder (Some held) (found ∷ founds) result
    → (first : Result Rows Halt) × RowsOf folder held found first × ThenLoads folder held founds first result
first_load folder held found founds result (stops _ _ halt is) = (Err halt, is, refl)
first_load folder held found founds result (stops_later _ _ read halt is later) = (Ok read, is, (Err halt, later, refl))
first_load folder held found founds result (more_rows _ _ read tables is later) = (Ok read, is, (Ok tables, later, refl))

one_then : (folder : Option (List ℕ)) (held : BytesOf) (founds : List FoundTable) (first : Result Rows Halt) (result other : Result (List Rows) Halt)
    → ((rest also : Result (List Rows) Halt) → Loads folder (Some held) founds rest → Loads folder (Some held) founds also → rest ≡ also)
    → ThenLoads folder held founds first result → ThenLoads folder held founds first other → result ≡ other
one_then folder held founds (Err halt) result other one is was = is ∙ sym was
one_then folder held founds (Ok read) result other one (rest, after, is) (also, too, was) = is ∙ ap (before read) (one rest also after too) ∙ sym was

pub one_loading : (folder : Option (List ℕ)) (held : BytesOf) (founds : List FoundTable) (loaded other : Result (List Rows) Halt) → Loads folder (Some held) founds loaded → Loads folder (Some held) founds other → loaded ≡ other
one_loading folder held [] loaded other is was = none_loaded folder held loaded is ∙ sym (none_loaded folder held other was)
one_loading folder held (found ∷ founds) loaded other is was =
    let (first, read_one, then_one) = first_load folder held found founds loaded is in
    let (second, read_other, then_other) = first_load folder held found founds other was in
    let same : second ≡ first = read_by folder held found second read_other ∙ sym (read_by folder held found first read_one) in
    one_then folder held founds first loaded other (one_loading folder held founds) then_one (subst (λ (f : Result Rows Halt). ThenLoads folder held founds f other) same then_other)
