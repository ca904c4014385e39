-- Over files that do not tell what they hold, what is told of uses that differ is told over one content: what is found first
-- matters at its own files alone, and what is found behind it looks at others.
use Rattle.std.proofs.Common.{◌≡◌, ℕ, ◌+◌, Bool, true, false, ◌||◌, ◌&&◌, List, [], ◌∷◌, ◌++◌, Option, Some, None, Result, Ok, Err, refl, sym, ap, ◌∙◌}
use Rattle.std.specs.List.{AllByRecursion, list_any}
use Rattle.std.specs.Str.{bytes_eq}
use Rattle.std.proofs.lemmas.Bool.{and_right, or_from, or_left, or_right}
use Rattle.std.proofs.lemmas.Map.Keys.{IsDistinct-head, IsDistinct-tail}
use Rattle.esql_io.specs.Files.{Held}
use Rattle.esql_ast.specs.declared.query.NameAt.{NameAt}
use Rattle.esql_ast.specs.declared.uses.SourceUse.{SourceUse}
use Rattle.esql_ast.specs.Uses.{same_bool}
use Rattle.esql_ast.specs.UseLaws.{is_same_use}
use Rattle.ndjson_load.specs.Over.{BytesOf}
use Rattle.policy_json.specs.declared.policy.PolicyText.{PolicyText}
use Rattle.table_files.specs.declared.tables.FoundTable.{FoundTable}
use Rattle.table_files.specs.Catalog.{mapping_file, row_file, policy_file, NamesTable, table, AddsTable, known, no_table, one_more, NamesPolicy, AddsTables, AddsPolicy, no_policy, lacks_table, misfits, fits, AddsNamed, AddsUse, Gathers}
use Rattle.table_files.specs.Found.{Found, has_table, nothing}
use Rattle.table_files.specs.Halts.{Halt}
use Rattle.table_files.specs.InTurn.{InTurn}
use Rattle.table_files.specs.Laws.{AreDifferentUses, SomeGathering}
use Rattle.table_files.specs.Policies.{entries_of_text, tables_named}
use Rattle.table_files.specs.Shapes.{entries_in}
use Rattle.table_files.proofs.Alike.{AreAlike, name_alike, document_alike, joined, joined_here, joined_there, same_bytes, turned, mapping_of, rows_of, policy_of, mapping_no_rows, mapping_no_policy, rows_no_mapping, rows_no_policy, policy_no_mapping, policy_no_rows}
use Rattle.table_files.proofs.Grown.{Grows, table_grows, use_grows, has_grown, lacks_before, has_more}
use Rattle.table_files.proofs.Steps.{in_turn_as, in_turn_back_to, in_turn_some}

-- ---- contents that agree on the tables that were found, or on all others

abbrev AlikeIn : Option (List ℕ) → BytesOf → BytesOf → List FoundTable → Type 0
AlikeIn folder held other tables = (name : List ℕ) → has_table tables name ≡ true → AreAlike folder name held other

abbrev AlikeApart : Option (List ℕ) → BytesOf → BytesOf → List FoundTable → Type 0
AlikeApart folder held other tables = (name : List ℕ) → has_table tables name ≡ false → AreAlike folder name held other

-- a table has the name that it was found by
pub table_name : (folder : Option (List ℕ)) (held : BytesOf) (policy : Bool) (entries : ℕ) (name : NameAt) (found : FoundTable) → NamesTable folder held policy entries name (Ok found) → found.name ≡ name.name
table_name folder held policy entries name found (table bytes lines columns holds is mapping few) = refl

-- a table that was added is among those that were found
has_new : (tables : List FoundTable) (new : FoundTable) (name : List ℕ) → new.name ≡ name → has_table (tables ++ new ∷ []) name ≡ true
has_new tables new name is =
    has_more name tables (new ∷ []) ∙ or_right (has_table tables name) (has_table (new ∷ []) name) (or_left (bytes_eq new.name name) false (ap (λ (n : List ℕ). bytes_eq n name) is ∙ same_bytes name))

module _ (folder : Option (List ℕ)) (held other : BytesOf) where
  -- what was found is found again where the contents agree on it
  table_again : (policy : Bool) (beside : ℕ) (found : Found) (name : NameAt) (next : Found) → AlikeIn folder held other next.tables → AddsTable folder (Some held) policy beside found name (Ok next)
      → AddsTable folder (Some other) policy beside found name (Ok next)
  table_again policy beside found name next alike (known has) = known has
  table_again policy beside found name next alike (one_more new lacks is) =
      one_more new lacks (name_alike folder held other policy (entries_in found + beside) name (Ok new)
      (alike name.name (has_new found.tables new name.name (table_name folder held policy (entries_in found + beside) name new is))) is)

  alike_before : (found next : Found) → Grows found next → AlikeIn folder held other next.tables → AlikeIn folder held other found.tables
  alike_before found next grown alike = λ name has. alike name (has_grown name found next grown has)

  tables_again : (found : Found) (name : NameAt) (policy : PolicyText) (next : Found) → AlikeIn folder held other next.tables → AddsTables folder (Some held) found name policy (Ok next)
      → AddsTables folder (Some other) found name policy (Ok next)
  tables_again found name policy next alike adds =
      in_turn_back_to (AddsTable folder (Some held) true (entries_of_text policy)) (AddsTable folder (Some other) true (entries_of_text policy)) (λ (state : Found). AlikeIn folder held other state.tables)
      (λ state item after is at. alike_before state after (table_grows folder (Some held) true (entries_of_text policy) state item after is) at)
      (λ state item after at is. table_again true (entries_of_text policy) state item after at is) found (tables_named name policy) next alike adds

  policy_again : (found : Found) (name : NameAt) (next : Found) → other (policy_file folder name.name) ≡ held (policy_file folder name.name) → AlikeIn folder held other next.tables
      → AddsPolicy folder (Some held) found name (Ok next) → AddsPolicy folder (Some other) found name (Ok next)
  policy_again found name next same alike (fits policy new shape is adds shape_is) =
      fits policy new shape (document_alike folder held other (entries_in found) name (Ok policy) same is) (tables_again found name policy new alike adds) shape_is

  -- what is found behind other tables is found where the contents agree on all but these
  table_apart : (policy : Bool) (beside : ℕ) (found : Found) (name : NameAt) (result : Result Found Halt) → AlikeApart folder held other found.tables → AddsTable folder (Some held) policy beside found name result
      → AddsTable folder (Some other) policy beside found name result
  table_apart policy beside found name result alike (known has) = known has
  table_apart policy beside found name result alike (no_table halt lacks is) = no_table halt lacks (name_alike folder held other policy (entries_in found + beside) name (Err halt) (alike name.name lacks) is)
  table_apart policy beside found name result alike (one_more new lacks is) = one_more new lacks (name_alike folder held other policy (entries_in found + beside) name (Ok new) (alike name.name lacks) is)

  apart_behind : (found next : Found) → Grows found next → AlikeApart folder held other found.tables → AlikeApart folder held other next.tables
  apart_behind found next grown alike = λ name lacks. alike name (lacks_before name found next grown lacks)

  tables_apart : (beside : ℕ) (found : Found) (names : List NameAt) (result : Result Found Halt) → AlikeApart folder held other found.tables → InTurn (AddsTable folder (Some held) true beside) found names result
      → InTurn (AddsTable folder (Some other) true beside) found names result
  tables_apart beside found names result alike adds =
      in_turn_as (AddsTable folder (Some held) true beside) (AddsTable folder (Some other) true beside) (λ (state : Found) (items : List NameAt). AlikeApart folder held other state.tables)
      (λ state item items next at is. apart_behind state next (table_grows folder (Some held) true beside state item next is) at)
      (λ state item items one at is. table_apart true beside state item one at is) found names result alike adds

  policy_apart : (found : Found) (name : NameAt) (result : Result Found Halt) → other (policy_file folder name.name) ≡ held (policy_file folder name.name) → AlikeApart folder held other found.tables
      → AddsPolicy folder (Some held) found name result → AddsPolicy folder (Some other) found name result
  policy_apart found name result same alike (no_policy halt is) = no_policy halt (document_alike folder held other (entries_in found) name (Err halt) same is)
  policy_apart found name result same alike (lacks_table policy halt is adds) =
      lacks_table policy halt (document_alike folder held other (entries_in found) name (Ok policy) same is) (tables_apart (entries_of_text policy) found (tables_named name policy) (Err halt) alike adds)
  policy_apart found name result same alike (misfits policy new cause is adds shape_is) =
      misfits policy new cause (document_alike folder held other (entries_in found) name (Ok policy) same is) (tables_apart (entries_of_text policy) found (tables_named name policy) (Ok new) alike adds) shape_is
  policy_apart found name result same alike (fits policy new shape is adds shape_is) =
      fits policy new shape (document_alike folder held other (entries_in found) name (Ok policy) same is) (tables_apart (entries_of_text policy) found (tables_named name policy) (Ok new) alike adds) shape_is

  -- the document of a policy, where a policy is used, holds the same
  abbrev SameDocument : Bool → List ℕ → Type 0
  SameDocument false name = Unit {0}
  SameDocument true name = other (policy_file folder name) ≡ held (policy_file folder name)

  named_again : (policy : Bool) (found : Found) (name : NameAt) (next : Found) → SameDocument policy name.name → AlikeIn folder held other next.tables
      → AddsNamed folder (Some held) policy found name (Ok next) → AddsNamed folder (Some other) policy found name (Ok next)
  named_again false found name next same alike adds = table_again false 0 found name next alike adds
  named_again true found name next same alike adds = policy_again found name next same alike adds

  named_apart : (policy : Bool) (found : Found) (name : NameAt) (result : Result Found Halt) → SameDocument policy name.name → AlikeApart folder held other found.tables
      → AddsNamed folder (Some held) policy found name result → AddsNamed folder (Some other) policy found name result
  named_apart false found name result same alike adds = table_apart false 0 found name result alike adds
  named_apart true found name result same alike adds = policy_apart found name result same alike adds

  abbrev SameDocuments : List SourceUse → Type 0
  SameDocuments [] = Unit {0}
  SameDocuments (use_ ∷ uses) = SameDocument use_.policy use_.name.name × SameDocuments uses

  gathers_apart : (found : Found) (uses : List SourceUse) (result : Result Found Halt) → AlikeApart folder held other found.tables → SameDocuments uses → Gathers folder (Some held) found uses result
      → Gathers folder (Some other) found uses result
  gathers_apart found uses result alike same gathers =
      in_turn_as (AddsUse folder (Some held)) (AddsUse folder (Some other)) (λ (state : Found) (items : List SourceUse). AlikeApart folder held other state.tables × SameDocuments items)
      (λ state item items next at is. (apart_behind state next (use_grows folder (Some held) state item next is) at.0, at.1.1))
      (λ state item items one at is. named_apart item.policy state item.name one at.1.0 at.0 is) found uses result (alike, same) gathers

-- ---- the files of the tables and the policy that were found

or_none : (one other : Bool) → other ≡ false → (one || other) ≡ one
or_none true other is = refl
or_none false other is = is

and_true : (one : Bool) → (one && true) ≡ one
and_true true = refl
and_true false = refl

module _ (folder : Option (List ℕ)) where
  abbrev is_file_of : List ℕ → List ℕ → Bool
  is_file_of name file = bytes_eq file (mapping_file folder name) || bytes_eq file (row_file folder name)

  abbrev of_tables : List FoundTable → List ℕ → Bool
  of_tables tables file = list_any (λ (found : FoundTable). is_file_of found.name file) tables

  -- the files of the tables, and the document where it is a policy's name
  abbrev mine : Bool → List FoundTable → List ℕ → List ℕ → Bool
  mine policy tables name file = of_tables tables file || (policy && bytes_eq file (policy_file folder name))

  of_some : (tables : List FoundTable) (name file : List ℕ) → ((one : List ℕ) → is_file_of one file ≡ bytes_eq one name) → of_tables tables file ≡ has_table tables name
  of_some [] name file each = refl
  of_some (found ∷ tables) name file each =
      ap (λ (b : Bool). b || of_tables tables file) (each found.name) ∙ ap (λ (b : Bool). bytes_eq found.name name || b) (of_some tables name file each)

  of_none : (tables : List FoundTable) (file : List ℕ) → ((one : List ℕ) → is_file_of one file ≡ false) → of_tables tables file ≡ false
  of_none [] file each = refl
  of_none (found ∷ tables) file each = or_from (is_file_of found.name file) (of_tables tables file) (each found.name) (of_none tables file each)

  mine_mapping : (policy : Bool) (tables : List FoundTable) (name other : List ℕ) → mine policy tables name (mapping_file folder other) ≡ has_table tables other
  mine_mapping policy tables name other =
      or_none (of_tables tables (mapping_file folder other)) (policy && bytes_eq (mapping_file folder other) (policy_file folder name))
      (and_right policy (bytes_eq (mapping_file folder other) (policy_file folder name)) (mapping_no_policy folder other name))
      ∙ of_some tables other (mapping_file folder other)
      (λ one. or_none (bytes_eq (mapping_file folder other) (mapping_file folder one)) (bytes_eq (mapping_file folder other) (row_file folder one)) (mapping_no_rows folder other one) ∙ mapping_of folder other one ∙ turned other one)

  mine_rows : (policy : Bool) (tables : List FoundTable) (name other : List ℕ) → mine policy tables name (row_file folder other) ≡ has_table tables other
  mine_rows policy tables name other =
      or_none (of_tables tables (row_file folder other)) (policy && bytes_eq (row_file folder other) (policy_file folder name))
      (and_right policy (bytes_eq (row_file folder other) (policy_file folder name)) (rows_no_policy folder other name))
      ∙ of_some tables other (row_file folder other)
      (λ one. ap (λ (b : Bool). b || bytes_eq (row_file folder other) (row_file folder one)) (rows_no_mapping folder other one) ∙ rows_of folder other one ∙ turned other one)

  mine_policy : (policy : Bool) (tables : List FoundTable) (name other : List ℕ) → mine policy tables name (policy_file folder other) ≡ (policy && bytes_eq other name)
  mine_policy policy tables name other =
      ap (λ (b : Bool). b || (policy && bytes_eq (policy_file folder other) (policy_file folder name)))
      (of_none tables (policy_file folder other)
      (λ one. or_from (bytes_eq (policy_file folder other) (mapping_file folder one)) (bytes_eq (policy_file folder other) (row_file folder one)) (policy_no_mapping folder other one) (policy_no_rows folder other one)))
      ∙ ap (λ (b : Bool). policy && b) (policy_of folder other name)

  -- ---- the contents of what is found first, and of what is found behind it

  abbrev both_contents : Bool → List FoundTable → List ℕ → BytesOf → BytesOf → BytesOf
  both_contents policy tables name here there = joined (mine policy tables name) here there

  found_here : (policy : Bool) (tables : List FoundTable) (name : List ℕ) (here there : BytesOf) → AlikeIn folder here (both_contents policy tables name here there) tables
  found_here policy tables name here there = λ one has. record {
    mapping = joined_here (mine policy tables name) here there (mapping_file folder one) (mine_mapping policy tables name one ∙ has);
    rows_too = joined_here (mine policy tables name) here there (row_file folder one) (mine_rows policy tables name one ∙ has);
  }

  found_there : (policy : Bool) (tables : List FoundTable) (name : List ℕ) (here there : BytesOf) → AlikeApart folder there (both_contents policy tables name here there) tables
  found_there policy tables name here there = λ one lacks. record {
    mapping = joined_there (mine policy tables name) here there (mapping_file folder one) (mine_mapping policy tables name one ∙ lacks);
    rows_too = joined_there (mine policy tables name) here there (row_file folder one) (mine_rows policy tables name one ∙ lacks);
  }

  document_here : (policy : Bool) (tables : List FoundTable) (name : List ℕ) (here there : BytesOf) → SameDocument folder here (both_contents policy tables name here there) policy name
  document_here false tables name here there = tt
  document_here true tables name here there = joined_here (mine true tables name) here there (policy_file folder name) (mine_policy true tables name name ∙ same_bytes name)

  document_there : (policy : Bool) (tables : List FoundTable) (name : List ℕ) (here there : BytesOf) (other_policy : Bool) (other : List ℕ) → (bytes_eq name other && same_bool policy other_policy) ≡ false
      → SameDocument folder there (both_contents policy tables name here there) other_policy other
  document_there policy tables name here there false other apart = tt
  document_there false tables name here there true other apart = joined_there (mine false tables name) here there (policy_file folder other) (mine_policy false tables name other)
  document_there true tables name here there true other apart =
      joined_there (mine true tables name) here there (policy_file folder other) (mine_policy true tables name other ∙ turned other name ∙ sym (and_true (bytes_eq name other)) ∙ apart)

  documents_there : (policy : Bool) (tables : List FoundTable) (name : List ℕ) (here there : BytesOf) (uses : List SourceUse)
      → AllByRecursion (λ (other : SourceUse). (bytes_eq name other.name.name && same_bool policy other.policy) ≡ false) uses
      → SameDocuments folder there (both_contents policy tables name here there) uses
  documents_there policy tables name here there [] apart = tt
  documents_there policy tables name here there (use_ ∷ uses) apart =
      (document_there policy tables name here there use_.policy use_.name.name apart.0, documents_there policy tables name here there uses apart.1)

  -- ---- what names stand for

  some_table : (policy : Bool) (beside : ℕ) (found : Found) (name : NameAt) (result : Result Found Halt) → AddsTable folder None policy beside found name result
      → (held : BytesOf) × AddsTable folder (Some held) policy beside found name result
  some_table policy beside found name result (known has) = ((λ file. None), known has)
  some_table policy beside found name result (no_table halt lacks is) = (is.0, no_table halt lacks is.1)
  some_table policy beside found name result (one_more new lacks is) = (is.0, one_more new lacks is.1)

  some_tables : (beside : ℕ) (found : Found) (names : List NameAt) (result : Result Found Halt) → InTurn (AddsTable folder None true beside) found names result
      → (held : BytesOf) × InTurn (AddsTable folder (Some held) true beside) found names result
  some_tables beside found names result adds =
      in_turn_some (λ (held : Held). AddsTable folder held true beside) (λ (items : List NameAt). Unit {0}) (λ item items all. tt) (some_table true beside)
      (λ state item items next one here there all first_one later. (
        both_contents false next.tables [] here there,
        table_again folder here (both_contents false next.tables [] here there) true beside state item next (found_here false next.tables [] here there) first_one,
        tables_apart folder there (both_contents false next.tables [] here there) beside next items one (found_there false next.tables [] here there) later,
      ))
      found names result tt adds

  -- the contents of a document, and those of the tables that it names
  abbrev document_and : List ℕ → BytesOf → BytesOf → BytesOf
  document_and name here there = both_contents true [] name here there

  document_first : (here there : BytesOf) (entries : ℕ) (name : NameAt) (result : Result PolicyText Halt) → NamesPolicy folder here entries name result → NamesPolicy folder (document_and name.name here there) entries name result
  document_first here there entries name result is = document_alike folder here (document_and name.name here there) entries name result (document_here true [] name.name here there) is

  tables_behind : (here there : BytesOf) (found : Found) (name : NameAt) (policy : PolicyText) (result : Result Found Halt) → AddsTables folder (Some there) found name policy result
      → AddsTables folder (Some (document_and name.name here there)) found name policy result
  tables_behind here there found name policy result adds =
      tables_apart folder there (document_and name.name here there) (entries_of_text policy) found (tables_named name policy) result (λ one lacks. found_there true [] name.name here there one refl) adds

  some_policy : (found : Found) (name : NameAt) (result : Result Found Halt) → AddsPolicy folder None found name result → (held : BytesOf) × AddsPolicy folder (Some held) found name result
  some_policy found name result (no_policy halt is) = (is.0, no_policy halt is.1)
  some_policy found name result (lacks_table policy halt is adds) =
      let (there, later) = some_tables (entries_of_text policy) found (tables_named name policy) (Err halt) adds in
      (document_and name.name is.0 there, lacks_table policy halt (document_first is.0 there (entries_in found) name (Ok policy) is.1) (tables_behind is.0 there found name policy (Err halt) later))
  some_policy found name result (misfits policy new cause is adds shape_is) =
      let (there, later) = some_tables (entries_of_text policy) found (tables_named name policy) (Ok new) adds in
      (document_and name.name is.0 there, misfits policy new cause (document_first is.0 there (entries_in found) name (Ok policy) is.1) (tables_behind is.0 there found name policy (Ok new) later) shape_is)
  some_policy found name result (fits policy new shape is adds shape_is) =
      let (there, later) = some_tables (entries_of_text policy) found (tables_named name policy) (Ok new) adds in
      (document_and name.name is.0 there, fits policy new shape (document_first is.0 there (entries_in found) name (Ok policy) is.1) (tables_behind is.0 there found name policy (Ok new) later) shape_is)

  some_named : (policy : Bool) (found : Found) (name : NameAt) (result : Result Found Halt) → AddsNamed folder None policy found name result → (held : BytesOf) × AddsNamed folder (Some held) policy found name result
  some_named false found name result adds = some_table false 0 found name result adds
  some_named true found name result adds = some_policy found name result adds

  -- the uses that are left differ from the first
  join_uses : (state : Found) (use_ : SourceUse) (uses : List SourceUse) (next : Found) (result : Result Found Halt) (here there : BytesOf) → AreDifferentUses (use_ ∷ uses) → AddsUse folder (Some here) state use_ (Ok next)
      → Gathers folder (Some there) next uses result → (held : BytesOf) × AddsUse folder (Some held) state use_ (Ok next) × Gathers folder (Some held) next uses result
  join_uses state use_ uses next result here there are first_one later =
      let held : BytesOf = both_contents use_.policy next.tables use_.name.name here there in (
        held,
        named_again folder here held use_.policy state use_.name next (document_here use_.policy next.tables use_.name.name here there) (found_here use_.policy next.tables use_.name.name here there) first_one,
        gathers_apart folder there held next uses result (found_there use_.policy next.tables use_.name.name here there)
            (documents_there use_.policy next.tables use_.name.name here there uses (IsDistinct-head is_same_use use_ uses are)) later,
      )

pub some_gathering : SomeGathering
some_gathering folder uses gathered gathers are =
    in_turn_some (AddsUse folder) AreDifferentUses (λ use_ rest all. IsDistinct-tail is_same_use use_ rest all) (λ state use_ one is. some_named folder use_.policy state use_.name one is) (join_uses folder) nothing uses gathered are gathers
