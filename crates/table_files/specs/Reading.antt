-- The steps in which a name is looked up: what is answered of a file, and of what it holds.
use Rattle.std.specs.Prelude.{◌≡◌, ℕ, ◌+◌, ◌≤◌, ◌<◌, Bool, true, false, List, [], length, map, Option, Some, None, Result, Ok, Err, All}
use Rattle.plan_semantics.specs.WellFormed.{IsPolicyTable}
use Rattle.esql_plan.specs.declared.catalog.PolicyShape.{PolicyShape}
use Rattle.ndjson_load.specs.declared.cause.MappingCause.{MappingCause}
use Rattle.ndjson_load.specs.declared.column.MappedColumn.{MappedColumn}
use Rattle.ndjson_load.specs.Mappings.{IsMapping, IsMappingFault}
use Rattle.ndjson_load.specs.Shapes.{IsLoadable, NamesRise}
use Rattle.esql_io.specs.Files.{Held}
use Rattle.ndjson_load.specs.Over.{BytesOf, Over}
use Rattle.policy_json.specs.Policies.{policy_text}
use Rattle.policy_json.specs.declared.policy.PolicyText.{PolicyText}
use Rattle.table_files.specs.declared.tables.FoundTable.{FoundTable}
use Rattle.table_files.specs.Catalog.{Holds, IsTooLarge, most_entries}
use Rattle.table_files.specs.Catalogs.{catalog_of}
use Rattle.table_files.specs.Found.{Found}
use Rattle.table_files.specs.Halts.{Halt, bad}
use Rattle.table_files.specs.Messages.{too_large, too_many, mapping_message}
use Rattle.table_files.specs.Policies.{entries_of_text}
use Rattle.table_files.specs.Shapes.{AreApart, entries_in}

-- the bytes of a file, if it is held, unless it is too large
pub data ReadsFile (held : BytesOf) (file : List ℕ) : Result (Option (List ℕ)) Halt → Type 0 where
  reads : (bytes : List ℕ) → Holds held file bytes → ReadsFile held file (Ok (Some bytes))
  is_missing : held file ≡ None → ReadsFile held file (Ok None)
  is_wide : IsTooLarge held file → ReadsFile held file (Err (bad (too_large file)))

-- the same over files that may not tell what they hold
abbrev pub ReadsOver : Held → List ℕ → Result (Option (List ℕ)) Halt → Type 0
ReadsOver held file result = Over held (λ bytes_of. ReadsFile bytes_of file result)

-- whether a file is held
pub data FindsFile (held : BytesOf) (file : List ℕ) : Result Bool Halt → Type 0 where
  finds : (bytes : List ℕ) → held file ≡ Some bytes → FindsFile held file (Ok true)
  lacks : held file ≡ None → FindsFile held file (Ok false)

-- the same over files that may not tell what they hold
abbrev pub FindsOver : Held → List ℕ → Result Bool Halt → Type 0
FindsOver held file result = Over held (λ bytes_of. FindsFile bytes_of file result)

-- the columns of a mapping, or its first fault, or that there are too many after so many entries
pub data ReadsColumns (bytes file : List ℕ) (entries : ℕ) : Result (List MappedColumn) Halt → Type 0 where
  columns_are : (columns : List MappedColumn) → IsMapping bytes columns → entries + 1 + length columns ≤ most_entries → ReadsColumns bytes file entries (Ok columns)
  fault_is : (cause : MappingCause) → IsMappingFault bytes cause → ReadsColumns bytes file entries (Err (bad (mapping_message file cause)))
  too_many_are : (columns : List MappedColumn) → IsMapping bytes columns → most_entries < entries + 1 + length columns → ReadsColumns bytes file entries (Err (bad (too_many file)))

-- the policy of a document, or why it is none, or that it has too many entries after so many
pub data ReadsPolicy (bytes file : List ℕ) (entries : ℕ) : Result PolicyText Halt → Type 0 where
  policy_is : (policy : PolicyText) → policy_text bytes ≡ Ok policy → entries + entries_of_text policy ≤ most_entries → ReadsPolicy bytes file entries (Ok policy)
  no_policy_is : (cause : MappingCause) → policy_text bytes ≡ Err cause → ReadsPolicy bytes file entries (Err (bad (mapping_message file cause)))
  too_wide_is : (policy : PolicyText) → policy_text bytes ≡ Ok policy → most_entries < entries + entries_of_text policy → ReadsPolicy bytes file entries (Err (bad (too_many file)))

-- the policy of a document, with its tables
abbrev pub ReadsDocument : List ℕ → List ℕ → ℕ → Result (PolicyText × List (List ℕ)) Halt → Type 0
ReadsDocument bytes file entries (Ok found) = ReadsPolicy bytes file entries (Ok found.0)
ReadsDocument bytes file entries (Err halt) = ReadsPolicy bytes file entries (Err halt)

-- a policy is one over these tables, each of which has the match field and the fields, where it has them, of their kinds
abbrev pub FitsTables : List FoundTable → PolicyShape → Type 0
FitsTables tables policy = All (IsPolicyTable (catalog_of tables []) policy) policy.tables

-- what is known of tables and policies that were found
pub record IsFinding (found : Found) : Type 0 where
  pub few : entries_in found ≤ most_entries
  pub apart : AreApart (map (λ (table : FoundTable). table.name) found.tables)
  pub loadable : All (λ (table : FoundTable). All IsLoadable table.columns) found.tables
  pub rise : All (λ (table : FoundTable). NamesRise table.columns) found.tables
  pub policies : All (FitsTables found.tables) found.policies
