-- What is answered of a mapping or of the document of a policy.
use Rattle.std.proofs.Common.{◌≡◌, ℕ, ◌+◌, ◌<◌, List, length, Ok, Err, None, refl, sym, subst, ap}
use Rattle.ndjson_load.specs.Mappings.{IfBad, IsMapping, IsMappingFault}
use Rattle.ndjson_load.specs.declared.cause.MappingCause.{MappingCause}
use Rattle.ndjson_load.specs.declared.cause.MappingError.{MappingError}
use Rattle.ndjson_load.specs.declared.cause.MappingError.TheVariants.{Bad}
use Rattle.ndjson_load.specs.declared.column.MappedColumn.{MappedColumn}
use Rattle.policy_json.specs.Policies.{policy_text}
use Rattle.policy_json.specs.declared.policy.PolicyText.{PolicyText}
use Rattle.table_files.specs.Catalog.{most_entries}
use Rattle.table_files.specs.Halts.{Halt, bad, place_of}
use Rattle.table_files.specs.Messages.{mapping_message, too_many}
use Rattle.table_files.specs.Policies.{each_once, entries_of_text}
use Rattle.table_files.specs.Reading.{ReadsColumns, fault_is, too_many_are, ReadsPolicy, no_policy_is, too_wide_is}

-- ---- a mapping

pub columns_fault : (bytes file message : List ℕ) (entries : ℕ) (cause : MappingCause) (error : MappingError) → error ≡ Bad cause → IfBad error (IsMappingFault bytes) → message ≡ mapping_message file cause
    → ReadsColumns bytes file entries (Err (bad message))
columns_fault bytes file message entries cause error same fault is =
    subst (λ m. ReadsColumns bytes file entries (Err (bad m))) (sym is) (fault_is cause (subst (λ e. IfBad e (IsMappingFault bytes)) same fault))

pub columns_many : (bytes file message : List ℕ) (entries : ℕ) (columns : List MappedColumn) → IsMapping bytes columns → most_entries < entries + 1 + length columns → message ≡ too_many file
    → ReadsColumns bytes file entries (Err (bad message))
columns_many bytes file message entries columns mapping wide is =
    subst (λ m. ReadsColumns bytes file entries (Err (bad m))) (sym is) (too_many_are columns mapping wide)

pub columns_nowhere : (bytes file : List ℕ) (entries : ℕ) (halt : Halt) → ReadsColumns bytes file entries (Err halt) → place_of halt ≡ None
columns_nowhere bytes file entries halt (fault_is cause fault) = refl
columns_nowhere bytes file entries halt (too_many_are columns mapping wide) = refl

-- ---- the document of a policy

pub document_fault : (bytes file message : List ℕ) (entries : ℕ) (cause : MappingCause) (error : MappingError) → error ≡ Bad cause → IfBad error (λ cause. policy_text bytes ≡ Err cause)
    → message ≡ mapping_message file cause → ReadsPolicy bytes file entries (Err (bad message))
document_fault bytes file message entries cause error same fault is =
    subst (λ m. ReadsPolicy bytes file entries (Err (bad m))) (sym is) (no_policy_is cause (subst (λ e. IfBad e (λ cause. policy_text bytes ≡ Err cause)) same fault))

pub document_many : (bytes file message : List ℕ) (entries : ℕ) (policy : PolicyText) → policy_text bytes ≡ Ok policy → most_entries < entries + entries_of_text policy → message ≡ too_many file
    → ReadsPolicy bytes file entries (Err (bad message))
document_many bytes file message entries policy text wide is =
    subst (λ m. ReadsPolicy bytes file entries (Err (bad m))) (sym is) (too_wide_is policy text wide)

pub entries_same : (policy : PolicyText) (tables : List (List ℕ)) → tables ≡ each_once policy.indices → entries_of_text policy ≡ 1 + length tables + length policy.fields
entries_same policy tables are = ap (λ (names : List (List ℕ)). 1 + length names + length policy.fields) (sym are)

pub document_nowhere : (bytes file : List ℕ) (entries : ℕ) (halt : Halt) → ReadsPolicy bytes file entries (Err halt) → place_of halt ≡ None
document_nowhere bytes file entries halt (no_policy_is cause fault) = refl
document_nowhere bytes file entries halt (too_wide_is policy text wide) = refl
