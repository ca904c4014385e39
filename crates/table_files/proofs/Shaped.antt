-- The shape of a policy by what is known of the kinds of columns.
use Rattle.std.proofs.Common.{◌≡◌, ℕ, List, map, Result, Ok, Err, sym, ap, subst, ◌∙◌}
use Rattle.std.specs.Result.{IfErr, IsErrAnd}
use Rattle.std.proofs.lemmas.Result.{err_from_is_err_and}
use Rattle.esql_types.specs.declared.names.Column.{Column}
use Rattle.ndjson_load.specs.Mappings.{IfBad}
use Rattle.ndjson_load.specs.declared.cause.MappingCause.{MappingCause}
use Rattle.ndjson_load.specs.declared.cause.MappingError.{MappingError}
use Rattle.ndjson_load.specs.declared.cause.MappingError.TheVariants.{Bad, Memory}
use Rattle.policy_json.specs.declared.policy.PolicyText.{PolicyText}
use Rattle.table_files.specs.declared.tables.FoundTable.{FoundTable}
use Rattle.table_files.specs.Fields.{Known, FoldsKinds, field_by, fields_by}
use Rattle.table_files.specs.Policies.{each_once, number_of, field_of, fields_of, shape_with, shape_of_policy}
use Rattle.table_files.proofs.FieldsGiven.{field_given, fields_given}

-- ---- errors that are handed on

bad_weaker : (error : MappingError) (P Q : MappingCause → Type 0) → ((cause : MappingCause) → P cause → Q cause) → IfBad error P → IfBad error Q
bad_weaker (Bad cause) P Q weaker bad = weaker cause bad
bad_weaker (Memory error) P Q weaker bad = tt

pub handed_on : (T : Type 0) (result : Result T MappingError) (error : MappingError) (P Q : MappingCause → Type 0) → IsErrAnd result (λ this. this ≡ error)
    → ((cause : MappingCause) → P cause → Q cause) → IfBad error P → IfErr result (λ this. IfBad this Q)
handed_on T result error P Q is weaker bad =
    let found = err_from_is_err_and result is in
    subst (λ (this : Result T MappingError). IfErr this (λ this. IfBad this Q)) (sym (found.1 ∙ ap Err found.2)) (bad_weaker error P Q weaker bad)

-- ---- the shape

by_known : (tables : List FoundTable) (names : List (List ℕ)) (name : List ℕ) (policy : PolicyText) (known : Known) → names ≡ each_once policy.indices → FoldsKinds tables names known
    → shape_with name (map (number_of tables) names) (field_by known policy.match_field) (fields_by known policy.fields) ≡ shape_of_policy tables name policy
by_known tables names name policy known once folds =
    (λ i. shape_with name (map (number_of tables) names) (field_given tables names known policy.match_field folds i) (fields_given tables names known policy.fields folds i))
    ∙ ap (λ these. shape_with name (map (number_of tables) these) (field_of tables these policy.match_field) (fields_of tables these policy.fields)) once

pub shape_ok : (tables : List FoundTable) (names : List (List ℕ)) (name copied : List ℕ) (policy : PolicyText) (known : Known) (matched : List ℕ) (columns : List (List ℕ)) (numbers : List ℕ) (field : Column) (fields : List Column)
    → names ≡ each_once policy.indices → FoldsKinds tables names known → copied ≡ name → numbers ≡ map (number_of tables) names → matched ≡ policy.match_field → columns ≡ policy.fields
    → field_by known matched ≡ Ok field → fields_by known columns ≡ Ok fields
    → shape_of_policy tables name policy ≡ Ok (record { name = copied; tables = numbers; match_field = field; fields = fields })
shape_ok tables names name copied policy known matched columns numbers field fields once folds copy numbered same all own rest =
    sym (by_known tables names name policy known once folds)
    ∙ (λ i. shape_with (sym copy i) (sym numbered i) ((ap (field_by known) (sym same) ∙ own) i) ((ap (fields_by known) (sym all) ∙ rest) i))

pub shape_bad : (tables : List FoundTable) (names : List (List ℕ)) (name : List ℕ) (policy : PolicyText) (known : Known) (matched : List ℕ) (columns : List (List ℕ)) (field : Column) (cause : MappingCause)
    → names ≡ each_once policy.indices → FoldsKinds tables names known → matched ≡ policy.match_field → columns ≡ policy.fields
    → field_by known matched ≡ Ok field → fields_by known columns ≡ Err cause → shape_of_policy tables name policy ≡ Err cause
shape_bad tables names name policy known matched columns field cause once folds same all own rest =
    sym (by_known tables names name policy known once folds)
    ∙ (λ i. shape_with name (map (number_of tables) names) ((ap (field_by known) (sym same) ∙ own) i) ((ap (fields_by known) (sym all) ∙ rest) i))

pub shape_unmatched : (tables : List FoundTable) (names : List (List ℕ)) (name : List ℕ) (policy : PolicyText) (known : Known) (matched : List ℕ) (cause : MappingCause)
    → names ≡ each_once policy.indices → FoldsKinds tables names known → matched ≡ policy.match_field → field_by known matched ≡ Err cause → shape_of_policy tables name policy ≡ Err cause
shape_unmatched tables names name policy known matched cause once folds same own =
    sym (by_known tables names name policy known once folds)
    ∙ (λ i. shape_with name (map (number_of tables) names) ((ap (field_by known) (sym same) ∙ own) i) (fields_by known policy.fields))
