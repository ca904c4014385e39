-- The shape of a policy over its tables.
use Rattle.std.specs.Prelude.{ℕ, ◌+◌, List, [], ◌∷◌, ◌++◌, fold, length, map, Option, Some, None, Result, Ok, Err, if◌then◌else◌}
use Rattle.std.specs.List.{list_all, list_any}
use Rattle.std.specs.Str.{bytes_eq}
use Rattle.esql_types.specs.declared.names.Column.{Column}
use Rattle.esql_types.specs.declared.value.Kind.{Kind}
use Rattle.esql_types.specs.declared.places.Span.{Span}
use Rattle.esql_ast.specs.declared.query.NameAt.{NameAt}
use Rattle.esql_plan.specs.declared.catalog.PolicyShape.{PolicyShape}
use Rattle.plan_semantics.specs.WellFormed.{kind_named}
use Rattle.dissect_grok.specs.Groks.{same_kind}
use Rattle.ndjson_load.specs.declared.cause.MappingCause.{MappingCause}
use Rattle.ndjson_load.specs.declared.cause.MappingCause.TheVariants.{NoField, KindConflict}
use Rattle.policy_json.specs.declared.policy.PolicyText.{PolicyText}
use Rattle.table_files.specs.declared.tables.FoundTable.{FoundTable}
use Rattle.table_files.specs.Catalogs.{columns_of}

-- ---- the tables of a policy

abbrev pub with_name : List (List ℕ) → List ℕ → List (List ℕ)
with_name names name = if list_any (λ one. bytes_eq one name) names then names else names ++ name ∷ []

-- each name once, at its first place
abbrev pub each_once : List (List ℕ) → List (List ℕ)
each_once names = fold with_name [] names

-- names that stand at one place
abbrev pub names_at : Span → List (List ℕ) → List NameAt
names_at span names = map (λ (name : List ℕ). record { name = name; span = span }) names

-- the names of a policy's tables, each once, which stand at the policy's name
abbrev pub tables_named : NameAt → PolicyText → List NameAt
tables_named name policy = names_at name.span (each_once policy.indices)

-- the entries of a policy: itself, its tables, each once, and its fields, each as often as it is named
abbrev pub entries_of_text : PolicyText → ℕ
entries_of_text policy = 1 + length (each_once policy.indices) + length policy.fields

-- the number of the first table of a name
abbrev pub number_of : List FoundTable → List ℕ → ℕ
number_of [] name = 0
number_of (table ∷ tables) name = if bytes_eq table.name name then 0 else 1 + number_of tables name

-- ---- its fields

-- the columns of the first table of a name
abbrev pub columns_named : List FoundTable → List ℕ → List Column
columns_named [] name = []
columns_named (table ∷ tables) name = if bytes_eq table.name name then columns_of table.columns else columns_named tables name

abbrev pub onto : Option Kind → List Kind → List Kind
onto None kinds = kinds
onto (Some kind) kinds = kind ∷ kinds

-- the kinds that the tables of these names give a column, in turn
abbrev pub kinds_given : List FoundTable → List (List ℕ) → List ℕ → List Kind
kinds_given tables [] column = []
kinds_given tables (name ∷ names) column = onto (kind_named (columns_named tables name) column) (kinds_given tables names column)

-- a field is a column of at least one table, and of one kind in all that have it
abbrev pub field_of_kinds : List ℕ → List Kind → Result Column MappingCause
field_of_kinds column [] = Err (NoField column)
field_of_kinds column (kind ∷ kinds) = if list_all (same_kind kind) kinds then Ok (record { name = column; kind = kind }) else Err (KindConflict column)

abbrev pub field_of : List FoundTable → List (List ℕ) → List ℕ → Result Column MappingCause
field_of tables names column = field_of_kinds column (kinds_given tables names column)

abbrev pub with_field : Result Column MappingCause → Result (List Column) MappingCause → Result (List Column) MappingCause
with_field (Err cause) fields = Err cause
with_field (Ok field) (Err cause) = Err cause
with_field (Ok field) (Ok fields) = Ok (field ∷ fields)

-- the fields, or what is wrong with the first that is none
abbrev pub fields_of : List FoundTable → List (List ℕ) → List (List ℕ) → Result (List Column) MappingCause
fields_of tables names [] = Ok []
fields_of tables names (column ∷ columns) = with_field (field_of tables names column) (fields_of tables names columns)

abbrev pub shape_with : List ℕ → List ℕ → Result Column MappingCause → Result (List Column) MappingCause → Result PolicyShape MappingCause
shape_with name numbers (Err cause) fields = Err cause
shape_with name numbers (Ok matched) (Err cause) = Err cause
shape_with name numbers (Ok matched) (Ok fields) = Ok (record { name = name; tables = numbers; match_field = matched; fields = fields })

-- the shape of a policy of a name: the numbers of its tables, the field that is matched and the fields that are taken, or what is
-- wrong with the first field that is none
abbrev pub shape_of_policy : List FoundTable → List ℕ → PolicyText → Result PolicyShape MappingCause
shape_of_policy tables name policy =
    shape_with name (map (number_of tables) (each_once policy.indices)) (field_of tables (each_once policy.indices) policy.match_field)
    (fields_of tables (each_once policy.indices) policy.fields)
