-- What the kinds of columns are over tables.
use Rattle.std.specs.Prelude.{◌≡◌, ℕ, ◌<◌, false, List, [], ◌∷◌, length, get_or, Option, Some, None, Result, Ok, Err, if◌then◌else◌}
use Rattle.std.specs.List.{list_all}
use Rattle.std.specs.Str.{bytes_eq}
use Rattle.esql_types.specs.declared.names.Column.{Column}
use Rattle.esql_types.specs.declared.value.Kind.{Kind}
use Rattle.plan_semantics.specs.WellFormed.{kind_named}
use Rattle.dissect_grok.specs.Groks.{same_kind}
use Rattle.ndjson_load.specs.declared.cause.MappingCause.{MappingCause}
use Rattle.ndjson_load.specs.declared.cause.MappingCause.TheVariants.{NoField, KindConflict}
use Rattle.table_files.specs.declared.fields.FieldKind.{FieldKind}
use Rattle.table_files.specs.declared.fields.FieldKind.TheVariants.{One, Several}
use Rattle.table_files.specs.declared.tables.FoundTable.{FoundTable}
use Rattle.table_files.specs.Policies.{kinds_given, with_field}

-- what is known of each name
abbrev pub Known : Type 0
Known = List ℕ → Option FieldKind

-- of one name this is known now
abbrev pub known_with : List ℕ → FieldKind → Known → Known
known_with name kind known other = if bytes_eq name other then Some kind else known other

-- what kinds are together
abbrev pub folded : List Kind → Option FieldKind
folded [] = None
folded (kind ∷ kinds) = Some (if list_all (same_kind kind) kinds then One kind else Several)

-- what kinds are together with one more
abbrev pub with_kind : Option FieldKind → Kind → FieldKind
with_kind None kind = One kind
with_kind (Some Several) kind = Several
with_kind (Some (One one)) kind = if same_kind one kind then One one else Several

abbrev pub with_kind_if : Option Kind → Option FieldKind → Option FieldKind
with_kind_if None known = known
with_kind_if (Some kind) known = Some (with_kind known kind)

-- a table has the column
abbrev pub given_by : Column → Known → Known
given_by column known name = with_kind_if (if bytes_eq column.name name then Some column.kind else None) (known name)

-- a table has the columns
abbrev pub with_columns : List Column → Known → Known
with_columns columns known name = with_kind_if (kind_named columns name) (known name)

-- no two columns have one name
abbrev pub AreOnce : List Column → Type 0
AreOnce columns = (i j : ℕ) (d : Column) → i < j → j < length columns → bytes_eq (get_or columns i d).name (get_or columns j d).name ≡ false

-- of each column it is known what its kinds are in the tables of these names
abbrev pub FoldsKinds : List FoundTable → List (List ℕ) → Known → Type 0
FoldsKinds tables names known = (column : List ℕ) → known column ≡ folded (kinds_given tables names column)

-- the field of a name by what is known of it
abbrev pub field_known : Option FieldKind → List ℕ → Result Column MappingCause
field_known None name = Err (NoField name)
field_known (Some Several) name = Err (KindConflict name)
field_known (Some (One kind)) name = Ok (record { name = name; kind = kind })

abbrev pub field_by : Known → List ℕ → Result Column MappingCause
field_by known name = field_known (known name) name

abbrev pub fields_by : Known → List (List ℕ) → Result (List Column) MappingCause
fields_by known [] = Ok []
fields_by known (name ∷ names) = with_field (field_by known name) (fields_by known names)
