-- The columns that a mapping gives a table.
use Rattle.std.specs.Prelude.{◌≡◌, ◌⊎◌, ℕ, Bool, true, false, List, [], ◌∷◌, ◌++◌, codes, Option, Some, None, option_and_then, option_map, Result, Ok, Err, ⊤, if◌then◌else◌}
use Rattle.std.specs.List.Sorted.{IsPermutation, IsSortedBy}
use Rattle.std.specs.Ordering.{nat_cmp, is_lt}
use Rattle.std.specs.Cmp.Lexicographic.{slice_cmp}
use Rattle.std.specs.Str.{bytes_eq}
use Rattle.serde_json.specs.Data.{Data, null, boolean, number, string, array, object, Members, no_members, member}
use Rattle.serde_json.specs.Find.{get, get_member, as_object}
use Rattle.esql_types.specs.declared.value.Kind.{Kind}
use Rattle.esql_types.specs.declared.value.Kind.TheVariants.{Integer, Long, Boolean, Keyword, Null}
use Rattle.esql_types.specs.declared.value.Value.{Value as CellValue}
use Rattle.ndjson_load.specs.Accepted.{accepted, boolean_of}
use Rattle.ndjson_load.specs.Documents.{document_of}
use Rattle.ndjson_load.specs.Joining.{joined}
use Rattle.ndjson_load.specs.declared.cause.MappingCause.{MappingCause}
use Rattle.ndjson_load.specs.declared.cause.MappingCause.TheVariants.{NotJson, NoMappings, WantsObject, WantsText, BadParameter, Twice}
use Rattle.ndjson_load.specs.declared.cause.MappingError.{MappingError}
use Rattle.ndjson_load.specs.declared.cause.MappingError.TheVariants.{Bad, Memory}
use Rattle.ndjson_load.specs.declared.column.MappedColumn.{MappedColumn}

-- ---- from the document to its properties

-- the object `properties` of a value
abbrev pub properties_under : Data → Option Members
properties_under mappings = option_and_then as_object (get (codes "properties") mappings)

-- the properties in the member `mappings` of a value
abbrev pub mappings_under : Data → Option Members
mappings_under d = option_and_then properties_under (get (codes "mappings") d)

-- the one member of an object that has no other
abbrev pub only_member : Members → Option Data
only_member no_members = None
only_member (member key d no_members) = Some d
only_member (member key d (member key' d' ms)) = None

-- The properties of a document: those in its member `mappings`, where it has one, else those in the `mappings` of its only
-- member.
abbrev pub properties_from : Option Data → Members → Option Members
properties_from (Some mappings) ms = properties_under mappings
properties_from None ms = option_and_then mappings_under (only_member ms)

abbrev pub properties_of : Data → Option Members
properties_of null = None
properties_of (boolean b) = None
properties_of (number n) = None
properties_of (string s) = None
properties_of (array ds) = None
properties_of (object ms) = properties_from (get_member (codes "mappings") ms) ms

-- ---- one property

-- the kind of a type that gives a column
abbrev pub kind_of_type : List ℕ → Option Kind
kind_of_type name =
    if bytes_eq name (codes "integer") then Some Integer else (
    if bytes_eq name (codes "short") then Some Integer else (
    if bytes_eq name (codes "byte") then Some Integer else (
    if bytes_eq name (codes "long") then Some Long else (
    if bytes_eq name (codes "boolean") then Some Boolean else (
    if bytes_eq name (codes "keyword") then Some Keyword else (
    if bytes_eq name (codes "text") then Some Keyword else None))))))

-- a column has the parameter `ignore_malformed` where its kind is no keyword
abbrev pub may_ignore : Kind → Bool
may_ignore Integer = true
may_ignore Long = true
may_ignore Boolean = true
may_ignore Keyword = false
may_ignore Null = false

-- the flag that `ignore_malformed` sets, which is false where it is not there; None where it is bad
abbrev pub flag_from : Option Data → Option Bool
flag_from None = Some false
flag_from (Some d) = boolean_of d

abbrev pub ignores_of : Kind → Data → Option Bool
ignores_of kind property = if may_ignore kind then flag_from (get (codes "ignore_malformed") property) else Some false

-- the value that `null_value` gives, none where it is null or not there; None where it is bad
abbrev pub null_from : Kind → Option Data → Option (Option CellValue)
null_from kind None = Some None
null_from kind (Some null) = Some None
null_from kind (Some (boolean b)) = option_map Some (accepted kind (boolean b))
null_from kind (Some (number n)) = option_map Some (accepted kind (number n))
null_from kind (Some (string s)) = option_map Some (accepted kind (string s))
null_from kind (Some (array ds)) = None
null_from kind (Some (object ms)) = None

-- every type that gives a column but `text` has the parameter `null_value`
abbrev pub null_of : List ℕ → Kind → Data → Option (Option CellValue)
null_of name kind property = if bytes_eq name (codes "text") then Some None else null_from kind (get (codes "null_value") property)

abbrev pub column_from : List ℕ → Kind → Option Bool → Option (Option CellValue) → Result (List MappedColumn) MappingCause
column_from path kind None stands_for = Err (BadParameter path)
column_from path kind (Some ignores) None = Err (BadParameter path)
column_from path kind (Some ignores) (Some stands_for) = Ok (record { column = record { name = path; kind = kind }; ignore_malformed = ignores; null_value = stands_for } ∷ [])

-- the column of a property of this type, if the type gives one
abbrev pub typed_column : List ℕ → List ℕ → Option Kind → Data → Result (List MappedColumn) MappingCause
typed_column path name None property = Ok []
typed_column path name (Some kind) property = column_from path kind (ignores_of kind property) (null_of name kind property)

-- a property is a branch where its type is `object` or not there
abbrev pub is_branch_type : Option Data → Bool
is_branch_type None = true
is_branch_type (Some null) = false
is_branch_type (Some (boolean b)) = false
is_branch_type (Some (number n)) = false
is_branch_type (Some (string name)) = bytes_eq name (codes "object")
is_branch_type (Some (array ds)) = false
is_branch_type (Some (object ms)) = false

-- what a property that is no branch gives: its type is a text
abbrev pub leaf_from : List ℕ → Option Data → Data → Result (List MappedColumn) MappingCause
leaf_from path None property = Err (WantsText path)
leaf_from path (Some null) property = Err (WantsText path)
leaf_from path (Some (boolean b)) property = Err (WantsText path)
leaf_from path (Some (number n)) property = Err (WantsText path)
leaf_from path (Some (string name)) property = typed_column path name (kind_of_type name) property
leaf_from path (Some (array ds)) property = Err (WantsText path)
leaf_from path (Some (object inner)) property = Err (WantsText path)

abbrev pub leaf_of : List ℕ → Data → Result (List MappedColumn) MappingCause
leaf_of path property = leaf_from path (get (codes "type") property) property

abbrev pub is_branch : Data → Bool
is_branch property = is_branch_type (get (codes "type") property)

-- ---- all properties

-- The columns of properties in byte order of their keys, each with the properties in it, or the first fault. A property is an
-- object. A branch gives the columns of its object `properties`, if it has one, with its name and a dot before theirs.
abbrev mutual
  pub columns_of : List ℕ → Members → Result (List MappedColumn) MappingCause
  columns_of prefix no_members = Ok []
  columns_of prefix (member key d ms) = joined (property_columns (prefix ++ key) d) (columns_of prefix ms)

  pub property_columns : List ℕ → Data → Result (List MappedColumn) MappingCause
  property_columns path null = Err (WantsObject path)
  property_columns path (boolean b) = Err (WantsObject path)
  property_columns path (number n) = Err (WantsObject path)
  property_columns path (string s) = Err (WantsObject path)
  property_columns path (array ds) = Err (WantsObject path)
  property_columns path (object ms) = if is_branch (object ms) then branch_columns path ms else leaf_of path (object ms)

  pub branch_columns : List ℕ → Members → Result (List MappedColumn) MappingCause
  branch_columns path no_members = Ok []
  branch_columns path (member key d ms) = if bytes_eq (codes "properties") key then inner_columns path d else branch_columns path ms

  pub inner_columns : List ℕ → Data → Result (List MappedColumn) MappingCause
  inner_columns path null = Err (WantsObject path)
  inner_columns path (boolean b) = Err (WantsObject path)
  inner_columns path (number n) = Err (WantsObject path)
  inner_columns path (string s) = Err (WantsObject path)
  inner_columns path (array ds) = Err (WantsObject path)
  inner_columns path (object ms) = columns_of (path ++ 46 ∷ []) ms

-- ---- the mapping

abbrev pub found_from : Option Members → Result (List MappedColumn) MappingCause
found_from None = Err NoMappings
found_from (Some ms) = columns_of [] ms

abbrev pub found_in : Option Data → Result (List MappedColumn) MappingCause
found_in None = Err NotJson
found_in (Some d) = found_from (properties_of d)

-- the columns that a mapping of these bytes names, or its first fault but for a name that stands twice
abbrev pub found_columns : List ℕ → Result (List MappedColumn) MappingCause
found_columns bytes = found_in (document_of bytes)

-- a column stands before another where its name does, by bytes
abbrev pub name_lt : MappedColumn → MappedColumn → Bool
name_lt left right = is_lt (slice_cmp nat_cmp left.column.name right.column.name)

-- the columns are those that were found, in byte order of their names
pub record AreOrdered (found columns : List MappedColumn) : Type 0 where
  pub same : IsPermutation found columns
  pub order : IsSortedBy name_lt columns

abbrev pub begins_with_name : List ℕ → List MappedColumn → Bool
begins_with_name name [] = false
begins_with_name name (column ∷ columns) = bytes_eq column.column.name name

-- the first name that two columns have, where those of one name stand together
abbrev pub first_twice : List MappedColumn → Option (List ℕ)
first_twice [] = None
first_twice (column ∷ columns) = if begins_with_name column.column.name columns then Some column.column.name else first_twice columns

-- of the columns that were found, two have this name, and no lesser name stands twice
abbrev pub IsTwice : List MappedColumn → MappingCause → Type 0
IsTwice found cause = (columns : List MappedColumn) × (name : List ℕ) × AreOrdered found columns × (first_twice columns ≡ Some name) × (cause ≡ Twice name)

-- the mapping gives these columns: those that it names, in order, no two of one name
abbrev pub IsMapping : List ℕ → List MappedColumn → Type 0
IsMapping bytes columns = (found : List MappedColumn) × (found_columns bytes ≡ Ok found) × AreOrdered found columns × (first_twice columns ≡ None)

-- the mapping has this fault: the first that is found, or, where there is none, the least name that stands twice
abbrev pub IsMappingFault : List ℕ → MappingCause → Type 0
IsMappingFault bytes cause = (found_columns bytes ≡ Err cause) ⊎ ((found : List MappedColumn) × (found_columns bytes ≡ Ok found) × IsTwice found cause)

-- ---- what the code answers

-- P of the cause, if memory was not at fault
abbrev pub IfBad : MappingError → (MappingCause → Type 0) → Type 0
IfBad (Bad cause) P = P cause
IfBad (Memory error) P = ⊤

-- the columns that are meant, or the fault that is meant, or want of memory
abbrev pub Gives : {T : Type 0} → Result (List MappedColumn) MappingCause → Result T MappingError → List MappedColumn → Type 0
Gives meant (Ok done) columns = meant ≡ Ok columns
Gives meant (Err (Bad cause)) columns = meant ≡ Err cause
Gives meant (Err (Memory error)) columns = ⊤
