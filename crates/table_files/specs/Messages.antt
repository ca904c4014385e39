-- What is said of a file that is bad.
use Rattle.std.specs.Prelude.{ℕ, List, [], ◌++◌, codes, decimal}
use Rattle.ndjson_load.specs.declared.cause.MappingCause.{MappingCause}
use Rattle.ndjson_load.specs.declared.cause.MappingCause.TheVariants as mapping
use Rattle.ndjson_load.specs.declared.cause.RowCause.{RowCause}
use Rattle.ndjson_load.specs.declared.cause.RowCause.TheVariants as row
use Rattle.ndjson_load.specs.Rows.{RowFault}

abbrev pub of_file : List ℕ → List ℕ → List ℕ
of_file file text = file ++ codes ": " ++ text

abbrev pub of_path : List ℕ → List ℕ → List ℕ
of_path path text = codes "[" ++ path ++ codes "]" ++ text

abbrev pub too_large : List ℕ → List ℕ
too_large file = of_file file (codes "larger than 268435456 bytes")

abbrev pub too_many : List ℕ → List ℕ
too_many file = of_file file (codes "more than 100000 tables, columns and fields")

abbrev pub mapping_text : MappingCause → List ℕ
mapping_text mapping.NotJson = codes "not readable JSON"
mapping_text mapping.NoMappings = codes "no mappings.properties"
mapping_text (mapping.WantsObject path) = of_path path (codes " is not an object")
mapping_text (mapping.WantsText path) = codes "type of " ++ of_path path (codes " is not a text")
mapping_text (mapping.BadParameter path) = codes "bad parameter of " ++ of_path path []
mapping_text (mapping.Twice path) = of_path path (codes " is mapped twice")
mapping_text mapping.NotMatchPolicy = codes "not a match policy"
mapping_text (mapping.NoField path) = codes "no field " ++ of_path path []
mapping_text (mapping.KindConflict path) = of_path path (codes " has two kinds")

abbrev pub mapping_message : List ℕ → MappingCause → List ℕ
mapping_message file cause = of_file file (mapping_text cause)

abbrev pub of_field : List ℕ → List ℕ → List ℕ
of_field field text = codes "field " ++ of_path field (codes ": " ++ text)

-- a line that is no object is named without a field
abbrev pub row_text : List ℕ → RowCause → List ℕ
row_text field row.NotJson = codes "not readable JSON"
row_text field row.NotObject = codes "not an object"
row_text field row.WantsObject = of_field field (codes "object expected")
row_text field row.WantsValue = of_field field (codes "value expected")
row_text field row.BadNumber = of_field field (codes "not a whole number in range")
row_text field row.BadBoolean = of_field field (codes "not a boolean")
row_text field row.BadText = of_field field (codes "not a text")

abbrev pub row_message : List ℕ → RowFault → List ℕ
row_message file bad = file ++ codes ":" ++ decimal bad.line ++ codes ": " ++ row_text bad.field bad.cause
