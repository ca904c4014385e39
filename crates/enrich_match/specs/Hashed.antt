-- What of a value is hashed.
use Rattle.std.specs.Hash as fed
use Rattle.std.specs.Hash.{HashWrites}
use Rattle.esql_types.specs.declared.value.Value.{Value}
use Rattle.esql_types.specs.declared.value.Value.TheVariants.{Int, Long, Bool as Boolean, Text as Keyword}

abbrev pub value_hashed : Value → HashWrites
value_hashed (Int number) = fed.i32 number
value_hashed (Long number) = fed.i64 number
value_hashed (Boolean truth) = fed.bool truth
value_hashed (Keyword text) = fed.str text
