-- What a kind accepts of JSON.
use Rattle.std.specs.Prelude.{ℕ, ℤ, Bool, true, false, List, codes, Option, Some, None, option_map, option_and_then, if◌then◌else◌}
use Rattle.std.specs.Str.{bytes_eq}
use Rattle.std.specs.Fmt.{signed_decimal}
use Rattle.serde_json.specs.Data.{Data, null, boolean, number, string, array, object}
use Rattle.serde_json.specs.Find.{as_i64}
use Rattle.esql_types.specs.declared.value.Kind.{Kind}
use Rattle.esql_types.specs.declared.value.Kind.TheVariants.{Integer, Long as LongKind, Boolean, Keyword, Null}
use Rattle.esql_types.specs.declared.value.Value.{Value}
use Rattle.esql_types.specs.declared.value.Value.TheVariants.{Int, Long, Bool as Truth, Text as Word}
use Rattle.number_rules.specs.Ranges.{fits_integer}
use Rattle.number_rules.specs.Spelled.{spelled_long}

-- a long: a number that `as_i64` gives, or a text that spells one
abbrev pub long_of : Data → Option ℤ
long_of null = None
long_of (boolean b) = None
long_of (number n) = as_i64 n
long_of (string s) = spelled_long s
long_of (array ds) = None
long_of (object ms) = None

abbrev pub integer_from : ℤ → Option ℤ
integer_from z = if fits_integer z then Some z else None

-- an integer: a long in its range
abbrev pub integer_of : Data → Option ℤ
integer_of d = option_and_then integer_from (long_of d)

-- the texts `true` and `false`
abbrev pub spelled_truth : List ℕ → Option Bool
spelled_truth text = if bytes_eq text (codes "true") then Some true else (if bytes_eq text (codes "false") then Some false else None)

-- a boolean: true, false, or a text of these names
abbrev pub boolean_of : Data → Option Bool
boolean_of null = None
boolean_of (boolean b) = Some b
boolean_of (number n) = None
boolean_of (string s) = spelled_truth s
boolean_of (array ds) = None
boolean_of (object ms) = None

abbrev pub truth_text : Bool → List ℕ
truth_text true = codes "true"
truth_text false = codes "false"

-- a keyword: a text, a number that `as_i64` gives, in decimal, or a boolean, by its name
abbrev pub keyword_of : Data → Option (List ℕ)
keyword_of null = None
keyword_of (boolean b) = Some (truth_text b)
keyword_of (number n) = option_map signed_decimal (as_i64 n)
keyword_of (string s) = Some s
keyword_of (array ds) = None
keyword_of (object ms) = None

-- the value of a kind that JSON is accepted as
abbrev pub accepted : Kind → Data → Option Value
accepted Integer d = option_map Int (integer_of d)
accepted LongKind d = option_map Long (long_of d)
accepted Boolean d = option_map Truth (boolean_of d)
accepted Keyword d = option_map Word (keyword_of d)
accepted Null d = None
