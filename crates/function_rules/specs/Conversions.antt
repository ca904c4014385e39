-- Conversions of one value to another kind.
use Rattle.std.specs.Prelude.{ℕ, ℤ, pos, Bool, true, false, not, map, List, codes, if◌then◌else◌}
use Rattle.std.specs.Ordering.{int_eq}
use Rattle.std.specs.Char.{to_ascii_lowercase}
use Rattle.std.specs.Str.{bytes_eq}

-- a boolean as a number
abbrev pub number_of_truth : Bool → ℤ
number_of_truth true = pos 1
number_of_truth false = pos 0

-- a number as a boolean: any but 0
abbrev pub truth_of_number : ℤ → Bool
truth_of_number number = not (int_eq number (pos 0))

-- a text as a boolean: `true`, in any ASCII case
abbrev pub truth_of_text : List ℕ → Bool
truth_of_text text = bytes_eq (map to_ascii_lowercase text) (codes "true")

-- a boolean as a text
abbrev pub text_of_truth : Bool → List ℕ
text_of_truth true = codes "true"
text_of_truth false = codes "false"
