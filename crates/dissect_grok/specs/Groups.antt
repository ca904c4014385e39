-- The groups of a regular expression by their names, and what they span in a match.
use Rattle.std.specs.Prelude.{ℕ, ◌==◌, Bool, false, List, [], Option, Some, None, option_map, unwrap_or, if◌then◌else◌}
use Rattle.std.specs.List.{position}
use Rattle.std.specs.Str.{bytes_eq, chars}
use Rattle.regex.specs.Patterns.{Match, span}
use Rattle.regex.specs.Writes.{group_of}
use Rattle.regex_syntax.specs.Grammar.{read}
use Rattle.regex_syntax.specs.Verdict.{default_config}

-- the names of the groups that a pattern is read with, from group 0 on
abbrev pub names_in : List ℕ → List (Option (List ℕ))
names_in pattern = unwrap_or (option_map (λ (_, names). names) (read default_config (chars pattern))) []

-- the group has a name, and it is this one
abbrev pub has_name : List ℕ → Option (List ℕ) → Bool
has_name name None = false
has_name name (Some other) = bytes_eq name other

-- the number of the first group that has a name
abbrev pub index_of : List ℕ → List (Option (List ℕ)) → Option ℕ
index_of name names = position (has_name name) names

-- what a group spans in a match; group 0 is the match
abbrev pub span_in : Match → ℕ → Option (ℕ × ℕ)
span_in found number = if number == 0 then Some (span found) else group_of found number
