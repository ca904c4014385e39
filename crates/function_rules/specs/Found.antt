-- RLIKE and REPLACE: what a regular expression finds in a text, as `regex` reads the pattern.
use Rattle.std.specs.Prelude.{ℕ, Bool, List, [], ◌∷◌, ◌++◌, map, length, Option, Some, None, is_some, option_map, option_and_then, slice_range, codes}
use Rattle.std.specs.Str.{chars}
use Rattle.regex_syntax.specs.Grammar.{read}
use Rattle.regex_syntax.specs.Verdict.{default_config}
use Rattle.regex.specs.Patterns.{Re, Match, find_str, find_all_str}
use Rattle.regex.specs.Search.{gaps}
use Rattle.function_rules.specs.Texts.{joined}

-- the expression that the grammar of `regex` reads in the pattern, with its default options
abbrev pub tree_of : List ℕ → Option Re
tree_of pattern = option_map (λ (found, _). found.value) (read default_config (chars pattern))

-- the leftmost match
abbrev pub leftmost : List ℕ → List ℕ → Option Match
leftmost pattern text = option_and_then (λ re. find_str re text 0) (tree_of pattern)

abbrev pub is_found : List ℕ → List ℕ → Bool
is_found pattern text = is_some (leftmost pattern text)

-- the pattern between the start and the end of a text
abbrev pub wrapped : List ℕ → List ℕ
wrapped pattern = codes "\\A(?:" ++ (pattern ++ codes ")\\z")

-- RLIKE: the pattern matches the whole text
abbrev pub matches_whole : List ℕ → List ℕ → Bool
matches_whole pattern text = is_found (wrapped pattern) text

-- the matches from the left, none for a text that is no pattern
abbrev pub all_found : Option Re → List ℕ → List Match
all_found None text = []
all_found (Some re) text = find_all_str re text

-- what stands before, between and behind the matches
abbrev pub unmatched : List ℕ → List ℕ → List (List ℕ)
unmatched pattern text = map (λ p. slice_range text p.0 p.1) (gaps (length text) 0 (all_found (tree_of pattern) text))

-- REPLACE: the text with another in the place of each match, taken as it is
abbrev pub replaced : List ℕ → List ℕ → List ℕ → List ℕ
replaced pattern text with = joined with (unmatched pattern text)
