-- From what a `Regex` finds to what its text is read as.
use Rattle.std.proofs.Common.{◌≡◌, ℕ, ◌-◌, ◌<◌, ◌≤◌, true, List, [], ◌∷◌, ◌++◌, map, length, drop, get_or, Option, None, Some, IsSomeAnd, is_some, option_map, refl, sym, ap, ◌∙◌, arith, slice_range}
use Rattle.std.specs.Prelude.{option_and_then}
use Rattle.std.specs.Str.{chars}
use Rattle.std.proofs.lemmas.List.{take_all, length-drop, append_assoc}
use Rattle.regex_syntax.specs.Grammar.{Names, group_count, read}
use Rattle.regex_syntax.specs.Brackets.{Nested}
use Rattle.regex_syntax.specs.Verdict.{default_config}
use Rattle.regex.specs.Patterns.{Re, Match, SameCaptures, Reads, find_str, find_all_str}
use Rattle.regex.specs.Search.{gaps}
use Rattle.regex.specs.Replace.{replaced_by}
use Rattle.regex.specs.Strings.{regex_pattern, regex_source, regex_config, IsReadFromSource}
use Rattle.regex.specs.declared.string.regex.Regex.{Regex}
use Rattle.regex.proofs.ForCallers.{is_match_alike, gaps_alike}
use Rattle.function_rules.specs.Found.{tree_of, is_found, all_found, unmatched}
use Rattle.function_rules.specs.Texts.{joined}

read_as : (found : Option (Nested Re × Names)) (limit : ℕ) (re : Re) (names : Names) →
    IsSomeAnd found (λ (tree, own). (tree.depth ≤ limit) × SameCaptures re tree.value × (names ≡ own) × (group_count re ≤ length names)) →
    (tree : Re) × (option_map (λ (tree, _). tree.value) found ≡ Some tree) × SameCaptures re tree
read_as None limit re names reads = absurd reads
read_as (Some found) limit re names reads = (found.0.value, refl, reads.1)

module _ (regex : Regex) (options : regex_config regex ≡ default_config) (meant : IsReadFromSource regex) where
  read_back : (tree : Re) × (tree_of (regex_source regex) ≡ Some tree) × SameCaptures (regex_pattern regex) tree
  unfolding Reads
  read_back = read_as (read default_config (chars (regex_source regex))) _ _ _ (rw options at meant)

  module _ (text : List ℕ) (bytes : (place : ℕ) → get_or text place 0 < 256) where
    pub found_by : is_some (find_str (regex_pattern regex) text 0) ≡ is_found (regex_source regex) text
    found_by =
        is_match_alike read_back.2 text bytes true 0
        ∙ ap (λ tree. is_some (option_and_then (λ re. find_str re text 0) tree)) (sym read_back.1)

    pub unmatched_by : map (λ p. slice_range text p.0 p.1) (gaps (length text) 0 (find_all_str (regex_pattern regex) text))
        ≡ unmatched (regex_source regex) text
    unmatched_by =
        ap (map (λ p. slice_range text p.0 p.1)) (gaps_alike read_back.2 text bytes true None)
        ∙ ap (λ tree. map (λ p. slice_range text p.0 p.1) (gaps (length text) 0 (all_found tree text))) (sym read_back.1)

abbrev cuts : List ℕ → ℕ → List Match → List (List ℕ)
cuts text from matches = map (λ p. slice_range text p.0 p.1) (gaps (length text) from matches)

then_joined : (with first text : List ℕ) (from : ℕ) (matches : List Match) →
    joined with (first ∷ cuts text from matches) ≡ first ++ (with ++ joined with (cuts text from matches))
then_joined with first text from [] = refl
then_joined with first text from (match ∷ matches) = refl

to_end : (text : List ℕ) (from : ℕ) → drop from text ≡ slice_range text from (length text)
to_end text from = sym (take_all (length text - from) (drop from text) (rw (length-drop from text) (omega arith)))

pub joined_by : (with text : List ℕ) (from : ℕ) (matches : List Match) → replaced_by (λ _. with) text from matches ≡ joined with (cuts text from matches)
unfolding replaced_by
joined_by with text from [] = to_end text from
joined_by with text from (match ∷ matches) =
    ap (λ rest. (slice_range text from match.start ++ with) ++ rest) (joined_by with text match.trace.end matches)
    ∙ append_assoc (slice_range text from match.start) with _
    ∙ sym (then_joined with (slice_range text from match.start) text match.trace.end matches)
