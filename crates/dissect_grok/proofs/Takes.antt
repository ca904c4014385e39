-- From what a built regular expression finds to what the text of its pattern is read as.
use Rattle.std.proofs.Common.{◌≡◌, ℕ, zero, suc, ◌<◌, ◌≤◌, ◌==◌, ◌*◌, ◌+◌, true, false, List, [], ◌∷◌, map, length, get_or, Option, None, Some, IsSomeAnd, option_map, refl, sym, ap, ap₂, ◌∙◌, arith, ne_eqb, slice_range, if◌then◌else◌}
use Rattle.std.specs.Prelude.{option_and_then, unwrap_or}
use Rattle.std.specs.List.{cons_option, filter_map}
use Rattle.std.specs.Str.{chars}
use Rattle.std.proofs.lemmas.Bool.{cond-false}
use Rattle.std.proofs.lemmas.Option.{same_Some}
use Rattle.regex_syntax.specs.Grammar.{Names, group_count, read}
use Rattle.regex_syntax.specs.Brackets.{Nested}
use Rattle.regex_syntax.specs.Verdict.{default_config}
use Rattle.regex.specs.Patterns.{Re, Match, Reads, SameCaptures, span, find_str}
use Rattle.regex.specs.Names.{span_at}
use Rattle.regex.specs.Search.{group_span}
use Rattle.regex.specs.Writes.{group_of, both}
use Rattle.regex.specs.Strings.{regex_pattern, regex_source, regex_names, captures_span, captures_haystack, IsCapturesOf}
use Rattle.regex.specs.declared.string.regex.Regex.{Regex}
use Rattle.regex.specs.declared.string.captures.Captures.{Captures}
use Rattle.regex.proofs.ForCallers.{found_alike, is_match_alike, span_alike}
use Rattle.esql_types.specs.Patterns.{IsReading}
use Rattle.esql_types.specs.declared.names.Column.{Column}
use Rattle.function_rules.specs.Found.{leftmost, tree_of}
use Rattle.dissect_grok.specs.declared.place.Place.{Place}
use Rattle.dissect_grok.specs.GrokParts.{group_text, groups_in}
use Rattle.dissect_grok.specs.Groks.{GrokRead, column_texts, columns_of, grok_takes, group_name, numbers_of, place_text}
use Rattle.dissect_grok.specs.Groups.{index_of, names_in, span_in}

read_as : (o : Option (Nested Re × Names)) (n : ℕ) (re : Re) (names : Names) →
    IsSomeAnd o (λ (tree, found). (tree.depth ≤ n) × SameCaptures re tree.value × (names ≡ found) × (group_count re ≤ length names)) →
    (tree : Re) × (option_map (λ (found, _). found.value) o ≡ Some tree) × SameCaptures re tree
    × (unwrap_or (option_map (λ (_, found). found) o) [] ≡ names)
read_as None n re names h = absurd h
read_as (Some x) n re names h = (x.0.value, refl, h.1, sym h.2)

read_back : (r : Regex) → IsReading (regex_source r) r →
    (tree : Re) × (tree_of (regex_source r) ≡ Some tree) × SameCaptures (regex_pattern r) tree
    × (names_in (regex_source r) ≡ regex_names r)
unfolding Reads
read_back r is = read_as (read default_config (chars (regex_source r))) _ _ _ (rw is.options at is.meant)

spans_of : (c : Captures) (hay : List ℕ) (m : Match) → IsCapturesOf hay m c → (k : ℕ) → captures_span c k ≡ span_in m k
unfolding group_span
spans_of c hay m is zero = ap Some is.1.whole_is
spans_of c hay m is (suc k) = is.2 (suc k) (omega arith) ∙ sym (cond-false _ (Some (span m)) (group_of m (suc k)) (ne_eqb (suc k) 0 (omega arith)))

same_at : (f g : ℕ → Option (ℕ × ℕ)) → ((k : ℕ) → f k ≡ g k) → (o : Option ℕ) → span_at f o ≡ span_at g o
same_at f g h None = refl
same_at f g h (Some k) = h k

none_found : (o p : Option (ℕ × ℕ)) (found : Option Match) → option_map span found ≡ None → found ≡ None
none_found o p None e = refl
none_found o p (Some m) e = absurd (cc)

filtered : {X Y : Type 0} (f : Y → Option (List ℕ)) (g : X → Y) (h : X → Option (List ℕ)) → ((x : X) → f (g x) ≡ h x) → (items : List X) → filter_map f (map g items) ≡ filter_map h items
filtered f g h same [] = refl
filtered f g h same (item ∷ items) = ap₂ (λ (o : Option (List ℕ)) (rest : List (List ℕ)). cons_option o rest) (same item) (filtered f g h same items)

mapped : {X Y Z : Type 0} (f : Y → Z) (g : X → Y) (h : X → Z) → ((x : X) → f (g x) ≡ h x) → (items : List X) → map f (map g items) ≡ map h items
mapped f g h same [] = refl
mapped {X} {Y} {Z} f g h same (item ∷ items) = ap₂ (λ (z : Z) (rest : List Z). z ∷ rest) (same item) (mapped f g h same items)

module _ (r : Regex) (is : IsReading (regex_source r) r) (hay : List ℕ) (bytes : (k : ℕ) → get_or hay k 0 < 256) where
  pub none_taken : (places : List Place) → find_str (regex_pattern r) hay 0 ≡ None → None ≡ grok_takes (record { expansion = regex_source r; places = places }) hay
  none_taken places none =
      let back = read_back r is in
      let far : option_map span (find_str back.0 hay 0) ≡ None = sym (span_alike back.2 hay bytes true 0) ∙ ap (option_map span) none in
      let found : leftmost (regex_source r) hay ≡ None = ap (option_and_then (λ re. find_str re hay 0)) back.1 ∙ none_found None None _ far in
      let read : GrokRead = record { expansion = regex_source r; places = places } in
      sym (ap (option_map (λ (m : Match). map (column_texts read hay m) (columns_of places))) found)

  some_by : (m : Match) → find_str (regex_pattern r) hay 0 ≡ Some m →
      (n : Match) × (leftmost (regex_source r) hay ≡ Some n) × ((k : ℕ) → span_in n k ≡ span_in m k)
  some_by m e =
      let back = read_back r is in
      let n = found_alike back.2 hay bytes true 0 m e in
      let spans : span n.0 ≡ span m =
      same_Some _ _ (ap (option_map span) (sym n.1) ∙ sym (span_alike back.2 hay bytes true 0) ∙ ap (option_map span) e) in (
        n.0,
        ap (option_and_then (λ re. find_str re hay 0)) back.1 ∙ n.1,
        λ k. ap₂ (λ s (f : ℕ → Option ℕ). if k == 0 then Some s else both (f (2 * k)) (f (2 * k + 1))) spans n.2,
      )

  pub some_taken : (places : List Place) (columns : List Column) (groups : List (List (Option ℕ))) (lists : List (List (List ℕ))) (c : Captures) →
      ((m : Match) × (find_str (regex_pattern r) hay 0 ≡ Some m) × IsCapturesOf hay m c) →
      columns ≡ columns_of places → groups ≡ map (λ (column : Column). groups_in (regex_names r) places column.name) columns →
      lists ≡ map (filter_map (group_text (captures_haystack c) (captures_span c))) groups →
      Some lists ≡ grok_takes (record { expansion = regex_source r; places = places }) hay
  some_taken places columns groups lists c found columns_are groups_are lists_are =
      let same = some_by found.0 found.1 in
      let read : GrokRead = record { expansion = regex_source r; places = places } in
      let text_by : Option ℕ → Option (List ℕ) = group_text (captures_haystack c) (captures_span c) in
      let one : (number : ℕ) → text_by (index_of (group_name number) (regex_names r)) ≡ place_text (regex_source r) hay same.0 number =
      λ number.
      ap₂ (λ (h : List ℕ) (o : Option (ℕ × ℕ)). option_map (λ (at : ℕ × ℕ). slice_range h at.0 at.1) o) found.2.0
      (same_at (captures_span c) (span_in same.0) (λ k. spans_of c hay found.0 found.2 k ∙ sym (same.2 k)) (index_of (group_name number) (regex_names r))
      ∙ ap (λ (names : List (Option (List ℕ))). span_at (span_in same.0) (index_of (group_name number) names)) (sym (read_back r is).3)) in
      let each : (column : Column) → filter_map text_by (groups_in (regex_names r) places column.name) ≡ column_texts read hay same.0 column =
      λ column. filtered text_by (λ number. index_of (group_name number) (regex_names r)) (place_text (regex_source r) hay same.0) one (numbers_of places column.name) in
      ap Some (lists_are ∙ ap (map (filter_map text_by)) groups_are
      ∙ mapped (filter_map text_by) (λ (column : Column). groups_in (regex_names r) places column.name) (column_texts read hay same.0) each columns
      ∙ ap (map (column_texts read hay same.0)) columns_are)
      ∙ sym (ap (option_map (λ (m : Match). map (column_texts read hay m) (columns_of places))) same.1)
