-- A run between two patterns.
use Rattle.std.proofs.Common.{◌≡◌, ℕ, ◌==◌, ◌&&◌, Bool, true, false, List, [], ◌∷◌, ◌++◌, length, take, drop, if◌then◌else◌, refl, sym, ap, ◌∙◌, codes}
use Rattle.std.proofs.lemmas.Bool.{and_parts, and_from}
use Rattle.std.proofs.lemmas.List.{take-append-drop, append_assoc, drop_at, drop-append-le}
use Rattle.std.proofs.lemmas.Str.{chars-append}
use Rattle.std.specs.Prelude.{◌↔◌}
use Rattle.std.specs.Str.{chars, IsUtf8}
use Rattle.function_rules.specs.Wildcards.{Wildcard, any_run, any_one, itself, wildcard_of, wildcards, wildcards_behind, stands_for, is_like}
use Rattle.function_rules.specs.Laws.{end_open, IsCut}
use Rattle.function_rules.proofs.Tails.{some_tail, tail_that}

one_more : (before rest behind : List Wildcard) (character : ℕ) (characters : List ℕ) →
    ((first : List ℕ) → stands_for rest first ≡ true → stands_for before (character ∷ first) ≡ true) →
    IsCut rest behind characters → IsCut before behind (character ∷ characters)
one_more before rest behind character characters step cut = record {
  first = character ∷ cut.first;
  run = cut.run;
  last = cut.last;
  characters_are = ap (λ others. character ∷ others) cut.characters_are;
  first_stands = step cut.first cut.first_stands;
  last_stands = cut.last_stands;
}

cut_of : (before behind : List Wildcard) (characters : List ℕ) → stands_for (before ++ any_run ∷ behind) characters ≡ true →
    IsCut before behind characters
cut_of [] behind characters stands =
    let found = tail_that (stands_for behind) characters stands in
    record {
      first = [];
      run = take found.0 characters;
      last = drop found.0 characters;
      characters_are = sym (take-append-drop found.0 characters);
      first_stands = refl;
      last_stands = found.2;
    }
cut_of (any_run ∷ before) behind characters stands =
    let found = tail_that (stands_for (before ++ any_run ∷ behind)) characters stands in
    let front = take found.0 characters in
    let cut = cut_of before behind (drop found.0 characters) found.2 in
    record {
      first = front ++ cut.first;
      run = cut.run;
      last = cut.last;
      characters_are = sym (take-append-drop found.0 characters) ∙ ap (λ rest. front ++ rest) cut.characters_are
          ∙ sym (append_assoc front cut.first (cut.run ++ cut.last));
      first_stands = some_tail (stands_for before) (length front) (front ++ cut.first)
          (ap (stands_for before) (drop_at front cut.first (length front) refl) ∙ cut.first_stands);
      last_stands = cut.last_stands;
    }
cut_of (any_one ∷ before) behind [] stands = absurd cc
cut_of (any_one ∷ before) behind (character ∷ characters) stands =
    one_more (any_one ∷ before) before behind character characters (λ first h. h) (cut_of before behind characters stands)
cut_of (itself own ∷ before) behind [] stands = absurd cc
cut_of (itself own ∷ before) behind (character ∷ characters) stands =
    let both = and_parts (own == character) (stands_for (before ++ any_run ∷ behind) characters) stands in
    one_more (itself own ∷ before) before behind character characters
    (λ first h. and_from (own == character) (stands_for before first) both.0 h) (cut_of before behind characters both.1)

of_cut : (before behind : List Wildcard) (first run last : List ℕ) → stands_for before first ≡ true → stands_for behind last ≡ true →
    stands_for (before ++ any_run ∷ behind) (first ++ (run ++ last)) ≡ true
of_cut [] behind [] run last stands later =
    some_tail (stands_for behind) (length run) (run ++ last) (ap (stands_for behind) (drop_at run last (length run) refl) ∙ later)
of_cut [] behind (character ∷ first) run last stands later = absurd cc
of_cut (any_run ∷ before) behind first run last stands later =
    let found = tail_that (stands_for before) first stands in
    some_tail (stands_for (before ++ any_run ∷ behind)) found.0 (first ++ (run ++ last))
    (ap (stands_for (before ++ any_run ∷ behind)) (drop-append-le found.0 first (run ++ last) found.1)
    ∙ of_cut before behind (drop found.0 first) run last found.2 later)
of_cut (any_one ∷ before) behind [] run last stands later = absurd cc
of_cut (any_one ∷ before) behind (character ∷ first) run last stands later = of_cut before behind first run last stands later
of_cut (itself own ∷ before) behind [] run last stands later = absurd cc
of_cut (itself own ∷ before) behind (character ∷ first) run last stands later =
    let both = and_parts (own == character) (stands_for before first) stands in
    and_from (own == character) (stands_for (before ++ any_run ∷ behind) (first ++ (run ++ last))) both.0 (of_cut before behind first run last both.1 later)

between : (waits : Bool) (front back : List ℕ) → end_open waits front ≡ false →
    wildcards_behind waits (front ++ 42 ∷ back) ≡ wildcards_behind waits front ++ any_run ∷ wildcards_behind false back
between true [] back closed = absurd cc
between false [] back closed = refl
between true (character ∷ front) back closed = ap (λ parts. itself character ∷ parts) (between false front back closed)
between false (character ∷ front) back closed =
    elim (character == 92) as (λ waits. end_open waits front ≡ false →
    (if waits then wildcards_behind true (front ++ 42 ∷ back) else wildcard_of character ∷ wildcards_behind false (front ++ 42 ∷ back))
    ≡ (if waits then wildcards_behind true front else wildcard_of character ∷ wildcards_behind false front) ++ any_run ∷ wildcards_behind false back)
    [ true ↦ λ h. between true front back h | false ↦ λ h. ap (λ parts. wildcard_of character ∷ parts) (between false front back h) ] closed

star_then : (back : List ℕ) → chars (codes "*" ++ back) ≡ 42 ∷ chars back
unfolding chars
star_then [] = refl
star_then (byte ∷ back) = refl

parts_between : (front back : List ℕ) → IsUtf8 front → end_open false (chars front) ≡ false →
    wildcards (front ++ (codes "*" ++ back)) ≡ wildcards front ++ any_run ∷ wildcards back
parts_between front back utf8 closed =
    ap (wildcards_behind false) (chars-append front (codes "*" ++ back) utf8 ∙ ap (λ rest. chars front ++ rest) (star_then back))
    ∙ between false (chars front) (chars back) closed

pub run_between : (front back text : List ℕ) → IsUtf8 front → end_open false (chars front) ≡ false →
    (is_like (front ++ (codes "*" ++ back)) text ≡ true) ↔ IsCut (wildcards front) (wildcards back) (chars text)
run_between front back text utf8 closed =
    let parts = parts_between front back utf8 closed in (
      λ like. cut_of (wildcards front) (wildcards back) (chars text) (ap (λ all. stands_for all (chars text)) (sym parts) ∙ like),
      λ cut.
          ap (λ all. stands_for all (chars text)) parts
          ∙ ap (stands_for (wildcards front ++ any_run ∷ wildcards back)) cut.characters_are
          ∙ of_cut (wildcards front) (wildcards back) cut.first cut.run cut.last cut.first_stands cut.last_stands,
    )
