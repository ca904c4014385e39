-- Patterns of characters that stand for themselves.
use Rattle.std.proofs.Common.{◌≡◌, ℕ, ◌==◌, ◌&&◌, Bool, true, false, List, [], ◌∷◌, map, refl, sym, ap, ap₂, ◌∙◌, codes}
use Rattle.std.proofs.lemmas.Bool.{and_parts, and_from, not-true, eqb-true, eq-eqb}
use Rattle.std.proofs.lemmas.Str.{encodes-chars}
use Rattle.std.specs.List.{list_all}
use Rattle.std.specs.Prelude.{◌↔◌}
use Rattle.std.specs.Str.{chars, encode_utf8_all, IsUtf8}
use Rattle.function_rules.specs.Wildcards.{Wildcard, any_run, itself, wildcards, wildcards_behind, stands_for, is_like}
use Rattle.function_rules.specs.Laws.{is_plain}
use Rattle.function_rules.proofs.Tails.{nothing_left}

plain_step : (character : ℕ) (rest : List ℕ) → is_plain character ≡ true →
    wildcards_behind false (character ∷ rest) ≡ itself character ∷ wildcards_behind false rest
plain_step character rest plain =
    let first = and_parts _ _ plain in
    let second = and_parts _ _ first.1 in
    rw (not-true (character == 92) second.1, not-true (character == 42) first.0, not-true (character == 63) second.0)

plain_parts : (characters : List ℕ) → list_all is_plain characters ≡ true → wildcards_behind false characters ≡ map itself characters
plain_parts [] plain = refl
plain_parts (character ∷ characters) plain =
    let both = and_parts (is_plain character) (list_all is_plain characters) plain in
    plain_step character characters both.0 ∙ ap (λ parts. itself character ∷ parts) (plain_parts characters both.1)

spelled : (own characters : List ℕ) → stands_for (map itself own) characters ≡ true → characters ≡ own
spelled [] [] stands = refl
spelled [] (character ∷ characters) stands = absurd cc
spelled (character ∷ own) [] stands = absurd cc
spelled (first ∷ own) (character ∷ characters) stands =
    let both = and_parts (first == character) (stands_for (map itself own) characters) stands in
    ap₂ (λ head tail. head ∷ tail) (sym (eqb-true _ _ both.0)) (spelled own characters both.1)

spells_itself : (own : List ℕ) → stands_for (map itself own) own ≡ true
spells_itself [] = refl
spells_itself (character ∷ own) = and_from (character == character) _ (eq-eqb character character refl) (spells_itself own)

pub plain_is_itself : (pattern text : List ℕ) → IsUtf8 pattern → IsUtf8 text → list_all is_plain (chars pattern) ≡ true →
    (is_like pattern text ≡ true) ↔ (text ≡ pattern)
plain_is_itself pattern text own_utf8 utf8 plain =
    let parts = plain_parts (chars pattern) plain in (
      λ like.
          let same = spelled (chars pattern) (chars text) (ap (λ all. stands_for all (chars text)) (sym parts) ∙ like) in
          sym (encodes-chars text utf8) ∙ ap encode_utf8_all same ∙ encodes-chars pattern own_utf8,
      λ same.
          ap₂ (λ all characters. stands_for all characters) parts (ap chars same) ∙ spells_itself (chars pattern),
    )

star_alone : chars (codes "*") ≡ 42 ∷ []
unfolding chars
star_alone = refl

pub run_is_any : (text : List ℕ) → is_like (codes "*") text ≡ true
run_is_any text = ap (λ characters. stands_for (wildcards_behind false characters) (chars text)) star_alone ∙ nothing_left (chars text)
