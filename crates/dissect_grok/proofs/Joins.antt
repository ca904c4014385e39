-- Texts that are joined one after another.
use Rattle.std.proofs.Common.{◌≡◌, ℕ, ◌+◌, ◌<◌, List, [], ◌∷◌, ◌++◌, length, take, map, get_or, sym, ap, ◌∙◌, refl, append_assoc}
use Rattle.std.proofs.lemmas.List.{map_more}
use Rattle.dissect_grok.specs.Joined.{joined}
use Rattle.dissect_grok.specs.declared.turns.Turn.{Turn}

-- one more text at the end
joined_more : (separator first : List ℕ) (rest : List (List ℕ)) (last : List ℕ) →
    joined separator (first ∷ (rest ++ last ∷ [])) ≡ joined separator (first ∷ rest) ++ (separator ++ last)
joined_more separator first [] last = refl
joined_more separator first (second ∷ rest) last =
    let tail = joined separator (second ∷ rest) in
    ap (λ more. first ++ (separator ++ more)) (joined_more separator second rest last)
    ∙ ap (λ more. first ++ more) (sym (append_assoc separator tail (separator ++ last)))
    ∙ sym (append_assoc first (separator ++ tail) (separator ++ last))

pub turn_added : (separator first : List ℕ) (text_of : Turn → List ℕ) (rest : List Turn) (place : ℕ) (fallback : Turn) (held text : List ℕ) → place < length rest →
    text ≡ text_of (get_or rest place fallback) → held ≡ joined separator (first ∷ map text_of (take place rest)) →
    (held ++ separator) ++ text ≡ joined separator (first ∷ map text_of (take (place + 1) rest))
turn_added separator first text_of rest place fallback held text below same e =
    let before = map text_of (take place rest) in
    append_assoc held separator text
    ∙ ap (λ front. front ++ (separator ++ text)) e
    ∙ sym (joined_more separator first before text)
    ∙ ap (λ last. joined separator (first ∷ (before ++ last ∷ []))) same
    ∙ ap (λ texts. joined separator (first ∷ texts)) (sym (map_more text_of rest place fallback below))
