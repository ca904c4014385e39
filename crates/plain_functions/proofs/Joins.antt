-- Texts that are put one behind another, and pieces that are put into a cell.
use Rattle.std.proofs.Common.{◌≡◌, ℕ, ◌+◌, ◌<◌, List, [], ◌∷◌, ◌++◌, length, take, map, get_or, sym, ap, ◌∙◌, arith, refl, length-append}
use Rattle.std.proofs.lemmas.List.{append_assoc, map_more}
use Rattle.esql_types.specs.declared.value.Value.{Value}
use Rattle.function_rules.specs.Cuts.{IsCut, Lacks}
use Rattle.function_rules.specs.Texts.{joined, split_of}
use Rattle.function_rules.proofs.TextsPieces.{split_cut, split_uncut}
use Rattle.plain_functions.specs.Keywords.{keyword, text_in}

-- one more text at the end
pub joined_more : (delimiter first : List ℕ) (rest : List (List ℕ)) (last : List ℕ) →
    joined delimiter (first ∷ (rest ++ last ∷ [])) ≡ joined delimiter (first ∷ rest) ++ (delimiter ++ last)
joined_more delimiter first [] last = refl
joined_more delimiter first (second ∷ rest) last =
    let tail = joined delimiter (second ∷ rest) in
    ap (λ more. first ++ (delimiter ++ more)) (joined_more delimiter second rest last)
    ∙ ap (λ more. first ++ more) (sym (append_assoc delimiter tail (delimiter ++ last)))
    ∙ sym (append_assoc first (delimiter ++ tail) (delimiter ++ last))

pub text_added : (delimiter first : List ℕ) (rest : List Value) (place : ℕ) (item : Value) (held text : List ℕ) → place < length rest → item ≡ get_or rest place item →
    text ≡ text_in item → held ≡ joined delimiter (first ∷ map text_in (take place rest)) → (held ++ delimiter) ++ text ≡ joined delimiter (first ∷ map text_in (take (place + 1) rest))
text_added delimiter first rest place item held text below is same e =
    let before = map text_in (take place rest) in
    append_assoc held delimiter text
    ∙ ap (λ front. front ++ (delimiter ++ text)) e
    ∙ sym (joined_more delimiter first before text)
    ∙ ap (λ last. joined delimiter (first ∷ (before ++ last ∷ []))) (same ∙ ap text_in is)
    ∙ ap (λ texts. joined delimiter (first ∷ texts)) (sym (map_more text_in rest place item below))

pub grown : (rest delimiter front back : List ℕ) (before after all : List Value) → 0 < length delimiter → IsCut delimiter rest front back →
    all ≡ before ++ map keyword (split_of rest delimiter) → after ≡ before ++ map keyword (front ∷ []) → all ≡ after ++ map keyword (split_of back delimiter)
grown rest delimiter front back before after all some cut held pushed =
    held ∙ ap (λ pieces. before ++ map keyword pieces) (split_cut rest delimiter front back some cut)
    ∙ sym (append_assoc before (map keyword (front ∷ [])) (map keyword (split_of back delimiter)))
    ∙ ap (λ cell. cell ++ map keyword (split_of back delimiter)) (sym pushed)

pub finished : (rest delimiter : List ℕ) (before after all : List Value) → Lacks delimiter rest →
    all ≡ before ++ map keyword (split_of rest delimiter) → after ≡ before ++ map keyword (rest ∷ []) → after ≡ all
finished rest delimiter before after all lacks held pushed =
    pushed ∙ sym (held ∙ ap (λ pieces. before ++ map keyword pieces) (split_uncut rest delimiter lacks))

pub shorter : (delimiter text front back : List ℕ) → 0 < length delimiter → IsCut delimiter text front back → length back < length text
shorter delimiter text front back some cut =
    let whole : length text ≡ length front + (length delimiter + length back) =
    ap length cut.0 ∙ length-append front (delimiter ++ back) ∙ ap (λ n. length front + n) (length-append delimiter back) in
    omega arith
