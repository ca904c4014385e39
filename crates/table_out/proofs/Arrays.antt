-- The text of an array one item after another.
use Rattle.std.proofs.Common.{◌≡◌, ℕ, ◌-◌, ◌≤◌, cond, List, [], ◌∷◌, ◌++◌, length, map, take, drop, get_or, codes, is_ok, OnOk, Result, Ok, Err, true, refl, sym, ap, ap₂, ◌∙◌, arith, append_assoc}
use Rattle.std.proofs.lemmas.List.{take_all}
use Rattle.std.specs.List.{flat_map}
use Rattle.serde_json.specs.Data.{Data, array}
use Rattle.serde_json.specs.View.{items_of}
use Rattle.serde_json.specs.Written.{compact_text, items_text}

items_later : {X : Type 0} (tree : X → Data) (rest : List X)
    → items_text true (items_of (map tree rest)) ≡ flat_map (λ item. 44 ∷ compact_text (tree item)) rest ++ 93 ∷ []
items_later tree [] = refl
items_later tree (item ∷ rest) =
    ap (λ text. 44 ∷ (compact_text (tree item) ++ text)) (items_later tree rest)
    ∙ sym (append_assoc (44 ∷ compact_text (tree item)) (flat_map (λ item. 44 ∷ compact_text (tree item)) rest) (93 ∷ []))

-- the first item, and each later one behind a comma
array_text : {X : Type 0} (tree : X → Data) (first : X) (rest : List X)
    → compact_text (array (items_of (map tree (first ∷ rest)))) ≡ 91 ∷ (compact_text (tree first) ++ (flat_map (λ item. 44 ∷ compact_text (tree item)) rest ++ 93 ∷ []))
array_text tree first rest = ap (λ text. 91 ∷ (compact_text (tree first) ++ text)) (items_later tree rest)

-- what is written of some items, the first of which stands apart
pub pushed_array : {T E X : Type 0} (result : Result T E) (tree : X → Data) (items : List X) (first : X) (out one two three new : List ℕ) (done : ℕ)
    → 1 ≤ length items → first ≡ get_or items 0 first
    → one ≡ out ++ codes "[" → two ≡ one ++ compact_text (tree first)
    → three ≡ two ++ flat_map (λ item. 44 ∷ compact_text (tree item)) (take done (take (length items - 1) (drop 1 items)))
    → length (take (length items - 1) (drop 1 items)) ≤ done
    → new ≡ cond (is_ok result) (three ++ 93 ∷ []) three
    → OnOk result (new ≡ out ++ compact_text (array (items_of (map tree items))))
pushed_array (Err error) tree items first out one two three new done some is_first at_one at_two at_three past at_new = tt
pushed_array (Ok value) tree [] first out one two three new done some is_first at_one at_two at_three past at_new = absurd (omega arith)
pushed_array (Ok value) tree (head ∷ rest) first out one two three new done some is_first at_one at_two at_three past at_new =
    let later = flat_map (λ item. 44 ∷ compact_text (tree item)) in
    let left : take done (take (length (head ∷ rest) - 1) rest) ≡ rest = take_all done _ past ∙ take_all _ rest (omega arith) in
    let begun : two ≡ (out ++ codes "[") ++ compact_text (tree head) = at_two ∙ ap₂ (λ front item. front ++ compact_text (tree item)) at_one is_first in
    at_new
    ∙ ap (λ text. text ++ 93 ∷ []) (at_three ∙ ap₂ (λ front items. front ++ later items) begun left)
    ∙ append_assoc ((out ++ codes "[") ++ compact_text (tree head)) (later rest) (93 ∷ [])
    ∙ append_assoc (out ++ codes "[") (compact_text (tree head)) (later rest ++ 93 ∷ [])
    ∙ append_assoc out (codes "[") (compact_text (tree head) ++ (later rest ++ 93 ∷ []))
    ∙ ap (λ text. out ++ text) (sym (array_text tree head rest))
