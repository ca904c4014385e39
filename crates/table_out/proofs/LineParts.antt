-- A line one text at a time.
use Rattle.std.proofs.Common.{◌≡◌, ℕ, suc, ◌+◌, ◌-◌, ◌<◌, ◌≤◌, ◌==◌, Bool, cond, List, [], ◌∷◌, ◌++◌, length, map, drop, get_or, codes, ap, sym, ◌∙◌, arith, append-nil, append_assoc, length-drop}
use Rattle.std.specs.List.{zip}
use Rattle.std.proofs.Math.Dec.{eqb-suc-zero}
use Rattle.std.proofs.lemmas.List.{get_or-map, length-map}
use Rattle.std.proofs.Math.Seq.{drop-cons}
use Rattle.std.proofs.Math.ListN.{drop_of_length-le}
use Rattle.std.proofs.lemmas.Bool.Decides.{Decides-eqb}
use Rattle.std.specs.Bool.{one_answer}
use Rattle.std.proofs.lemmas.Slice.Zip.{get_or-zip, length-zip}
use Rattle.answer_text.specs.Txt.{line_of, padded}

-- what a line has of one text, which may be the last
abbrev part : Bool → ℕ × List ℕ → List ℕ
part last column = cond last column.1 (padded column.0 column.1 ++ codes " | ")

line_cons : (column : ℕ × List ℕ) (rest : List (ℕ × List ℕ)) → line_of (column ∷ rest) ≡ part (length rest == 0) column ++ line_of rest
line_cons column [] = sym (append-nil column.1)
line_cons column (next ∷ rest) = ap (λ b. part b column ++ line_of (next ∷ rest)) (sym (eqb-suc-zero (length rest)))

-- a text is the last where none is left
last_here : (next count left : ℕ) → next ≤ count → left ≡ count - next → (next == count) ≡ (left == 0)
last_here next count left within is =
    let tells = Decides-eqb left 0 in
    one_answer (next == count) (left == 0) (Decides-eqb next count)
    ((λ passed. let none : left ≡ 0 = tells.0 passed in omega arith), (λ same. tells.1 (omega arith)))

module _ (widths : List ℕ) (texts : List (List ℕ)) (sized : length texts ≡ length widths) where
  length-columns : length (zip widths texts) ≡ length texts
  length-columns = omega (arith, length-zip widths texts)

  pub no_more : (place : ℕ) → length texts ≤ place → line_of (drop place (zip widths texts)) ≡ []
  no_more place past = ap line_of (drop_of_length-le (zip widths texts) (omega (arith, length-columns)))

  pub one_more : (place : ℕ) (text out new all : List ℕ) → place < length texts → text ≡ get_or texts place text
      → new ≡ out ++ cond (place + 1 == length texts) text (padded (get_or widths place 0) text ++ codes " | ")
      → out ++ line_of (drop place (zip widths texts)) ≡ all
      → new ++ line_of (drop (place + 1) (zip widths texts)) ≡ all
  one_more place text out new all within is written before =
      let columns = zip widths texts in
      let column : ℕ × List ℕ = (get_or widths place 0, text) in
      let rest = drop (place + 1) columns in
      let here : get_or columns place (0, text) ≡ column = get_or-zip widths texts place (0, text) (omega arith) within ∙ ap (λ t. (get_or widths place 0, t)) (sym is) in
      let place_next : suc place ≡ place + 1 = omega arith in
      let cut : drop place columns ≡ column ∷ rest =
      drop-cons columns place (0, text) (omega (arith, length-columns)) ∙ ap (λ c. c ∷ drop (suc place) columns) here ∙ ap (λ n. column ∷ drop n columns) place_next in
      let last : (place + 1 == length texts) ≡ (length rest == 0) = last_here (place + 1) (length texts) (length rest) (omega arith) (length-drop (place + 1) columns ∙ ap (λ n. n - (place + 1)) length-columns) in
      ap (λ front. front ++ line_of rest) (written ∙ ap (λ b. out ++ part b column) last)
      ∙ append_assoc out _ _
      ∙ ap (λ line. out ++ line) (sym (ap line_of cut ∙ line_cons column rest))
      ∙ before

-- the same of items that are printed
module _ {X : Type 0} (print : X → List ℕ) (widths : List ℕ) (items : List X) (sized : length items ≡ length widths) where
  as_many : length (map print items) ≡ length items
  as_many = length-map items print

  pub no_more_printed : (place : ℕ) → length items ≤ place → line_of (drop place (zip widths (map print items))) ≡ []
  no_more_printed place past = no_more widths (map print items) (as_many ∙ sized) place (omega (arith, as_many))

  pub one_more_printed : (place : ℕ) (item : X) (text out new all : List ℕ) → place < length items → item ≡ get_or items place item → text ≡ print item
      → new ≡ out ++ cond (place + 1 == length items) text (padded (get_or widths place 0) text ++ codes " | ")
      → out ++ line_of (drop place (zip widths (map print items))) ≡ all
      → new ++ line_of (drop (place + 1) (zip widths (map print items))) ≡ all
  one_more_printed place item text out new all within is_item is_text written before =
      one_more widths (map print items) (as_many ∙ sized) place text out new all (omega (arith, as_many))
      (is_text ∙ ap print is_item ∙ sym (get_or-map print items place item text within))
      (written ∙ ap (λ count. out ++ cond (place + 1 == count) text (padded (get_or widths place 0) text ++ codes " | ")) (sym as_many))
      before
