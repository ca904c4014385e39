-- Gaps, piece by piece.
use Rattle.std.proofs.Common.{◌≡◌, ℕ, zero, suc, ◌+◌, ◌-◌, ◌<◌, ◌≤◌, Bool, true, false, ◌&&◌, cond, List, [], ◌∷◌, ◌++◌, take, drop, length, ◌⊎◌, inl, inr, Option, Some, None, codes, refl, sym, ap, ◌∙◌, subst, arith, length-drop}
use Rattle.std.specs.Prelude.{eqb}
use Rattle.std.specs.List.{prefix_len}
use Rattle.std.specs.Option.{option_map}
use Rattle.std.proofs.lemmas.Bool.{false≢true}
use Rattle.std.proofs.lemmas.List.{drop-drop, drop_more, take-append-drop, append_cancel_right}
use Rattle.std.proofs.lemmas.List.Sums.{prefix_len-le-length}
use Rattle.esql_lex.proofs.Lists.{both_true}
use Rattle.esql_lex.specs.Gaps.{is_white, is_in_line, begins, end_of, begins_line, begins_block, comment_len, piece_len, BeginsWithPieces, SplitsGap}

-- the first mark is no earlier than where the search stands
pub search_found : (mark text : List ℕ) (at : ℕ) → at < length text → option_map (λ n. at + n) (end_of mark (drop at text)) ≡ end_of mark text
    → begins mark (drop at text) ≡ true → Some (at + length mark) ≡ end_of mark text
search_found mark text at l so_far b =
    let here : end_of mark (drop at text) ≡ Some (length mark) = ap (end_of mark) (drop_more text at 0 l) ∙ ap (λ t. cond t (Some (length mark)) (option_map (λ n. 1 + n) (end_of mark (drop (at + 1) text)))) (sym (ap (begins mark) (drop_more text at 0 l)) ∙ b) in
    sym (ap (option_map (λ n. at + n)) here) ∙ so_far

shifted : (at : ℕ) (o : Option ℕ) → option_map (λ n. (at + 1) + n) o ≡ option_map (λ n. at + n) (option_map (λ n. 1 + n) o)
shifted at None = refl
shifted at (Some n) = let e : (at + 1) + n ≡ at + (1 + n) = omega arith in ap Some e

pub search_goes_on : (mark text : List ℕ) (at : ℕ) → at < length text → option_map (λ n. at + n) (end_of mark (drop at text)) ≡ end_of mark text
    → begins mark (drop at text) ≡ false → option_map (λ n. (at + 1) + n) (end_of mark (drop (at + 1) text)) ≡ end_of mark text
search_goes_on mark text at l so_far b =
    let here : end_of mark (drop at text) ≡ option_map (λ n. 1 + n) (end_of mark (drop (at + 1) text)) = ap (end_of mark) (drop_more text at 0 l) ∙ ap (λ t. cond t (Some (length mark)) (option_map (λ n. 1 + n) (end_of mark (drop (at + 1) text)))) (sym (ap (begins mark) (drop_more text at 0 l)) ∙ b) in
    shifted at (end_of mark (drop (at + 1) text)) ∙ sym (ap (option_map (λ n. at + n)) here) ∙ so_far

-- what the search ends at is in the text
mapped_within : (o : Option ℕ) (m size : ℕ) → ((n : ℕ) → o ≡ Some n → n ≤ size) → option_map (λ n. 1 + n) o ≡ Some m → m ≤ 1 + size
mapped_within None m size h e = cc
mapped_within (Some n) m size h e = let same : 1 + n ≡ m = cc in let l : n ≤ size = h n refl in omega (arith, same, l)

end_step : (mark : List ℕ) (c : ℕ) (cs : List ℕ) (b : Bool) (n : ℕ) → ((rest : List ℕ) → begins mark rest ≡ true → length mark ≤ length rest) → begins mark (c ∷ cs) ≡ b
    → ((m : ℕ) → ((rest : List ℕ) → begins mark rest ≡ true → length mark ≤ length rest) → end_of mark cs ≡ Some m → m ≤ length cs)
    → cond b (Some (length mark)) (option_map (λ n. 1 + n) (end_of mark cs)) ≡ Some n → n ≤ length (c ∷ cs)
end_step mark c cs true n h b ih e = let same : length mark ≡ n = cc in let l : length mark ≤ length (c ∷ cs) = h (c ∷ cs) b in omega (arith, same, l)
end_step mark c cs false n h b ih e = let l : n ≤ 1 + length cs = mapped_within (end_of mark cs) n (length cs) (λ m f. ih m h f) e in omega (arith, l)

pub end_within : (mark text : List ℕ) (n : ℕ) → ((rest : List ℕ) → begins mark rest ≡ true → length mark ≤ length rest) → end_of mark text ≡ Some n → n ≤ length text
end_within mark [] n h e = cc
end_within mark (c ∷ cs) n h e = end_step mark c cs (begins mark (c ∷ cs)) n h refl (end_within mark cs) e

-- a mark of two characters
pub two_within : (a b : ℕ) (rest : List ℕ) → begins (a ∷ b ∷ []) rest ≡ true → 2 ≤ length rest
two_within a b [] e = absurd (false≢true e)
two_within a b (c ∷ []) e = absurd (false≢true (both_true (eqb a c) false e).1)
two_within a b (c ∷ d ∷ rest) e = omega arith

-- a mark of three
pub three_within : (a b f : ℕ) (rest : List ℕ) → begins (a ∷ b ∷ f ∷ []) rest ≡ true → 3 ≤ length rest
three_within a b f [] e = absurd (false≢true e)
three_within a b f (c ∷ []) e = absurd (false≢true (both_true (eqb a c) false e).1)
three_within a b f (c ∷ d ∷ []) e = absurd (false≢true (both_true (eqb b d) false (both_true (eqb a c) (eqb b d && false) e).1).1)
three_within a b f (c ∷ d ∷ g ∷ rest) e = omega arith

-- a white space or comment has a character, and is in the text
line_two : (text : List ℕ) → begins_line text ≡ true → 2 ≤ length text
line_two [] e = absurd (false≢true e)
line_two (c ∷ []) e = absurd (false≢true e)
line_two (c ∷ d ∷ rest) e = omega arith

block_two : (text : List ℕ) → begins_block text ≡ true → 2 ≤ length text
block_two [] e = absurd (false≢true e)
block_two (c ∷ []) e = absurd (false≢true e)
block_two (c ∷ d ∷ rest) e = omega arith

-- what a comment is
pub record IsLineOf (text : List ℕ) (n : ℕ) : Type 0 where
  pub begins_so : begins_line text ≡ true
  pub size : n ≡ 2 + prefix_len is_in_line (drop 2 text)

pub record IsBlockOf (text : List ℕ) (n : ℕ) : Type 0 where
  pub begins_so : begins_block text ≡ true
  pub inner : ℕ
  pub ends : end_of (codes "*/") (drop 2 text) ≡ Some inner
  pub size : n ≡ 2 + inner

two_more : (o : Option ℕ) (n : ℕ) → option_map (λ m. 2 + m) o ≡ Some n → (inner : ℕ) × (o ≡ Some inner) × (n ≡ 2 + inner)
two_more None n e = cc
two_more (Some m) n e = (m, refl, (let same : 2 + m ≡ n = cc in sym same))

block_of : (text : List ℕ) (n : ℕ) (b : Bool) → begins_block text ≡ b → cond b (option_map (λ m. 2 + m) (end_of (codes "*/") (drop 2 text))) None ≡ Some n → IsBlockOf text n
block_of text n true b e = let t : (inner : ℕ) × (end_of (codes "*/") (drop 2 text) ≡ Some inner) × (n ≡ 2 + inner) = two_more _ n e in
    record { begins_so = b; inner = t.0; ends = t.1; size = t.2 }
block_of text n false b e = cc

comment_cases : (text : List ℕ) (n : ℕ) (a : Bool) → begins_line text ≡ a
    → cond a (Some (2 + prefix_len is_in_line (drop 2 text))) (cond (begins_block text) (option_map (λ m. 2 + m) (end_of (codes "*/") (drop 2 text))) None) ≡ Some n
    → IsLineOf text n ⊎ IsBlockOf text n
comment_cases text n true a e = inl (record { begins_so = a; size = (let same : 2 + prefix_len is_in_line (drop 2 text) ≡ n = cc in sym same) })
comment_cases text n false a e = inr (block_of text n (begins_block text) refl e)

pub comment_is : (text : List ℕ) (n : ℕ) → comment_len text ≡ Some n → IsLineOf text n ⊎ IsBlockOf text n
unfolding comment_len
comment_is text n e = comment_cases text n (begins_line text) refl e

comment_size : (text : List ℕ) (n : ℕ) → comment_len text ≡ Some n → (2 ≤ n) × (n ≤ length text)
comment_size text n e =
    let size : length (drop 2 text) ≡ length text - 2 = length-drop 2 text in
    elim (comment_is text n e) [
      | inl l ↦ (let run : prefix_len is_in_line (drop 2 text) ≤ length (drop 2 text) = prefix_len-le-length is_in_line (drop 2 text) in
          let two : 2 ≤ length text = line_two text l.begins_so in
          (omega (arith, l.size), omega (arith, l.size, run, size, two)))
      | inr b ↦ (let inner : b.inner ≤ length (drop 2 text) = end_within (codes "*/") (drop 2 text) b.inner (λ rest f. two_within 42 47 rest f) b.ends in
          let two : 2 ≤ length text = block_two text b.begins_so in
          (omega (arith, b.size), omega (arith, b.size, inner, size, two)))
    ]

white_or_comment : (c : ℕ) (cs : List ℕ) (n : ℕ) (b : Bool) → is_white c ≡ b → cond b (Some 1) (comment_len (c ∷ cs)) ≡ Some n → ((is_white c ≡ true) × (n ≡ 1)) ⊎ (comment_len (c ∷ cs) ≡ Some n)
white_or_comment c cs n true b e = inl (b, (let same : 1 ≡ n = cc in sym same))
white_or_comment c cs n false b e = inr e

pub piece_is : (c : ℕ) (cs : List ℕ) (n : ℕ) → piece_len (c ∷ cs) ≡ Some n → ((is_white c ≡ true) × (n ≡ 1)) ⊎ (comment_len (c ∷ cs) ≡ Some n)
piece_is c cs n e = white_or_comment c cs n (is_white c) refl e

pub piece_size : (text : List ℕ) (n : ℕ) → piece_len text ≡ Some n → (1 ≤ n) × (n ≤ length text)
piece_size [] n e = cc
piece_size (c ∷ cs) n e =
    elim (piece_is c cs n e) [
      | inl w ↦ (let one : n ≡ 1 = w.1 in (omega (arith, one), omega (arith, one)))
      | inr k ↦ (let s : (2 ≤ n) × (n ≤ length (c ∷ cs)) = comment_size (c ∷ cs) n k in (omega (arith, s.0), s.1))
    ]

-- one more piece
pub pieces_push : (count : ℕ) (text rest : List ℕ) (n : ℕ) → BeginsWithPieces count text rest → piece_len rest ≡ Some n → BeginsWithPieces (suc count) text (drop n rest)
pieces_push zero text rest n p e = (n, subst (λ xs. piece_len xs ≡ Some n) p e, ap (drop n) p)
pieces_push (suc count) text rest n p e = (p.0, p.1, pieces_push count (drop p.0 text) rest n p.2 e)

-- a text is divided into pieces and the rest in one way
pub same_rest : (m n : ℕ) (text a b : List ℕ) → BeginsWithPieces m text a → BeginsWithPieces n text b → piece_len a ≡ None → piece_len b ≡ None → a ≡ b
same_rest zero zero text a b p q e f = p ∙ sym q
same_rest zero (suc n) text a b p q e f = let clash : None ≡ Some q.0 = sym e ∙ ap piece_len p ∙ q.1 in cc
same_rest (suc m) zero text a b p q e f = let clash : None ≡ Some p.0 = sym f ∙ ap piece_len q ∙ p.1 in cc
same_rest (suc m) (suc n) text a b p q e f =
    let some : Some p.0 ≡ Some q.0 = sym p.1 ∙ q.1 in
    let len : p.0 ≡ q.0 = cc in
    same_rest m n (drop p.0 text) a b p.2 (subst (λ k. BeginsWithPieces n (drop k text) b) (sym len) q.2) e f

pub gap_same : (text g g' b b' : List ℕ) → SplitsGap text g b → SplitsGap text g' b' → (g ≡ g') × (b ≡ b')
gap_same text g g' b b' s s' =
    let same : b ≡ b' = same_rest s.count s'.count text b b' s.pieces s'.pieces s.whole s'.whole in
    (append_cancel_right g g' b' (ap (λ xs. g ++ xs) (sym same) ∙ sym s.cut ∙ s'.cut), same)

-- a step of the walk over a gap
pub gap_step : (text : List ℕ) (len n : ℕ) → len ≤ length text → (count : ℕ) × BeginsWithPieces count text (drop len text) → piece_len (drop len text) ≡ Some n
    → (len < len + n) × (len + n ≤ length text) × ((count : ℕ) × BeginsWithPieces count text (drop (len + n) text))
gap_step text len n within p e =
    let s : (1 ≤ n) × (n ≤ length (drop len text)) = piece_size (drop len text) n e in
    let size : length (drop len text) ≡ length text - len = length-drop len text in
    (omega (arith, s.0), omega (arith, s.1, size, within), (suc p.0, subst (BeginsWithPieces (suc p.0) text) (drop-drop n len text) (pieces_push p.0 text (drop len text) n p.1 e)))

pub gap_done : (text : List ℕ) (len : ℕ) → (count : ℕ) × BeginsWithPieces count text (drop len text) → piece_len (drop len text) ≡ None → SplitsGap text (take len text) (drop len text)
gap_done text len p e = record { cut = sym (take-append-drop len text); count = p.0; pieces = p.1; whole = e }
