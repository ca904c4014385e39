-- Texts that are cut out of one.
use Rattle.std.proofs.Common.{◌≡◌, ℕ, zero, suc, ◌+◌, ◌<◌, ◌≤◌, List, [], ◌∷◌, ◌++◌, length, get_or, refl, sym, ap, ◌∙◌, subst, inl, inr, ⊎_elim, arith, length-append}
use Rattle.std.proofs.lemmas.Bool.{cases_lt}
use Rattle.std.proofs.lemmas.List.{get_or_append_left, get_or-append-add, get_or_push, length_push}
use Rattle.std.proofs.lemmas.Str.{IsCharBoundary-start, IsCharBoundary-at_seam, IsCharBoundary-end}
use Rattle.std.specs.List.{slice_range}
use Rattle.std.specs.Str.{IsUtf8, IsCharBoundary}
use Rattle.col_blocks.specs.Pieces.{pieces, last_end, Rises, IsCutText}
use Rattle.col_blocks.proofs.Cuts.{rises_push, rises_more, last_end-push, last_at_most, pieces-push, pieces-append, range_rest}

pub begin_boundary : (bytes ends : List ℕ) (place : ℕ) → IsUtf8 bytes → IsCutText bytes ends → place ≤ length ends → IsCharBoundary bytes (get_or (0 ∷ ends) place 0)
begin_boundary bytes ends zero utf8 cut within = IsCharBoundary-start bytes utf8
begin_boundary bytes ends (suc place) utf8 cut within = cut.between_characters place (omega arith)

-- a place within a text where one of its characters ends is one of the longer text too
boundary_more : (bytes text : List ℕ) (i : ℕ) → IsUtf8 text → IsCharBoundary bytes i → IsCharBoundary (bytes ++ text) i
boundary_more bytes text i utf8 boundary = ⊎_elim
    (λ (inside : i < length bytes).
    let same = get_or_append_left bytes text 0 i inside in
    let long = length-append bytes text in
    (omega arith, λ below high. subst (λ (b : ℕ). 192 ≤ b) (sym same) (boundary.1 inside (subst (λ (b : ℕ). 128 ≤ b) same high))))
    (λ (past : length bytes ≤ i).
    let here : length bytes ≡ i = omega (arith, boundary.0) in
    subst (IsCharBoundary (bytes ++ text)) here (IsCharBoundary-at_seam (bytes ++ text) bytes text refl utf8))
    (cases_lt i (length bytes))

module _ (bytes text ends : List ℕ) (end : ℕ) (utf8 : IsUtf8 text) (cut : IsCutText bytes ends) (ends_there : end ≡ length (bytes ++ text)) where
  boundaries : (k : ℕ) → k < length (ends ++ end ∷ []) → IsCharBoundary (bytes ++ text) (get_or (ends ++ end ∷ []) k 0)
  boundaries k below = ⊎_elim
      (λ (inside : k < length ends). subst (IsCharBoundary (bytes ++ text)) (sym (get_or_append_left ends (end ∷ []) 0 k inside)) (boundary_more bytes text (get_or ends k 0) utf8 (cut.between_characters k inside)))
      (λ (past : length ends ≤ k).
      let long = length_push ends end in
      subst (IsCharBoundary (bytes ++ text)) (sym (get_or_push ends end 0 k (omega arith) ∙ ends_there)) (IsCharBoundary-end (bytes ++ text)))
      (cases_lt k (length ends))

  pub cut_more : IsCutText (bytes ++ text) (ends ++ end ∷ [])
  cut_more =
      let long = length-append bytes text in
      record {
        rises = rises_push 0 ends (length bytes) end (length (bytes ++ text)) cut.rises (omega (arith, cut.whole)) (omega arith);
        whole = last_end-push 0 ends end ∙ ends_there;
        between_characters = boundaries;
      }

  pub texts_more : pieces (bytes ++ text) 0 (ends ++ end ∷ []) ≡ pieces bytes 0 ends ++ text ∷ []
  texts_more =
      pieces-push (bytes ++ text) 0 ends end
      ∙ (λ i. pieces-append bytes text 0 ends (length bytes) cut.rises (omega arith) i ++ range_rest bytes text (last_end 0 ends) end cut.whole (ends_there ∙ length-append bytes text) i ∷ [])
