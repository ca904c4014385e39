-- The lines of bytes are the bytes between their line feeds.
use Rattle.std.proofs.Common.{◌≡◌, ◌⊎◌, ℕ, Bool, true, false, cond, eqb, List, [], ◌∷◌, ◌++◌, All, inl, inr, ⊎_elim, refl, sym, ap, ◌∙◌, arith}
use Rattle.std.specs.List.{list_all}
use Rattle.std.specs.Prelude.{not, ◌&&◌}
use Rattle.std.proofs.lemmas.Bool.Decides.{nat_tests}
use Rattle.std.proofs.lemmas.List.Elements.{All-nil, All-cons, All-head, All-tail}
use Rattle.ndjson_load.specs.Rows.{ended_lines, onto_first}
use Rattle.file_laws.specs.Lines.{with_ends, AreLines, HasNoEnd}

cons_ended : (b : ℕ) (bytes : List ℕ) (texts more : List (List ℕ)) → with_ends more ≡ b ∷ with_ends texts → AreLines bytes texts → AreLines (b ∷ bytes) more
cons_ended b bytes texts more first ended = ⊎_elim (λ e. inl (first ∙ ap (λ xs. b ∷ xs) e)) (λ e. inr (first ∙ ap (λ xs. b ∷ xs) e)) ended

onto_ended : (b : ℕ) (bytes : List ℕ) (texts : List (List ℕ)) → AreLines bytes texts → AreLines (b ∷ bytes) (onto_first b texts)
onto_ended b bytes (line ∷ texts) ended = cons_ended b bytes (line ∷ texts) ((b ∷ line) ∷ texts) refl ended
onto_ended b [] [] ended = inr refl
onto_ended b (next ∷ bytes) [] ended = absurd (⊎_elim (λ (e : [] ≡ next ∷ bytes). cc) (λ (e : [] ≡ next ∷ (bytes ++ 10 ∷ [])). cc) ended)

step_ended : (t : Bool) (b : ℕ) (bytes : List ℕ) (texts : List (List ℕ)) → (t ≡ true → b ≡ 10) → AreLines bytes texts → AreLines (b ∷ bytes) (cond t ([] ∷ texts) (onto_first b texts))
step_ended true b bytes texts feed ended = cons_ended b bytes texts ([] ∷ texts) (ap (λ x. x ∷ with_ends texts) (sym (feed refl))) ended
step_ended false b bytes texts feed ended = onto_ended b bytes texts ended

pub lines_joined : (bytes : List ℕ) → AreLines bytes (ended_lines bytes)
lines_joined [] = inl refl
lines_joined (b ∷ bytes) = step_ended (eqb b 10) b bytes (ended_lines bytes) (λ (e : eqb b 10 ≡ true). grind (arith, nat_tests)) (lines_joined bytes)

abbrev IsFree : List ℕ → Type 0
IsFree line = list_all (λ b. not (eqb b 10)) line ≡ true

free_with : (b : ℕ) (line : List ℕ) → eqb b 10 ≡ false → IsFree line → IsFree (b ∷ line)
free_with b line other free = ap (λ t. not t && list_all (λ x. not (eqb x 10)) line) other ∙ free

onto_free : (b : ℕ) (texts : List (List ℕ)) → eqb b 10 ≡ false → All IsFree texts → All IsFree (onto_first b texts)
onto_free b [] other free = All-cons IsFree (b ∷ []) [] (free_with b [] other refl) free
onto_free b (line ∷ texts) other free = All-cons IsFree (b ∷ line) texts (free_with b line other (All-head IsFree line texts free)) (All-tail IsFree line texts free)

step_free : (t : Bool) (b : ℕ) (texts : List (List ℕ)) → (t ≡ false → eqb b 10 ≡ false) → All IsFree texts → All IsFree (cond t ([] ∷ texts) (onto_first b texts))
step_free true b texts other free = All-cons IsFree [] texts refl free
step_free false b texts other free = onto_free b texts (other refl) free

pub no_ends : (bytes : List ℕ) → HasNoEnd (ended_lines bytes)
no_ends [] = All-nil IsFree
no_ends (b ∷ bytes) = step_free (eqb b 10) b (ended_lines bytes) (λ e. e) (no_ends bytes)
