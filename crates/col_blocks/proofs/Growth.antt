-- A builder with one more value, and with one more row.
use Rattle.std.proofs.Common.{◌≡◌, ℕ, zero, suc, ◌+◌, ◌-◌, ◌<◌, ◌≤◌, Bool, true, false, ◌&&◌, leb, eqb, List, [], ◌∷◌, ◌++◌, Some, length, get_or, take, drop, refl, sym, ap, ◌∙◌, subst, arith, length-drop}
use Rattle.std.specs.List.{slice_range, slice_get, list_all}
use Rattle.std.proofs.lemmas.List.{drop-append-le, take_rest, drop_all, length_push}
use Rattle.std.proofs.lemmas.List.Folds.{list_all-append}
use Rattle.esql_types.specs.declared.value.Kind.{Kind}
use Rattle.esql_types.specs.declared.value.Value.{Value}
use Rattle.col_blocks.specs.declared.values.Values.{Values}
use Rattle.col_blocks.specs.Building.{Building, BuilderFits}
use Rattle.col_blocks.specs.Pieces.{pieces, last_end, Rises}
use Rattle.col_blocks.specs.Stored.{values_of, kind_of}
use Rattle.col_blocks.proofs.AtRow.{length-range}
use Rattle.col_blocks.proofs.Cuts.{rises_more, rises_push, last_at_most, pieces-append, pieces-push, last_end-push}
use Rattle.col_blocks.proofs.Gets.{copied_more}

pub fits_same : (kind : Kind) (old new : Values) (ends : List ℕ) (single few : Bool) → kind_of new ≡ kind_of old → values_of new ≡ values_of old → BuilderFits kind old ends single few → BuilderFits kind new ends single few
fits_same kind old new ends single few same is fits = record {
  of_kind = same ∙ fits.of_kind;
  rises = subst (λ (values : List Value). Rises 0 ends (length values)) (sym is) fits.rises;
  each_one = fits.each_one ∙ ap (λ (values : List Value). list_all (λ cell. eqb (length cell) 1) (pieces values 0 ends)) (sym is);
  each_few = fits.each_few ∙ ap (λ (values : List Value). list_all (λ cell. leb (length cell) 1) (pieces values 0 ends)) (sym is);
}

module _ (kind : Kind) (old new : Values) (ends : List ℕ) (single few : Bool) (value : Value) (same : kind_of new ≡ kind_of old) (is : values_of new ≡ values_of old ++ value ∷ [])
    (fits : BuilderFits kind old ends single few) where
  pub cells_same : pieces (values_of new) 0 ends ≡ pieces (values_of old) 0 ends
  cells_same = ap (λ (values : List Value). pieces values 0 ends) is ∙ pieces-append (values_of old) (value ∷ []) 0 ends (length (values_of old)) fits.rises (omega arith)

  pub row_more : drop (last_end 0 ends) (values_of new) ≡ drop (last_end 0 ends) (values_of old) ++ value ∷ []
  row_more = ap (drop (last_end 0 ends)) is ∙ drop-append-le (last_end 0 ends) (values_of old) (value ∷ []) (last_at_most 0 ends (length (values_of old)) fits.rises)

  pub fits_more : BuilderFits kind new ends single few
  fits_more =
      let long = ap length is ∙ length_push (values_of old) value in
      record {
        of_kind = same ∙ fits.of_kind;
        rises = rises_more 0 ends (length (values_of old)) (length (values_of new)) fits.rises (omega arith);
        each_one = fits.each_one ∙ ap (list_all (λ cell. eqb (length cell) 1)) (sym cells_same);
        each_few = fits.each_few ∙ ap (list_all (λ cell. leb (length cell) 1)) (sym cells_same);
      }

all_more : (test : List Value → Bool) (cells : List (List Value)) (cell : List Value) (before now : Bool) → before ≡ list_all test cells → now ≡ test cell → (before && now) ≡ list_all test (cells ++ cell ∷ [])
all_more test cells cell before now first last = (λ i. first i && last i) ∙ ap (λ (last : Bool). list_all test cells && last) (sym (and_one (test cell))) ∙ sym (list_all-append test cells (cell ∷ []))
  where
    and_one : (b : Bool) → (b && true) ≡ b
    and_one true = refl
    and_one false = refl

pub begins_last : (from : ℕ) (ends : List ℕ) → get_or (from ∷ ends) (length ends) 0 ≡ last_end from ends
begins_last from [] = refl
begins_last from (end ∷ ends) = begins_last end ends

module _ (kind : Kind) (values : Values) (ends new : List ℕ) (single few : Bool) (end count : ℕ) (fits : BuilderFits kind values ends single few)
    (there : end ≡ length (values_of values)) (counted : count ≡ end - last_end 0 ends) (pushed : new ≡ ends ++ end ∷ []) where
  last_row : slice_range (values_of values) (last_end 0 ends) end ≡ drop (last_end 0 ends) (values_of values)
  last_row = ap (λ (end : ℕ). slice_range (values_of values) (last_end 0 ends) end) there ∙ take_rest (values_of values) (last_end 0 ends)

  pub cells_more : pieces (values_of values) 0 new ≡ pieces (values_of values) 0 ends ++ drop (last_end 0 ends) (values_of values) ∷ []
  cells_more = ap (pieces (values_of values) 0) pushed ∙ pieces-push (values_of values) 0 ends end ∙ ap (λ (cell : List Value). pieces (values_of values) 0 ends ++ cell ∷ []) last_row

  pub row_none : drop (last_end 0 new) (values_of values) ≡ []
  row_none = ap (λ (ends : List ℕ). drop (last_end 0 ends) (values_of values)) pushed ∙ ap (λ (k : ℕ). drop k (values_of values)) (last_end-push 0 ends end ∙ there) ∙ drop_all (length (values_of values)) (values_of values) (omega arith)

  many : count ≡ length (drop (last_end 0 ends) (values_of values))
  many = let long = length-drop (last_end 0 ends) (values_of values) in omega arith

  pub fits_row : BuilderFits kind values new (single && eqb count 1) (few && leb count 1)
  fits_row = record {
    of_kind = fits.of_kind;
    rises = subst (λ (ends : List ℕ). Rises 0 ends (length (values_of values))) (sym pushed) (rises_push 0 ends (length (values_of values)) end (length (values_of values)) fits.rises (omega (arith, last_at_most 0 ends (length (values_of values)) fits.rises)) (omega arith));
    each_one = all_more (λ cell. eqb (length cell) 1) (pieces (values_of values) 0 ends) (drop (last_end 0 ends) (values_of values)) single (eqb count 1) fits.each_one (ap (λ (n : ℕ). eqb n 1) many) ∙ ap (list_all (λ cell. eqb (length cell) 1)) (sym cells_more);
    each_few = all_more (λ cell. leb (length cell) 1) (pieces (values_of values) 0 ends) (drop (last_end 0 ends) (values_of values)) few (leb count 1) fits.each_few (ap (λ (n : ℕ). leb n 1) many) ∙ ap (list_all (λ cell. leb (length cell) 1)) (sym cells_more);
  }

-- no row is open where the values end with the last row
pub closed_whole : (values : List Value) (ends : List ℕ) → Rises 0 ends (length values) → drop (last_end 0 ends) values ≡ [] → last_end 0 ends ≡ length values
closed_whole values ends rises none =
    let long = length-drop (last_end 0 ends) values in
    let nothing = ap length none in
    let within = last_at_most 0 ends (length values) rises in
    omega arith

-- one more value of a row that is copied
pub row_step : (start old new : Building) (values : List Value) (place : ℕ) (value : Value) → old ≡ record start { row = take place values } → Some value ≡ slice_get values place
    → new ≡ record old { row = old.row ++ value ∷ [] } → new ≡ record start { row = take (place + 1) values }
row_step start old new values place value before is pushed =
    pushed
    ∙ ap (λ (b : Building). record b { row = b.row ++ value ∷ [] }) before
    ∙ ap (λ (row : List Value). record start { row = row }) (copied_more values (take place values) (take place values ++ value ∷ []) place value refl is refl)

-- one more cell, or none
pub cells_step : (kind : Kind) (old new : Building) (before more after : List (List Value)) → old ≡ record { kind = kind; cells = before; row = [] }
    → new ≡ record old { cells = old.cells ++ more } → before ++ more ≡ after → new ≡ record { kind = kind; cells = after; row = [] }
cells_step kind old new before more after was pushed are =
    pushed
    ∙ ap (λ (b : Building). record b { cells = b.cells ++ more }) was
    ∙ ap (λ (cells : List (List Value)). record { kind = kind; cells = cells; row = [] }) are
