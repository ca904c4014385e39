-- What the columns of a range take of a value, one part after another.
use Rattle.std.proofs.Common.{◌≡◌, ◌⊎◌, ⊎_elim, ℕ, ◌+◌, ◌<◌, ◌≤◌, Bool, false, cond, List, [], ◌++◌, length, get_or, set, Ok, refl, sym, ap, ◌∙◌, subst, arith}
use Rattle.std.specs.Str.{bytes_eq}
use Rattle.std.proofs.lemmas.Bool.{cases_eq, cases_lt}
use Rattle.std.proofs.lemmas.List.{append-nil, length-set, get_or-set_same, get_or-set_other}
use Rattle.std.proofs.lemmas.Slice.Eq.{bytes_eq-Decides}
use Rattle.esql_types.specs.declared.value.Value.{Value as CellValue}
use Rattle.ndjson_load.specs.Gathering.{Item}
use Rattle.ndjson_load.specs.Joining.{after}
use Rattle.ndjson_load.specs.Rows.{taken}
use Rattle.ndjson_load.specs.Spreading.{IsEndingAt, Rests, Spreads, at_key, nothing, rest_at}
use Rattle.ndjson_load.specs.declared.column.MappedColumn.{MappedColumn}
use Rattle.ndjson_load.proofs.Takings.{taken_more}

abbrev Cells : Type 0
Cells = List (List CellValue)

abbrev Gives : Type 0
Gives = List ℕ → List Item

taken_none : (column : MappedColumn) (had now : List CellValue) → had ≡ now → Ok had ≡ after now (taken column [])
taken_none column had now same = ap Ok (same ∙ sym (append-nil now))

module _ (columns : List MappedColumn) (depth low high : ℕ) where
  abbrev rest : ℕ → MappedColumn → List ℕ
  rest i d = rest_at depth (get_or columns i d)

  pub spreads_start : (whole : Gives) (cells : Cells) → Spreads columns depth low high whole whole cells cells
  spreads_start whole cells = record {
    size = refl;
    inside = λ i d from upto. refl;
    before = λ i upto. refl;
    behind = λ i from. refl;
  }

  pub spreads_then : (whole part later : Gives) (old mid new : Cells) → Spreads columns depth low high whole part old mid → Spreads columns depth low high part later mid new
      → Spreads columns depth low high whole later old new
  spreads_then whole part later old mid new h g = record {
    size = g.size ∙ h.size;
    inside = λ i d from upto. h.inside i d from upto ∙ g.inside i d from upto;
    before = λ i upto. g.before i upto ∙ h.before i upto;
    behind = λ i from. g.behind i from ∙ h.behind i from;
  }

  -- what is still to be taken may follow
  pub spreads_with : (part later : Gives) (old new : Cells) → Spreads columns depth low high part nothing old new → Spreads columns depth low high (λ path. part path ++ later path) later old new
  spreads_with part later old new h = record {
    size = h.size;
    inside = λ i d from upto.
        let column = get_or columns i d in
        let took : after (get_or old i []) (taken column (part (rest i d))) ≡ Ok (get_or new i []) = h.inside i d from upto ∙ sym (taken_none column (get_or new i []) (get_or new i []) refl) in
        taken_more column (get_or old i []) (get_or new i []) (part (rest i d)) (later (rest i d)) took;
    before = h.before;
    behind = h.behind;
  }

  -- the one part, and then what follows it
  pub spreads_more : (whole part later : Gives) (old mid new : Cells) → Spreads columns depth low high whole (λ path. part path ++ later path) old mid → Spreads columns depth low high part nothing mid new
      → Spreads columns depth low high whole later old new
  spreads_more whole part later old mid new h g = spreads_then whole (λ path. part path ++ later path) later old mid new h (spreads_with part later mid new g)

  -- the same of what gives the same in the range
  pub spreads_as : (whole other later : Gives) (old new : Cells) → Rests columns depth low high (λ path. whole path ≡ other path) → Spreads columns depth low high other later old new
      → Spreads columns depth low high whole later old new
  spreads_as whole other later old new same h = record {
    size = h.size;
    inside = λ i d from upto. ap (λ (items : List Item). after (get_or old i []) (taken (get_or columns i d) items)) (same i d from upto) ∙ h.inside i d from upto;
    before = h.before;
    behind = h.behind;
  }

  pub spreads_none : (whole : Gives) (cells : Cells) → Rests columns depth low high (λ path. whole path ≡ []) → Spreads columns depth low high whole nothing cells cells
  spreads_none whole cells none = spreads_as whole nothing nothing cells cells none (spreads_start nothing cells)

  -- one column of a range took what the key of a member gives
  pub spreads_ending : (give : Gives) (key : List ℕ) (place : ℕ) (cells : Cells) (cell : List CellValue) → IsEndingAt columns depth low high key place → place < length cells
      → ((d : MappedColumn) → after (get_or cells place []) (taken (get_or columns place d) (give [])) ≡ Ok cell) → Spreads columns depth low high (at_key key give) nothing cells (set cells place cell)
  spreads_ending give key place cells cell is within took = record {
    size = length-set cells place cell;
    inside = λ i d from upto.
        let column = get_or columns i d in
        let quiet : bytes_eq (rest i d) key ≡ false → (i ≡ place → ⊥) → after (get_or cells i []) (taken column (at_key key give (rest i d))) ≡ after (get_or (set cells place cell) i []) (taken column []) =
        λ other apart. ap (λ (b : Bool). after (get_or cells i []) (taken column (cond b (give []) []))) other ∙ ap (λ (xs : List CellValue). after xs (taken column [])) (sym (get_or-set_other cells place i cell [] apart)) in
        let here : i ≡ place → after (get_or cells i []) (taken column (at_key key give (rest i d))) ≡ after (get_or (set cells place cell) i []) (taken column []) =
        λ same. subst (λ (n : ℕ). after (get_or cells n []) (taken (get_or columns n d) (at_key key give (rest n d))) ≡ after (get_or (set cells place cell) n []) (taken (get_or columns n d) [])) (sym same)
        (ap (λ (b : Bool). after (get_or cells place []) (taken (get_or columns place d) (cond b (give []) []))) ((bytes_eq-Decides (rest place d) key).1 (is.here d)) ∙ took d
        ∙ taken_none (get_or columns place d) cell (get_or (set cells place cell) place []) (sym (get_or-set_same cells place cell [] within))) in
        let above : place ≤ i → (i ≡ place → ⊥) → after (get_or cells i []) (taken column (at_key key give (rest i d))) ≡ after (get_or (set cells place cell) i []) (taken column []) =
        λ past apart. quiet (is.behind i d (omega arith) upto) apart in
        let aside : (i ≡ place → ⊥) → after (get_or cells i []) (taken column (at_key key give (rest i d))) ≡ after (get_or (set cells place cell) i []) (taken column []) =
        λ apart. ⊎_elim (λ (h : i < place). quiet (is.before i d from h) apart) (λ (h : place ≤ i). above h apart) (cases_lt i place) in
        ⊎_elim here aside (cases_eq i place);
    before = λ i upto. let f = is.from in get_or-set_other cells place i cell [] (λ same. omega arith);
    behind = λ i from. let b = is.below in get_or-set_other cells place i cell [] (λ same. omega arith);
  }
