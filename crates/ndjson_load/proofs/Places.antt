-- Ranges of columns whose names rise.
use Rattle.std.proofs.Common.{◌≡◌, ◌⊎◌, ⊎_elim, ℕ, ◌+◌, ◌-◌, ◌<◌, ◌≤◌, Bool, true, false, not, eqb, List, [], ◌∷◌, ◌++◌, length, take, drop, get_or, refl, sym, ap, ◌∙◌, subst, arith}
use Rattle.std.specs.Prelude.{◌&&◌, nat_eq}
use Rattle.std.specs.Str.{bytes_eq}
use Rattle.std.specs.List.{starts_with}
use Rattle.std.specs.List.Sorted.{IsPartitionedBy, IsPartitionPoint}
use Rattle.std.specs.Ordering.{nat_cmp, is_lt, ordering_then}
use Rattle.std.specs.Cmp.Lexicographic.{slice_cmp}
use Rattle.std.specs.declared.cmp.Ordering.{Ordering}
use Rattle.std.specs.declared.cmp.Ordering.TheVariants.{Less, Equal, Greater}
use Rattle.std.proofs.lemmas.Bool.{both_ways, cases_eq, cases_lt, eqb-true, eqb-false, false_from_ne_true}
use Rattle.std.proofs.lemmas.Cmp.{nat_cmp_total, nat_list_cmp_total, tied_itself}
use Rattle.std.proofs.lemmas.List.{drop-drop, length-drop, length-take, get_or-take, get_or-drop}
use Rattle.ndjson_load.specs.Spreading.{AreRange, GoesOn, Rests, IsPlace, IsEndingAt, AreUnder, stands_before, goes_under, rest_at}
use Rattle.ndjson_load.specs.declared.column.MappedColumn.{MappedColumn}
use Rattle.ndjson_load.proofs.Bounds.{apart_under, under_starts, under_bounds, under_rise, under_long, above_some, behind_other, less_other}

is_less : (o : Ordering) → is_lt o ≡ true → o ≡ Less
is_less Less h = refl
is_less Equal h = absurd cc
is_less Greater h = absurd cc

-- bytes before others are before all that those are before
pub before_trans : (a b c : List ℕ) → stands_before a b ≡ true → stands_before b c ≡ true → stands_before a c ≡ true
before_trans a b c h g = ap is_lt (nat_list_cmp_total.trans a b c (is_less (slice_cmp nat_cmp a b) h) (is_less (slice_cmp nat_cmp b c) g))

no_length : (xs : List ℕ) → length xs ≡ 0 → xs ≡ []
no_length [] e = refl
no_length (x ∷ xs) e = absurd (omega arith)

-- a key stands before itself with a dot after it
key_before : (key : List ℕ) → stands_before key (key ++ 46 ∷ []) ≡ true
key_before [] = refl
key_before (b ∷ key) = ap (λ (o : Ordering). is_lt (ordering_then o (slice_cmp nat_cmp key (key ++ 46 ∷ [])))) (tied_itself nat_cmp_total b) ∙ key_before key

module _ (columns : List MappedColumn) (depth low high : ℕ) (range : AreRange columns depth low high) where
  abbrev rest : ℕ → MappedColumn → List ℕ
  rest i d = rest_at depth (get_or columns i d)

  -- where one column is before a bound, so are those before it
  pub parted : (bound : List ℕ) (i j : ℕ) (d : MappedColumn) → low ≤ i → i ≤ j → j < high → stands_before (rest j d) bound ≡ true → stands_before (rest i d) bound ≡ true
  parted bound i j d from upto within h = ⊎_elim
      (λ (same : i ≡ j). subst (λ (n : ℕ). stands_before (rest n d) bound ≡ true) (sym same) h)
      (λ (other : i ≡ j → ⊥). before_trans (rest i d) (rest j d) bound (range.rise i j d from (omega arith) within) h)
      (cases_eq i j)

  pub open_above : (i : ℕ) (d : MappedColumn) → low < i → i < high → 0 < length (rest i d)
  open_above i d above below = above_some (rest i d) (rest low d) (range.rise low i d (omega arith) above below)

  pub ending_here : (key : List ℕ) (place : ℕ) → IsPlace columns depth low high key place → place < high → ((d : MappedColumn) → rest place d ≡ key) → IsEndingAt columns depth low high key place
  ending_here key place is below here = record {
    from = is.from;
    below = below;
    here = here;
    before = λ i d from upto. less_other (rest i d) key (is.less i d from upto);
    behind = λ i d from upto. let f = is.from in behind_other (rest place d) (rest i d) key (range.rise place i d f (omega arith) upto)
        (is.others place d (omega arith) below);
  }

  pub no_ending : (key : List ℕ) (place : ℕ) → IsPlace columns depth low high key place → (place < high → (d : MappedColumn) → bytes_eq (rest place d) key ≡ false) → Rests columns depth low high (λ r. bytes_eq r key ≡ false)
  no_ending key place is other i d from upto =
      let f = is.from in
      let below : i < place → bytes_eq (rest i d) key ≡ false = λ h. less_other (rest i d) key (is.less i d from h) in
      let here : i ≡ place → bytes_eq (rest i d) key ≡ false = λ h. subst (λ (n : ℕ). bytes_eq (rest n d) key ≡ false) (sym h) (other (omega arith) d) in
      let above : place < i → bytes_eq (rest i d) key ≡ false = λ h. behind_other (rest place d) (rest i d) key (range.rise place i d f h upto)
      (is.others place d (omega arith) (omega arith)) in
      ⊎_elim below (λ (h : place ≤ i). ⊎_elim here (λ (n : i ≡ place → ⊥). above (omega arith)) (cases_eq i place)) (cases_lt i place)

  -- a key has nothing under it from its place on, if neither of the two names there does
  pub none_past : (key : List ℕ) (place : ℕ) → IsPlace columns depth low high key place → (place < high → (d : MappedColumn) → goes_under key (rest place d) ≡ false)
      → (place + 1 < high → (d : MappedColumn) → starts_with nat_eq (rest (place + 1) d) key ≡ false) → Rests columns depth low high (λ r. goes_under key r ≡ false)
  none_past key place is here next i d from upto =
      let f = is.from in
      let below : i < place → goes_under key (rest i d) ≡ false = λ h. under_bounds key (rest i d)
      ∙ ap (λ (b : Bool). not b && stands_before (rest i d) (key ++ 47 ∷ [])) (before_trans (rest i d) key (key ++ 46 ∷ []) (is.less i d from h) (key_before key)) in
      let at_place : i ≡ place → goes_under key (rest i d) ≡ false = λ h. subst (λ (n : ℕ). goes_under key (rest n d) ≡ false) (sym h) (here (omega arith) d) in
      let at_next : i ≡ place + 1 → goes_under key (rest i d) ≡ false = λ h. false_from_ne_true (goes_under key (rest i d)) (λ e.
      both_ways (starts_with nat_eq (rest (place + 1) d) key) (next (omega arith) d) (subst (λ (n : ℕ). starts_with nat_eq (rest n d) key ≡ true) h (under_starts key (rest i d) e))) in
      let above : place + 1 < i → goes_under key (rest i d) ≡ false = λ h. apart_under key (rest (place + 1) d) (rest i d) (is.others (place + 1) d (omega arith) (omega arith)) (next (omega arith) d)
      (range.rise (place + 1) i d (omega arith) h upto) in
      let behind : place ≤ i → goes_under key (rest i d) ≡ false = λ h. ⊎_elim at_place
      (λ (n : i ≡ place → ⊥). ⊎_elim at_next (λ (m : i ≡ place + 1 → ⊥). above (omega arith)) (cases_eq i (place + 1))) (cases_eq i place) in
      ⊎_elim below behind (cases_lt i place)

  module _ (key : List ℕ) (first past : ℕ) (is : IsPlace columns depth low high (key ++ 46 ∷ []) first) (to : IsPlace columns depth first high (key ++ 47 ∷ []) past) where
    not_before : Rests columns depth low first (λ r. goes_under key r ≡ false)
    not_before i d from upto = under_bounds key (rest i d) ∙ ap (λ (b : Bool). not b && stands_before (rest i d) (key ++ 47 ∷ [])) (is.less i d from upto)

    both_false : (b : Bool) → (not b && false) ≡ false
    both_false true = refl
    both_false false = refl

    not_behind : Rests columns depth past high (λ r. goes_under key r ≡ false)
    not_behind i d from upto = under_bounds key (rest i d) ∙ ap (λ (b : Bool). not (stands_before (rest i d) (key ++ 46 ∷ [])) && b) (to.others i d from upto)
        ∙ both_false (stands_before (rest i d) (key ++ 46 ∷ []))

    all_inside : Rests columns depth first past (λ r. goes_under key r ≡ true)
    all_inside i d from upto =
        let u = to.upto in
        under_bounds key (rest i d) ∙ ap (λ (b : Bool). not b && stands_before (rest i d) (key ++ 47 ∷ [])) (is.others i d from (omega arith)) ∙ to.less i d from upto

    pub none_under : first ≡ past → Rests columns depth low high (λ r. goes_under key r ≡ false)
    none_under same i d from upto = ⊎_elim (λ (h : i < first). not_before i d from h) (λ (h : first ≤ i). not_behind i d (omega arith) upto) (cases_lt i first)

    pub long_name : first < past → (d : MappedColumn) → depth + (length key + 1) ≤ length (get_or columns first d).column.name
    long_name some d =
        let long = under_long key (rest first d) (all_inside first d (omega arith) some) in
        omega (arith, long, length-drop depth (get_or columns first d).column.name)

    cut_rest : (i : ℕ) (d : MappedColumn) → drop (length key + 1) (rest i d) ≡ rest_at (depth + (length key + 1)) (get_or columns i d)
    cut_rest i d = drop-drop (length key + 1) depth (get_or columns i d).column.name

    deeper_range : AreRange columns (depth + (length key + 1)) first past
    deeper_range = record {
      order = to.from;
      within = let w = range.within in let u = to.upto in omega arith;
      rise = λ i j d from before upto.
          let f = is.from in
          let u = to.upto in
          let up = under_rise key (rest i d) (rest j d) (all_inside i d from (omega arith)) (all_inside j d (omega arith) upto) (range.rise i j d (omega arith) before (omega arith)) in
          subst (λ (r : List ℕ). stands_before r (rest_at (depth + (length key + 1)) (get_or columns j d)) ≡ true) (cut_rest i d)
          (subst (λ (r : List ℕ). stands_before (drop (length key + 1) (rest i d)) r ≡ true) (cut_rest j d) up);
    }

    pub are_under : (n : ℕ) → n ≡ depth + (length key + 1) → AreUnder columns depth low high key (record { depth = n; low = first; high = past })
    are_under n same = record {
      from = is.from;
      upto = to.upto;
      deeper = same;
      range = subst (λ (m : ℕ). AreRange columns m first past) (sym same) deeper_range;
      inside = all_inside;
      before = not_before;
      behind = not_behind;
    }

  -- at most the first name of a range ends
  pub first_ends : (r : List ℕ) → low < high → ((d : MappedColumn) → rest low d ≡ r) → (b : Bool) → b ≡ eqb (length r) 0 → GoesOn columns depth low high (not b)
  first_ends r some here true e = record {
    some = some;
    ends = λ d. here d ∙ no_length r (eqb-true (length r) 0 (sym e));
    others = λ i d from upto. open_above i d (omega arith) upto;
  }
  first_ends r some here false e = λ i d from upto. ⊎_elim
      (λ (same : i ≡ low). subst (λ (n : ℕ). 0 < length (rest n d)) (sym same) (let long = ap length (here d) in let other = eqb-false (length r) 0 (sym e) in omega arith))
      (λ (other : i ≡ low → ⊥). open_above i d (omega arith) upto)
      (cases_eq i low)

  -- the columns of the range alone
  abbrev pub part : List MappedColumn
  part = take (high - low) (drop low columns)

  part_long : length part ≡ high - low
  part_long =
      let w = range.within in
      let o = range.order in
      omega (arith, length-take (high - low) (drop low columns), length-drop low columns)

  part_at : (i : ℕ) (d : MappedColumn) → i < high - low → get_or part i d ≡ get_or columns (low + i) d
  part_at i d inside = get_or-take (high - low) (drop low columns) i d inside ∙ get_or-drop low columns i d

  pub part_parted : (bound : List ℕ) → IsPartitionedBy (λ (m : MappedColumn). stands_before (rest_at depth m) bound) part
  part_parted bound i j d upto inside h =
      let long = part_long in
      subst (λ (m : MappedColumn). stands_before (rest_at depth m) bound ≡ true) (sym (part_at i d (omega arith)))
      (parted bound (low + i) (low + j) d (omega arith) (omega arith) (omega arith)
      (subst (λ (m : MappedColumn). stands_before (rest_at depth m) bound ≡ true) (part_at j d (omega arith)) h))

  pub place_from : (bound : List ℕ) (n : ℕ) → n ≤ length part
      → IsPartitionPoint (λ (m : MappedColumn). stands_before (rest_at depth m) bound ≡ true) (λ (m : MappedColumn). stands_before (rest_at depth m) bound ≡ false) part n
      → IsPlace columns depth low high bound (low + n)
  place_from bound n fits point =
      let long = part_long in
      let order = range.order in
      record {
        from = omega arith;
        upto = omega arith;
        less = λ i d from upto.
            let place : low + (i - low) ≡ i = omega arith in
            subst (λ (k : ℕ). stands_before (rest k d) bound ≡ true) place
            (subst (λ (m : MappedColumn). stands_before (rest_at depth m) bound ≡ true) (part_at (i - low) d (omega arith)) (point.0 (i - low) d (omega arith) (omega arith)));
        others = λ i d from upto.
            let place : low + (i - low) ≡ i = omega arith in
            subst (λ (k : ℕ). stands_before (rest k d) bound ≡ false) place
            (subst (λ (m : MappedColumn). stands_before (rest_at depth m) bound ≡ false) (part_at (i - low) d (omega arith)) (point.1 (i - low) d (omega arith) (omega arith)));
      }
