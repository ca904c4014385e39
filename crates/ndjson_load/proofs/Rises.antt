-- Names that rise from each column to the next.
use Rattle.std.proofs.Common.{◌≡◌, ℕ, zero, suc, ◌+◌, ◌-◌, ◌<◌, true, List, length, get_or, sym, subst, arith}
use Rattle.std.specs.List.{AllAdjacentBelow}
use Rattle.ndjson_load.specs.Mappings.{name_lt}
use Rattle.ndjson_load.specs.Shapes.{NamesRise}
use Rattle.ndjson_load.specs.declared.column.MappedColumn.{MappedColumn}
use Rattle.ndjson_load.proofs.Places.{before_trans}

module _ (columns : List MappedColumn) where
  far : AllAdjacentBelow (λ x y. true ≡ name_lt x y) columns (length columns) → (i m : ℕ) (d : MappedColumn) → i + m + 1 < length columns → name_lt (get_or columns i d) (get_or columns (i + m + 1) d) ≡ true
  far next i zero d within =
      let same : i + 1 ≡ i + zero + 1 = omega arith in
      subst (λ (n : ℕ). name_lt (get_or columns i d) (get_or columns n d) ≡ true) same (sym (next i d (omega arith)))
  far next i (suc m) d within =
      let step : i + m + 1 + 1 ≡ i + suc m + 1 = omega arith in
      before_trans (get_or columns i d).column.name (get_or columns (i + m + 1) d).column.name (get_or columns (i + suc m + 1) d).column.name
      (far next i m d (omega arith))
      (subst (λ (n : ℕ). name_lt (get_or columns (i + m + 1) d) (get_or columns n d) ≡ true) step (sym (next (i + m + 1) d (omega arith))))

  pub names_rise : AllAdjacentBelow (λ x y. true ≡ name_lt x y) columns (length columns) → NamesRise columns
  names_rise next i j d before within =
      let place : i + (j - i - 1) + 1 ≡ j = omega arith in
      subst (λ (n : ℕ). name_lt (get_or columns i d) (get_or columns n d) ≡ true) place (far next i (j - i - 1) d (omega arith))
