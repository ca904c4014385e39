-- Values that are numbers of one kind stand in order as their numbers do.
use Rattle.std.proofs.Common.{◌≡◌, ℕ, ◌+◌, ◌-◌, ℤ, pos, true, false, List, length, get_or, map, reverse, ap, ◌∙◌, subst, arith}
use Rattle.std.specs.List.Sorted.{IsPermutation, IsSorted}
use Rattle.std.specs.Ordering.{int_cmp, is_lt}
use Rattle.std.proofs.lemmas.List.{get_or-map, get_or-reverse, length-map, length-reverse}
use Rattle.std.proofs.lemmas.List.Sorted.{IsPermutation-map, IsPermutation-reverse, IsPermutation-trans}
use Rattle.esql_types.specs.Values.{value_cmp}
use Rattle.esql_types.specs.declared.value.Value.{Value}
use Rattle.function_rules.specs.Lists.{sorted_by}
use Rattle.function_rules.proofs.ListsSorted.{sorted_once}
use Rattle.plain_functions.specs.ValueOrder.{directed_exact, directed_total}
use Rattle.plain_functions.specs.Values.{directed_cmp}

module _ (make : ℤ → Value) (keeps : (left right : ℤ) → value_cmp (make left) (make right) ≡ int_cmp left right) where
  less_kept : (left right : Value) (less more : ℤ) → left ≡ make less → right ≡ make more → is_lt (int_cmp less more) ≡ false → is_lt (value_cmp left right) ≡ false
  less_kept left right less more is_left is_right fails =
      ap (λ (value : Value). is_lt (value_cmp value right)) is_left
      ∙ ap (λ (value : Value). is_lt (value_cmp (make less) value)) is_right
      ∙ ap is_lt (keeps less more)
      ∙ fails

  values_up : (numbers : List ℤ) → IsSorted int_cmp numbers → IsSorted value_cmp (map make numbers)
  values_up numbers up k d low below =
      let long = length-map numbers make in
      let zero : ℤ = pos 0 in
      less_kept (get_or (map make numbers) (k + 1) d) (get_or (map make numbers) k d) (get_or numbers (k + 1) zero) (get_or numbers k zero)
      (get_or-map make numbers (k + 1) zero d (omega arith)) (get_or-map make numbers k zero d (omega arith)) (up k zero low (omega arith))

  values_down : (numbers : List ℤ) → IsSorted int_cmp numbers → IsSorted (directed_cmp true) (map make (reverse numbers))
  values_down numbers up k d low below =
      let long = length-map (reverse numbers) make in
      let as_long = length-reverse numbers in
      let zero : ℤ = pos 0 in
      let last : ℕ = length numbers - 1 - (k + 1) in
      let place : length numbers - 1 - k ≡ last + 1 = omega arith in
      let first : get_or (map make (reverse numbers)) k d ≡ make (get_or numbers (last + 1) zero) =
      get_or-map make (reverse numbers) k zero d (omega arith)
      ∙ ap make (get_or-reverse numbers k zero (omega arith) ∙ ap (λ (n : ℕ). get_or numbers n zero) place) in
      let then : get_or (map make (reverse numbers)) (k + 1) d ≡ make (get_or numbers last zero) =
      get_or-map make (reverse numbers) (k + 1) zero d (omega arith) ∙ ap make (get_or-reverse numbers (k + 1) zero (omega arith)) in
      less_kept (get_or (map make (reverse numbers)) k d) (get_or (map make (reverse numbers)) (k + 1) d) (get_or numbers (last + 1) zero) (get_or numbers last zero)
      first then (up last zero (omega arith) (omega arith))

  module _ (values : List Value) (numbers sorted : List ℤ) (of_values : map make numbers ≡ values) (moved : IsPermutation numbers sorted) (up : IsSorted int_cmp sorted) where
    values_moved : IsPermutation values (map make sorted)
    values_moved = subst (λ (items : List Value). IsPermutation items (map make sorted)) of_values (IsPermutation-map make numbers sorted moved)

    pub sorted_up : map make sorted ≡ sorted_by (directed_cmp false) values
    sorted_up = sorted_once (directed_cmp false) (directed_total false) (directed_exact false) values (map make sorted) values_moved (values_up sorted up)

    pub sorted_down : map make (reverse sorted) ≡ sorted_by (directed_cmp true) values
    sorted_down =
        sorted_once (directed_cmp true) (directed_total true) (directed_exact true) values (map make (reverse sorted))
        (IsPermutation-trans values (map make sorted) (map make (reverse sorted)) values_moved (IsPermutation-map make sorted (reverse sorted) (IsPermutation-reverse sorted)))
        (values_down sorted up)
