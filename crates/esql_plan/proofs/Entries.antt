-- What a name stands for in two tables, one behind the other.
use Rattle.std.proofs.Common.{◌≡◌, ℕ, true, false, List, [], ◌∷◌, ◌++◌, Some, None, refl, if◌then◌else◌}
use Rattle.std.specs.Str.{str_eq_ignore_ascii_case}
use Rattle.esql_plan.specs.Names.{entry_in}

module _ (Entry : Type 0) (name : List ℕ) where
  pub entry_front : (front back : List (List ℕ × Entry)) (found : Entry) → entry_in front name ≡ Some found → entry_in (front ++ back) name ≡ Some found
  entry_front [] back found is = cc
  entry_front (entry ∷ front) back found is =
      elim (str_eq_ignore_ascii_case name entry.0) as (λ b. (if b then Some entry.1 else entry_in front name) ≡ Some found → (if b then Some entry.1 else entry_in (front ++ back) name) ≡ Some found)
      [ true ↦ λ is. is | false ↦ λ is. entry_front front back found is ] is

  pub entry_back : (front back : List (List ℕ × Entry)) → entry_in front name ≡ None → entry_in (front ++ back) name ≡ entry_in back name
  entry_back [] back is = refl
  entry_back (entry ∷ front) back is =
      elim (str_eq_ignore_ascii_case name entry.0) as (λ b. (if b then Some entry.1 else entry_in front name) ≡ None → (if b then Some entry.1 else entry_in (front ++ back) name) ≡ entry_in back name)
      [ true ↦ λ is. cc | false ↦ λ is. entry_back front back is ] is
