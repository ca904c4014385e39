-- Numbers that a set holds.
use Rattle.std.specs.Prelude.{◌≡◌, ℕ, ◌==◌, List}
use Rattle.std.specs.BTreeSet.{BTreeSet, contains}
use Rattle.std.specs.List.{list_any}
use Rattle.std.specs.Ordering.{nat_cmp}

-- the set holds the numbers of a list, and no other
abbrev pub Holds : BTreeSet ℕ → List ℕ → Type 0
Holds seen numbers = (number : ℕ) → contains nat_cmp seen number ≡ list_any (λ other. other == number) numbers
