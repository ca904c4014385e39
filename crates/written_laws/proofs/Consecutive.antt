-- Items with numbers one after another.
use Rattle.std.proofs.Common.{◌≡◌, ℕ, suc, ◌+◌, ◌≤◌, ◌<◌, ◌==◌, false, List, [], ◌∷◌, ◌++◌, map, length, All, subst, arith}
use Rattle.std.specs.List.{AllByRecursion, IsDistinct}
use Rattle.std.proofs.lemmas.Map.Keys.{IsDistinct-cons}
use Rattle.std.proofs.lemmas.List.Elements.{All-nil, All-cons, All-weaker}
use Rattle.query_semantics.proofs.Named.{eq_below}
use Rattle.written_laws.proofs.SourceFormed.{none_once}

-- a number from one on and below another
pub record IsBetween (first last number : ℕ) : Type 0 where
  pub from : first ≤ number
  pub below : number < last

module _ {Item : Type 0} (number_of : Item → ℕ) where
  -- the numbers of items are this one and those that follow it
  abbrev pub AreFrom : ℕ → List Item → Type 0
  AreFrom number [] = Unit {0}
  AreFrom number (item ∷ items) = (number_of item ≡ number) × AreFrom (number + 1) items

  pub from-append : (number : ℕ) (these those : List Item) → AreFrom number these → AreFrom (number + length these) those → AreFrom number (these ++ those)
  from-append number [] those from behind = subst (λ (n : ℕ). AreFrom n those) (let e : number + 0 ≡ number = omega arith in e) behind
  from-append number (item ∷ these) those from behind =
      (from.0, from-append (number + 1) these those from.1 (subst (λ (n : ℕ). AreFrom n those) (let e : number + suc (length these) ≡ number + 1 + length these = omega arith in e) behind))

  abbrev pub HasBetween : ℕ → ℕ → Item → Type 0
  HasBetween first last item = IsBetween first last (number_of item)

  pub all_between : (number : ℕ) (items : List Item) → AreFrom number items → All (HasBetween number (number + length items)) items
  all_between number [] from = All-nil (HasBetween number (number + 0))
  all_between number (item ∷ items) from =
      let last : ℕ = number + suc (length items) in
      let own = from.0 in
      All-cons (HasBetween number last) item items (record { from = omega (arith, own); below = omega (arith, own) })
      (All-weaker (HasBetween (number + 1) (number + 1 + length items)) (HasBetween number last)
      (λ other within. record { from = omega (arith, within.from); below = omega (arith, within.below) }) items (all_between (number + 1) items from.1))

  later_differ : (n next : ℕ) (items : List Item) → n < next → AreFrom next items → AllByRecursion (λ m. n == m ≡ false) (map number_of items)
  later_differ n next [] less from = tt
  later_differ n next (item ∷ items) less from =
      let own = from.0 in
      (eq_below n (number_of item) (omega (arith, less, own)), later_differ n (next + 1) items (omega (arith, less)) from.1)

  -- they differ
  pub from_once : (number : ℕ) (items : List Item) → AreFrom number items → IsDistinct (λ (this that : ℕ). this == that) (map number_of items)
  from_once number [] from = none_once
  from_once number (item ∷ items) from =
      let own = from.0 in
      IsDistinct-cons (λ this that. this == that) (number_of item) (map number_of items) (later_differ (number_of item) (number + 1) items (omega (arith, own)) from.1)
      (from_once (number + 1) items from.1)
