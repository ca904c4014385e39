-- The first of a list that is bad.
use Rattle.std.specs.Prelude.{◌≡◌, List, ◌∷◌, ◌++◌, All, Result, Ok, Err}

abbrev pub IsGood : {Y E : Type 0} → Result (List Y) E → Type 0
IsGood {Y} result = (given : List Y) × (result ≡ Ok given)

-- one of a list has the fault, and each before it is good
pub record IsFirstFault {X Y E : Type 0} (gives : X → Result (List Y) E) (items : List X) (fault : E) : Type 0 where
  pub before : List X
  pub item : X
  pub behind : List X
  pub is : items ≡ before ++ item ∷ behind
  pub good : All (λ x. IsGood (gives x)) before
  pub bad : gives item ≡ Err fault
