-- A column of any numbers, by the whole numbers that they stand for.
use Rattle.std.proofs.Common.{◌≡◌, ℕ, ◌<◌, List, length, get_or, set, map, sym, ap, ◌∙◌}
use Rattle.std.proofs.lemmas.List.{get_or-map, length-map, map-set}
use lib.IntN.{ℤ, pos}
use Rattle.num_folds.specs.Lanes.{at}

module _ {X : Type 0} (whole : X → ℤ) (wholes : List X → List ℤ) (each : (xs : List X) → wholes xs ≡ map whole xs) where
  pub long : (xs : List X) → length (wholes xs) ≡ length xs
  long xs = ap length (each xs) ∙ length-map xs whole

  pub read : (xs : List X) (place : ℕ) (x : X) → place < length xs → x ≡ get_or xs place x → whole x ≡ at (wholes xs) place
  read xs place x within is = ap whole is ∙ sym (get_or-map whole xs place x (pos 0) within) ∙ ap (λ (numbers : List ℤ). at numbers place) (sym (each xs))

  pub written : (xs : List X) (place : ℕ) (value : X) → wholes (set xs place value) ≡ set (wholes xs) place (whole value)
  written xs place value = each (set xs place value) ∙ map-set whole xs place value ∙ ap (λ (numbers : List ℤ). set numbers place (whole value)) (sym (each xs))
