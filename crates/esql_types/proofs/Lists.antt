-- The front and the back of a list of which all elements, or all pairs of them, have a property.
use Rattle.std.proofs.Common.{suc, List, [], ◌∷◌, ◌++◌, length, take, drop, map, All, sym, arith}
use Rattle.std.specs.Prelude.{AllPairs}
use Rattle.std.proofs.lemmas.List.Elements.{All-same, All-take, All-drop, All-map}
use Rattle.std.proofs.lemmas.List.Kept.{AllPairs-cons}
use Rattle.std.proofs.Math.Seq.{take-append_seam, drop-append_seam}

pub All-front : {X : Type 0} (P : X → Type 0) (xs ys : List X) → All P (xs ++ ys) → All P xs
All-front P xs ys all = All-same P xs (take (length xs) (xs ++ ys)) (sym (take-append_seam xs ys)) (All-take P (length xs) (xs ++ ys) all)

pub All-back : {X : Type 0} (P : X → Type 0) (xs ys : List X) → All P (xs ++ ys) → All P ys
All-back P xs ys all = All-same P ys (drop (length xs) (xs ++ ys)) (sym (drop-append_seam xs ys)) (All-drop P (length xs) (xs ++ ys) all)

module _ {X : Type 0} (R : X → X → Type 0) where
  pub AllPairs-head : (x : X) (xs : List X) → AllPairs R (x ∷ xs) → All (R x) xs
  AllPairs-head x xs h k d within = h 0 (suc k) d (omega arith) (omega arith)

  pub AllPairs-tail : (x : X) (xs : List X) → AllPairs R (x ∷ xs) → AllPairs R xs
  AllPairs-tail x xs h i j d below within = h (suc i) (suc j) d (omega arith) (omega arith)

  pub AllPairs-nil : AllPairs R []
  AllPairs-nil i j d below within = absurd (omega arith)

  pub AllPairs-front : (xs ys : List X) → AllPairs R (xs ++ ys) → AllPairs R xs
  AllPairs-front [] ys h = AllPairs-nil
  AllPairs-front (x ∷ xs) ys h =
      AllPairs-cons R x xs (All-front (R x) xs ys (AllPairs-head x (xs ++ ys) h)) (AllPairs-front xs ys (AllPairs-tail x (xs ++ ys) h))

  pub AllPairs-back : (xs ys : List X) → AllPairs R (xs ++ ys) → AllPairs R ys
  AllPairs-back [] ys h = h
  AllPairs-back (x ∷ xs) ys h = AllPairs-back xs ys (AllPairs-tail x (xs ++ ys) h)

  pub AllPairs-map : {Y : Type 0} (f : Y → X) (ys : List Y) → AllPairs (λ (y z : Y). R (f y) (f z)) ys → AllPairs R (map f ys)
  AllPairs-map f [] h = AllPairs-nil
  AllPairs-map {Y} f (y ∷ ys) h =
      let P : Y → Y → Type 0 = λ a b. R (f a) (f b) in
      let head : All (P y) ys = λ k d within. h 0 (suc k) d (omega arith) (omega arith) in
      let tail : AllPairs P ys = λ i j d below within. h (suc i) (suc j) d (omega arith) (omega arith) in
      AllPairs-cons R (f y) (map f ys) (All-map (R (f y)) f ys head) (AllPairs-map f ys tail)
