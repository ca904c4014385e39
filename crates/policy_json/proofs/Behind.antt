-- Texts of an array, one after another.
use Rattle.std.proofs.Common.{◌≡◌, ℕ, List, [], ◌∷◌, ◌++◌, Option, Some, None, option_map, refl, sym, ap, append_assoc, append-nil}

-- the texts that were read stand before the rest, if the rest are texts
abbrev pub behind : List (List ℕ) → Option (List (List ℕ)) → Option (List (List ℕ))
behind had rest = option_map (λ (texts : List (List ℕ)). had ++ texts) rest

pub behind_none : (rest : Option (List (List ℕ))) → rest ≡ behind [] rest
behind_none None = refl
behind_none (Some texts) = refl

pub behind_more : (had : List (List ℕ)) (text : List ℕ) (rest : Option (List (List ℕ))) → behind had (option_map (λ (texts : List (List ℕ)). text ∷ texts) rest) ≡ behind (had ++ text ∷ []) rest
behind_more had text None = refl
behind_more had text (Some texts) = ap Some (sym (append_assoc had (text ∷ []) texts))

pub behind_all : (had : List (List ℕ)) → behind had (Some []) ≡ Some had
behind_all had = ap Some (append-nil had)
