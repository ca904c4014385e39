-- What is known of the texts that keys take.
use Rattle.std.specs.Prelude.{◌≡◌, ℕ, zero, suc, false, List, [], ◌∷◌, ◌++◌}
use Rattle.dissect_grok.specs.declared.keys.Key.{Key}

-- a text so many times
abbrev pub copies : ℕ → List ℕ → List ℕ
copies zero text = []
copies (suc count) text = text ++ copies count text

-- The whole is the texts of the keys, each before its key's delimiter, which stands there once, or after `->` once or more.
abbrev pub AreJoined : List Key → List (List ℕ) → List ℕ → Type 0
AreJoined [] [] whole = whole ≡ []
AreJoined [] (text ∷ texts) whole = ⊥
AreJoined (key ∷ keys) [] whole = ⊥
AreJoined (key ∷ keys) (text ∷ texts) whole =
    (more : ℕ) × (rest : List ℕ)
    × (whole ≡ text ++ (key.delimiter ++ (copies more key.delimiter ++ rest))) × (key.repeats ≡ false → more ≡ 0) × AreJoined keys texts rest
