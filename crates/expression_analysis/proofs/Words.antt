-- Words without regard to ASCII case, by the upper case and by the lower case.
use Rattle.std.proofs.Common.{◌≡◌, ℕ, Bool, List, [], ◌∷◌, map, Decides, refl, ap, sym, ◌∙◌, arith}
use Rattle.std.specs.Char.{to_ascii_lowercase, to_ascii_uppercase}
use Rattle.std.specs.Str.{bytes_eq}
use Rattle.std.proofs.lemmas.Bool.Decides.{same_from_decides, nat_tests}
use Rattle.std.proofs.lemmas.Slice.Eq.{bytes_eq-Decides}
use Rattle.std.proofs.lemmas.Str.Ascii.{lowercase-uppercase}

uppercase-lowercase : (c : ℕ) → to_ascii_uppercase (to_ascii_lowercase c) ≡ to_ascii_uppercase c
uppercase-lowercase c = grind (arith, nat_tests)

raised : (text : List ℕ) → map to_ascii_uppercase (map to_ascii_lowercase text) ≡ map to_ascii_uppercase text
raised [] = refl
raised (c ∷ text) = λ i. uppercase-lowercase c i ∷ raised text i

lowered : (text : List ℕ) → map to_ascii_lowercase (map to_ascii_uppercase text) ≡ map to_ascii_lowercase text
lowered [] = refl
lowered (c ∷ text) = λ i. lowercase-uppercase c i ∷ lowered text i

-- a test for a word in upper case
pub word_told : (told : Bool) (text word : List ℕ) → map to_ascii_uppercase word ≡ word → Decides told (map to_ascii_lowercase text ≡ map to_ascii_lowercase word)
    → told ≡ bytes_eq (map to_ascii_uppercase text) word
word_told told text word upper decides =
    same_from_decides {P = map to_ascii_uppercase text ≡ word} told (bytes_eq (map to_ascii_uppercase text) word)
    (λ is. sym (raised text) ∙ ap (map to_ascii_uppercase) (decides.0 is) ∙ raised word ∙ upper, λ is. decides.1 (sym (lowered text) ∙ ap (map to_ascii_lowercase) is))
    (bytes_eq-Decides (map to_ascii_uppercase text) word)
