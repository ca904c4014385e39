-- The first group that has a name.
use Rattle.std.proofs.Common.{◌≡◌, ◌≢◌, ℕ, ◌<◌, ◌≤◌, Bool, true, false, cond, nat_lt, List, length, get_or, Option, Some, None, sym, ap, ◌∙◌, arith, refl}
use Rattle.std.specs.List.{position, position_or_len}
use Rattle.std.specs.Str.{bytes_eq}
use Rattle.std.proofs.lemmas.List.Sums.{position_or_len_is}
use Rattle.std.proofs.lemmas.Slice.Eq.{bytes_eq-Decides}
use Rattle.std.proofs.lemmas.Bool.Decides.{Decides-ltb}
use Rattle.regex.specs.Names.{IsIndexOf}
use Rattle.dissect_grok.specs.Groups.{has_name, index_of}

not_named : (name : List ℕ) (other : Option (List ℕ)) → other ≢ Some name → has_name name other ≡ false
not_named name None differs = refl
not_named name (Some other) differs = by_same (bytes_eq name other) refl
  where
    by_same : (same : Bool) → bytes_eq name other ≡ same → bytes_eq name other ≡ false
    by_same true is = absurd (differs (ap Some (sym ((bytes_eq-Decides name other).0 is))))
    by_same false is = is

named : (name : List ℕ) (other : Option (List ℕ)) → other ≡ Some name → has_name name other ≡ true
named name other is = ap (has_name name) is ∙ (bytes_eq-Decides name name).1 refl

placed : (place long : ℕ) (is : Bool) → nat_lt place long ≡ is → (place < long → is ≡ true) → place < long → cond (nat_lt place long) (Some place) None ≡ Some place
placed place long is e all within = ap (λ (b : Bool). cond b (Some place) None) (e ∙ all within)

pub index_is : (names : List (Option (List ℕ))) (name : List ℕ) (found : Option ℕ) → IsIndexOf names name found → found ≡ index_of name names
index_is names name (Some n) (within, is, before) =
    let first = position_or_len_is (has_name name) names n None (omega arith) (λ k less. not_named name (get_or names k None) (before k less)) (λ less. named name (get_or names n None) is) in
    sym (ap (λ (place : ℕ). cond (nat_lt place (length names)) (Some place) None) first
    ∙ ap (λ (b : Bool). cond b (Some n) None) ((Decides-ltb n (length names)).1 within))
index_is names name None none =
    let last = position_or_len_is (has_name name) names (length names) None (omega arith) (λ k less. not_named name (get_or names k None) (none k less)) (λ less. absurd (omega arith)) in
    sym (ap (λ (place : ℕ). cond (nat_lt place (length names)) (Some place) None) last
    ∙ ap (λ (b : Bool). cond b (Some (length names)) None) (by_less (nat_lt (length names) (length names)) refl))
  where
    by_less : (less : Bool) → nat_lt (length names) (length names) ≡ less → nat_lt (length names) (length names) ≡ false
    by_less true is = absurd (let wrong = (Decides-ltb (length names) (length names)).0 is in omega arith)
    by_less false is = is
