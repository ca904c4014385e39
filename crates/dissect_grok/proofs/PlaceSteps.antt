-- The steps of walks over the places of a pattern of GROK.
use Rattle.std.proofs.Common.{◌≡◌, ℕ, zero, suc, ◌+◌, ◌<◌, ◌≤◌, Bool, true, false, cond, if◌then◌else◌, List, [], ◌∷◌, ◌++◌, length, take, fold, map, get_or, Option, Some, None, sym, ap, ap₂, ◌∙◌, arith, refl}
use Rattle.std.specs.List.{filter_map, position, position_or_len}
use Rattle.std.specs.Str.{bytes_eq}
use Rattle.std.proofs.lemmas.List.{take_more}
use Rattle.std.proofs.lemmas.List.Sums.{fold-append, position_or_len_is}
use Rattle.std.proofs.lemmas.List.Elements.{filter_map-append}
use Rattle.std.proofs.lemmas.Slice.Eq.{bytes_eq-Decides}
use Rattle.regex.specs.Names.{IsIndexOf}
use Rattle.esql_types.specs.declared.names.Column.{Column}
use Rattle.dissect_grok.specs.declared.place.Place.{Place}
use Rattle.dissect_grok.specs.Groks.{columns_of, group_name, numbers_from, numbers_of, with_column}
use Rattle.dissect_grok.specs.GrokParts.{groups_in}
use Rattle.dissect_grok.specs.Groups.{has_name, index_of}

one_more : {X : Type 0} (items : List X) (number : ℕ) (item : X) → number < length items → item ≡ get_or items number item → take (number + 1) items ≡ take number items ++ item ∷ []
one_more {X} items number item within is = take_more items number item within ∙ ap (λ (last : X). take number items ++ last ∷ []) (sym is)

pub column_added : (places : List Place) (number : ℕ) (place : Place) (columns after : List Column) → number < length places → place ≡ get_or places number place →
    columns ≡ columns_of (take number places) → after ≡ with_column columns place → after ≡ columns_of (take (number + 1) places)
column_added places number place columns after within is held added =
    added ∙ ap (λ (some : List Column). with_column some place) held
    ∙ sym (fold-append with_column [] (take number places) (place ∷ []))
    ∙ sym (ap columns_of (one_more places number place within is))

pub texts_added : {X : Type 0} (text_of : X → Option (List ℕ)) (items : List X) (number : ℕ) (item : X) (texts after : List (List ℕ)) → number < length items → item ≡ get_or items number item →
    texts ≡ filter_map text_of (take number items) → after ≡ texts ++ filter_map text_of (item ∷ []) → after ≡ filter_map text_of (take (number + 1) items)
texts_added text_of items number item texts after within is held added =
    added ∙ ap (λ (some : List (List ℕ)). some ++ filter_map text_of (item ∷ [])) held
    ∙ sym (filter_map-append text_of (take number items) (item ∷ []))
    ∙ sym (ap (filter_map text_of) (one_more items number item within is))

numbers_more : (name : List ℕ) (number : ℕ) (places : List Place) (place : Place) →
    numbers_from name number (places ++ place ∷ []) ≡ numbers_from name number places ++ (if bytes_eq name place.name then (number + length places) ∷ [] else [])
numbers_more name number [] place = ap (λ (n : ℕ). if bytes_eq name place.name then n ∷ [] else []) (let same : number ≡ number + 0 = omega arith in same)
numbers_more name number (first ∷ rest) place =
    by_first (bytes_eq name first.name) (numbers_from name (number + 1) rest) (numbers_from name (number + 1) (rest ++ place ∷ []))
    (if bytes_eq name place.name then (number + suc (length rest)) ∷ [] else [])
    (numbers_more name (number + 1) rest place
    ∙ ap (λ (n : ℕ). numbers_from name (number + 1) rest ++ (if bytes_eq name place.name then n ∷ [] else [])) (let same : number + 1 + length rest ≡ number + suc (length rest) = omega arith in same))
  where
    by_first : (is : Bool) (some more last : List ℕ) → more ≡ some ++ last → (if is then number ∷ more else more) ≡ (if is then number ∷ some else some) ++ last
    by_first true some more last same = ap (λ (r : List ℕ). number ∷ r) same
    by_first false some more last same = same

map_more_if : (f : ℕ → Option ℕ) (numbers : List ℕ) (named : Bool) (number : ℕ) →
    map f (numbers ++ (if named then number ∷ [] else [])) ≡ map f numbers ++ (if named then f number ∷ [] else [])
map_more_if f [] true number = refl
map_more_if f [] false number = refl
map_more_if f (first ∷ rest) named number = ap (λ (r : List (Option ℕ)). f first ∷ r) (map_more_if f rest named number)

long_front : {X : Type 0} (items : List X) (number : ℕ) → number < length items → length (take number items) ≡ number
long_front [] number within = absurd (omega arith)
long_front (first ∷ rest) zero within = refl
long_front (first ∷ rest) (suc number) within = ap suc (long_front rest number (omega arith))

pub group_added : (names : List (Option (List ℕ))) (name : List ℕ) (places : List Place) (number : ℕ) (place : Place) (groups after : List (Option ℕ)) (named : Bool) → number < length places →
    place ≡ get_or places number place → named ≡ bytes_eq name place.name → groups ≡ groups_in names (take number places) name →
    after ≡ groups ++ (if named then index_of (group_name number) names ∷ [] else []) → after ≡ groups_in names (take (number + 1) places) name
group_added names name places number place groups after named within is has held added =
    let index : ℕ → Option ℕ = λ n. index_of (group_name n) names in
    let front = take number places in
    added ∙ ap (λ (some : List (Option ℕ)). some ++ (if named then index number ∷ [] else [])) held
    ∙ sym (map_more_if index (numbers_of front name) named number)
    ∙ ap (λ (is_named : Bool). map index (numbers_of front name ++ (if is_named then number ∷ [] else []))) has
    ∙ ap (λ (n : ℕ). map index (numbers_of front name ++ (if bytes_eq name place.name then n ∷ [] else []))) (let same : number ≡ 0 + length front = (let long = long_front places number within in omega arith) in same)
    ∙ sym (ap (map index) (numbers_more name 0 front place))
    ∙ sym (ap (λ (some : List Place). groups_in names some name) (one_more places number place within is))
