-- The keys of a row, cell by cell and value by value.
use Rattle.std.proofs.Common.{◌≡◌, ℕ, ◌+◌, ◌<◌, List, [], ◌∷◌, ◌++◌, length, map, take, get_or, sym, ap, ◌∙◌, arith}
use Rattle.std.specs.List.{flat_map}
use Rattle.std.proofs.lemmas.List.{append-nil, take_more}
use Rattle.std.proofs.lemmas.List.Folds.{flat_map-map}
use Rattle.std.proofs.lemmas.Grind.{flat_map-append}
use Rattle.esql_types.specs.declared.value.Value.{Value}
use Rattle.plan_semantics.specs.Groups.{Key, distinct_values, key_cells}

pub flat_map_turn : {A B : Type 0} (f : A → List B) (items : List A) (place : ℕ) (item : A) (before after : List B) → place < length items
    → item ≡ get_or items place item → before ≡ flat_map f (take place items) → after ≡ before ++ f item → after ≡ flat_map f (take (place + 1) items)
flat_map_turn f items place item before after within is so_far made =
    made
    ∙ ap (λ these. these ++ f item) so_far
    ∙ ap (λ these. flat_map f (take place items) ++ these) (sym (append-nil (f item)))
    ∙ sym (flat_map-append f (take place items) (item ∷ []))
    ∙ ap (λ one. flat_map f (take place items ++ one ∷ [])) is
    ∙ ap (flat_map f) (sym (take_more items place item within))

-- a cell with values has each of its distinct ones alone
pub values_behind : (cell : List Value) (keys : List Key) → 0 < length cell
    → flat_map (λ value. map (λ more. (value ∷ []) ∷ more) keys) (distinct_values cell) ≡ flat_map (λ one. map (λ more. one ∷ more) keys) (key_cells cell)
values_behind [] keys some = absurd (omega (arith, some))
values_behind (value ∷ values) keys some =
    sym (flat_map-map (λ one. map (λ more. one ∷ more) keys) (λ one. one ∷ []) (distinct_values (value ∷ values)))
