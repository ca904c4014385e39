-- Cells that are joined with others one after another, and rows that are put into new columns.
use Rattle.std.proofs.Common.{◌≡◌, ℕ, zero, suc, ◌+◌, ◌<◌, List, [], ◌∷◌, ◌++◌, length, get_or, drop, fold, replicate, Option, Some, None, MatchOption, refl, ap, sym, ◌∙◌, append_assoc, arith, add-one, drop-cons}
use Rattle.std.proofs.lemmas.List.{nil_from_length}
use Rattle.std.specs.Option.{option_to_list}
use Rattle.esql_types.specs.declared.value.Value.{Value}
use Rattle.plan_semantics.specs.Taken.{joined_cells, nulls}
use Rattle.plan_rows.specs.Kept.{values_behind}

-- so many nulls, and one more
nulls_one_more : (count : ℕ) → nulls count ++ [] ∷ [] ≡ nulls (suc count)
nulls_one_more zero = refl
nulls_one_more (suc count) = ap (λ (rest : List (List Value)). [] ∷ rest) (nulls_one_more count)

pub nulls_more : (count : ℕ) → nulls count ++ [] ∷ [] ≡ nulls (count + 1)
nulls_more count = nulls_one_more count ∙ ap nulls (sym (add-one count))

joined_none : (cells : List (List Value)) → joined_cells cells [] ≡ cells
joined_none [] = refl
joined_none (cell ∷ cells) = refl

-- as many items are left as are counted
pub counted_turn : {Item : Type 0} (next : Option Item) (items rest : List Item) (before after : ℕ)
    → MatchOption next ((before ≡ 0) × (after ≡ 0)) (λ item. (items ≡ item ∷ rest) × (after + 1 ≡ before)) → items ≡ option_to_list next ++ rest → before ≡ length items → after ≡ length rest
counted_turn None items rest before after cases split counted = omega (arith, cases.0, cases.1, counted, ap length split)
counted_turn (Some item) items rest before after cases split counted = omega (arith, cases.1, counted, ap length split)

-- nothing is left behind the last item
pub none_left : {Item : Type 0} (next : Option Item) (items rest : List Item) (before after : ℕ)
    → MatchOption next ((before ≡ 0) × (after ≡ 0)) (λ item. (items ≡ item ∷ rest) × (after + 1 ≡ before)) → after ≡ length rest → next ≡ None → rest ≡ []
none_left None items rest before after cases counted none = nil_from_length rest (omega (arith, cases.1, counted))
none_left (Some item) items rest before after cases counted none = absurd cc

-- one more cell is joined with the next of the others, if there is one
pub joined_turn : (both after : List (List Value)) (cell : List Value) (rest items : List (List Value)) (next : Option (List Value)) (others behind whole : List (List Value))
    → both ++ joined_cells items others ≡ whole → items ≡ cell ∷ rest → others ≡ option_to_list next ++ behind → (next ≡ None → behind ≡ [])
    → after ≡ both ++ values_behind cell next ∷ [] → after ++ joined_cells rest behind ≡ whole
joined_turn both after cell rest items None others behind whole so_far first split none made =
    ap (λ these. these ++ joined_cells rest behind) made
    ∙ append_assoc both (cell ∷ []) (joined_cells rest behind)
    ∙ ap (λ these. both ++ cell ∷ joined_cells rest these) (none refl)
    ∙ ap (λ these. both ++ cell ∷ these) (joined_none rest)
    ∙ ap (λ these. both ++ joined_cells (cell ∷ rest) these) (sym (split ∙ none refl))
    ∙ ap (λ these. both ++ joined_cells these others) (sym first)
    ∙ so_far
joined_turn both after cell rest items (Some other) others behind whole so_far first split none made =
    ap (λ these. these ++ joined_cells rest behind) made
    ∙ append_assoc both ((cell ++ other) ∷ []) (joined_cells rest behind)
    ∙ ap (λ these. both ++ joined_cells (cell ∷ rest) these) (sym split)
    ∙ ap (λ these. both ++ joined_cells these others) (sym first)
    ∙ so_far
