use Rattle.std.proofs.Common.{◌≡◌, ◌+◌, ◌++◌, ◌∷◌, [], ℕ, List, length, take, arith, sym, ap, ◌∙◌}
use Rattle.std.proofs.lemmas.List.{take_more, length-take-le}
use Rattle.esql_types.specs.declared.value.Value.{Value}
use Rattle.lookup_join.specs.Placed.{placed_from, placed_row}
use Rattle.lookup_join.proofs.Found.{Rows, placed_from-push}
use Rattle.lookup_join.proofs.placed.with_places.Goals as goal

pub loop-place-preserved : goal.loop-place-preserved
loop-place-preserved c =
    let rows = c.args.rows.now in
    let place = c.loop-place.place in
    let row : List (List Value) = c.index-rows-place.result in
    let step : take (place + 1) rows ≡ take place rows ++ row ∷ [] =
    take_more rows place row c.loop-place-test.true ∙ ap (λ (item : List (List Value)). take place rows ++ item ∷ []) (sym c.index-rows-place.is) in
    let count : length (take place rows) ≡ place = length-take-le place rows (omega (arith, c.loop-place-test.true)) in
    let at : place ≡ 0 + length (take place rows) = omega (arith, count) in
    let pushed : c.push-in-loop-place.new.self ≡ c.loop-place.placed ++ placed_row place row ∷ [] = grind arith in
    pushed
    ∙ ap (λ (placed : Rows). placed ++ placed_row place row ∷ []) c.loop-place.invariant
    ∙ ap (λ (n : ℕ). placed_from 0 (take place rows) ++ placed_row n row ∷ []) at
    ∙ sym (placed_from-push 0 (take place rows) row)
    ∙ ap (placed_from 0) (sym step)
