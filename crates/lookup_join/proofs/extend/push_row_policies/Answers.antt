use Rattle.std.proofs.Common.{◌≡◌, ◌+◌, ◌++◌, ◌∷◌, [], ℕ, List, length, take, arith, sym, ap, ◌∙◌}
use Rattle.std.proofs.lemmas.List.{append_assoc, take_more, length-take-le}
use Rattle.esql_plan.specs.declared.catalog.PolicyShape.{PolicyShape}
use Rattle.esql_plan.specs.declared.catalog.TableShape.{TableShape}
use Rattle.lookup_join.specs.Extended.{row_policies}
use Rattle.lookup_join.specs.Placed.{row_policy}
use Rattle.lookup_join.proofs.Found.{row_policies-push}
use Rattle.lookup_join.proofs.extend.push_row_policies.Goals as goal

pub loop-place-preserved : goal.loop-place-preserved
loop-place-preserved c =
    let shapes = c.args.shapes.now in
    let place = c.loop-place.place in
    let number = c.args.number in
    let shape : TableShape = c.index-shapes-place.result in
    let step : take (place + 1) shapes ≡ take place shapes ++ shape ∷ [] =
    take_more shapes place shape c.loop-place-test.true ∙ ap (λ (item : TableShape). take place shapes ++ item ∷ []) (sym c.index-shapes-place.is) in
    let count : length (take place shapes) ≡ place = length-take-le place shapes (omega (arith, c.loop-place-test.true)) in
    let at : number + place ≡ number + length (take place shapes) = omega (arith, count) in
    let pushed : c.push.new.self ≡ c.loop-place.policies ++ row_policy (number + place) shape ∷ [] = grind arith in
    pushed
    ∙ ap (λ (policies : List PolicyShape). policies ++ row_policy (number + place) shape ∷ []) c.loop-place.invariant
    ∙ append_assoc c.args.policies.now (row_policies number (take place shapes)) (row_policy (number + place) shape ∷ [])
    ∙ ap (λ (n : ℕ). c.args.policies.now ++ (row_policies number (take place shapes) ++ row_policy n shape ∷ [])) at
    ∙ ap (λ (policies : List PolicyShape). c.args.policies.now ++ policies) (sym (row_policies-push number (take place shapes) shape) ∙ ap (row_policies number) (sym step))
