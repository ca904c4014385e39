use Rattle.std.proofs.Common.{◌≡◌, ◌+◌, ◌++◌, [], List, length, Some, refl, sym, ap, ◌∙◌, arith}
use Rattle.std.specs.List.{slice_get}
use Rattle.std.proofs.lemmas.List.{append-nil}
use Rattle.std.proofs.lemmas.Option.{slice_get_read}
use Rattle.esql_plan.specs.declared.catalog.PolicyShape.{PolicyShape}
use Rattle.row_semantics.specs.Scopes.{column_named}
use Rattle.row_semantics.specs.Sources.{number_of_table}
use Rattle.lookup_join.specs.Extended.{pair_policies, policy_on}
use Rattle.lookup_join.proofs.Found.{pair_at, pair_lost}
use Rattle.lookup_join.proofs.extend.push_pair.Goals as goal

pub returns-in-Some : goal.returns-in-Some
returns-in-Some c =
    let shapes = c.args.shapes.now in
    let pair = c.args.pair.now in
    let place = c.in-Some.place in
    let shape = c.index-shapes-place.result in
    let there : slice_get shapes place ≡ Some shape = slice_get_read shapes (length shapes) place shape refl c.in-Some.ensures.below c.index-shapes-place.is in
    let found : pair_policies c.args.number shapes pair ≡ policy_on (c.args.number + place) shape (column_named shape.columns pair.column) =
    pair_at c.args.number shapes pair place shape (ap (number_of_table shapes) (sym c.as_str.ensures) ∙ sym c.place_named.ensures.number ∙ c.in-Some.is) there in
    grind (arith, found)

pub returns-in-None : goal.returns-in-None
returns-in-None c =
    let shapes = c.args.shapes.now in
    let lost : pair_policies c.args.number shapes c.args.pair.now ≡ [] =
    pair_lost c.args.number shapes c.args.pair.now (ap (number_of_table shapes) (sym c.as_str.ensures) ∙ sym c.place_named.ensures.number ∙ c.in-None.is) in
    sym (ap (λ (policies : List PolicyShape). c.args.policies.now ++ policies) lost ∙ append-nil c.args.policies.now)
