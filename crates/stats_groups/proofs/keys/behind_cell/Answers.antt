use Rattle.std.proofs.Common.{◌<◌, [], ◌∷◌, ◌∙◌, List, length, map, ap, arith}
use Rattle.std.specs.List.{flat_map}
use Rattle.std.proofs.lemmas.List.{take_all}
use Rattle.esql_types.specs.declared.value.Value.{Value}
use Rattle.plan_semantics.specs.Groups.{Key, distinct_values}
use Rattle.stats_groups.proofs.KeyTurns.{flat_map_turn, values_behind}
use Rattle.stats_groups.proofs.keys.behind_cell.Goals as goal

abbrev behind : List Key → Value → List Key
behind keys value = map (λ more. (value ∷ []) ∷ more) keys

pub loop-value-preserved : goal.loop-value-preserved
loop-value-preserved c =
    flat_map_turn (behind c.args.keys.now) c.as_slice-value-items.result.now c.loop-value.value-index c.value-item.result
    c.loop-value.all.items c.push_behind-in-loop-value.new.all.items (omega arith) c.value-item.is c.loop-value.invariant c.in_ok-push_behind-2.ensures

pub returns : goal.returns
returns c =
    let items = c.as_slice-value-items.result.now in
    let some : 0 < length c.args.cell.now = omega arith in
    c.loop-value.invariant
    ∙ ap (flat_map (behind c.args.keys.now))
    (take_all c.loop-value.value-index items (omega arith) ∙ c.as_slice-value-items.ensures ∙ c.in_ok-values.ensures ∙ ap distinct_values c.as_slice.ensures)
    ∙ values_behind c.args.cell.now c.args.keys.now some
