use Rattle.std.proofs.Common.{◌≡◌, map}
use Rattle.std.specs.List.{flat_map, range_with_len}
use Rattle.name_rules.specs.NameRules.{winner, is_place}
use Rattle.name_rules.specs.NamePlaces.{places_from}
use Rattle.name_rules.proofs.kept.keep_order.Given as goal

abbrev pub invariant-loop-winning : goal.invariant-loop-winning
invariant-loop-winning l = l.places ≡ flat_map (λ place. places_from (is_place place) 0 (map (winner l.fn.patterns) l.fn.names)) (range_with_len 0 l.winning)
