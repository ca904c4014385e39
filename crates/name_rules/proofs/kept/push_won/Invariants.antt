use Rattle.std.proofs.Common.{◌≡◌, ◌++◌, take}
use Rattle.name_rules.specs.NameRules.{is_place}
use Rattle.name_rules.specs.NamePlaces.{places_from}
use Rattle.name_rules.proofs.kept.push_won.Given as goal

abbrev pub invariant-loop-one : goal.invariant-loop-one
invariant-loop-one l = (l.place ≡ l.one-index) × (l.places ≡ l.fn.places ++ places_from (is_place l.winning) 0 (take l.one-index l.won))
