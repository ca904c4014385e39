use Rattle.std.proofs.Common.{◌≡◌, not, take}
use Rattle.name_rules.specs.NameRules.{is_met}
use Rattle.name_rules.specs.NamePlaces.{places_from}
use Rattle.name_rules.proofs.kept.drop_names.Given as goal

abbrev pub invariant-loop-name : goal.invariant-loop-name
invariant-loop-name l = (l.place ≡ l.name-index) × (l.places ≡ places_from (λ name. not (is_met l.fn.patterns name)) 0 (take l.name-index l.name-items))
