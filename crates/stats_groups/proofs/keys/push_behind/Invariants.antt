use Rattle.std.proofs.Common.{◌≡◌, ◌∷◌, ◌++◌, map, take}
use Rattle.std.specs.Option.{option_copied, option_to_list}
use Rattle.stats_groups.proofs.keys.push_behind.Given as goal

abbrev pub invariant-loop-key : goal.invariant-loop-key
invariant-loop-key l = l.all.items ≡ l.initial.all.items ++ map (λ more. option_to_list (option_copied l.value) ∷ more) (take l.key-index l.keys)
