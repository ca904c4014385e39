use Rattle.std.proofs.Common.{◌≡◌, ◌∷◌, [], map, take}
use Rattle.std.specs.List.{flat_map}
use Rattle.stats_groups.proofs.keys.behind_cell.Given as goal

abbrev pub invariant-loop-value : goal.invariant-loop-value
invariant-loop-value l = l.all.items ≡ flat_map (λ one. map (λ more. (one ∷ []) ∷ more) l.keys) (take l.value-index l.value-items)
