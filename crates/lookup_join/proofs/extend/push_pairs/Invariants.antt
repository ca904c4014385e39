use Rattle.std.proofs.Common.{◌≡◌, ◌++◌, take}
use Rattle.std.specs.List.{flat_map}
use Rattle.lookup_join.specs.Extended.{pair_policies}
use Rattle.lookup_join.proofs.extend.push_pairs.Given as goal

abbrev pub invariant-loop-pair : goal.invariant-loop-pair
invariant-loop-pair l = l.policies ≡ l.initial.policies ++ flat_map (pair_policies l.number l.shapes) (take l.pair-index l.pairs)
