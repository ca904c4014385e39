use Rattle.std.proofs.Common.{◌≡◌, ◌≤◌, length, take}
use Rattle.name_rules.specs.NameRules.{last_of_rank}
use Rattle.name_rules.proofs.kept.last_of_rank.Given as goal

abbrev pub invariant-loop-place : goal.invariant-loop-place
invariant-loop-place l = (l.place ≤ length l.patterns) × (last_of_rank l.rank l.patterns l.name ≡ last_of_rank l.rank (take l.place l.patterns) l.name)

abbrev pub decreases-loop-place : goal.decreases-loop-place
decreases-loop-place l = l.place
