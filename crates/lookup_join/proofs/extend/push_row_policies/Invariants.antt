use Rattle.std.proofs.Common.{◌≡◌, ◌++◌, take}
use Rattle.lookup_join.specs.Extended.{row_policies}
use Rattle.lookup_join.proofs.extend.push_row_policies.Given as goal

abbrev pub invariant-loop-place : goal.invariant-loop-place
invariant-loop-place l = l.policies ≡ l.initial.policies ++ row_policies l.number (take l.place l.shapes)
