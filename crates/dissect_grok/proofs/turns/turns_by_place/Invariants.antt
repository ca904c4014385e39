use Rattle.std.proofs.Common.{◌≡◌, map, take}
use Rattle.dissect_grok.specs.Numbered.{turns_at}
use Rattle.dissect_grok.proofs.turns.turns_by_place.Given as goal

abbrev pub invariant-loop-place : goal.invariant-loop-place
invariant-loop-place l = l.lists.items ≡ map (turns_at 0 (take l.place l.keys)) l.names
