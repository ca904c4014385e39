use Rattle.std.proofs.Common.{◌≡◌, map, take}
use Rattle.dissect_grok.specs.Joined.{joined_turns}
use Rattle.dissect_grok.proofs.cuts.join_each.Given as goal

abbrev pub invariant-loop-name : goal.invariant-loop-name
invariant-loop-name l = l.cut ≡ map (joined_turns l.separator (map (λ text. text.now) l.texts)) (take l.name-index l.turns)
