use Rattle.std.proofs.Common.{◌≡◌, ◌∷◌, map, take}
use Rattle.std.specs.String.{string_bytes}
use Rattle.dissect_grok.specs.Joined.{joined, text_at}
use Rattle.dissect_grok.proofs.turns.join.Given as goal

abbrev pub invariant-loop-turn : goal.invariant-loop-turn
invariant-loop-turn l =
    string_bytes l.whole ≡ joined l.separator (string_bytes l.initial.whole ∷ map (text_at (map (λ text. text.now) l.texts)) (take l.turn-index l.rest))
