use Rattle.std.proofs.Common.{◌≡◌, take}
use Rattle.std.specs.List.{flat_map}
use Rattle.std.specs.String.{string_bytes}
use Rattle.plain_functions.proofs.pieces.concat.Given as goal

abbrev pub invariant-loop-text-2 : goal.invariant-loop-text-2
invariant-loop-text-2 l = string_bytes l.whole ≡ flat_map (λ text. text.now) (take l.text-index l.texts)
