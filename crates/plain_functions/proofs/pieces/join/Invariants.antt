use Rattle.std.proofs.Common.{◌≡◌, ◌∷◌, map, take}
use Rattle.std.specs.String.{string_bytes}
use Rattle.function_rules.specs.Texts.{joined}
use Rattle.plain_functions.specs.Keywords.{text_in}
use Rattle.plain_functions.proofs.pieces.join.Given as goal

abbrev pub invariant-loop-value : goal.invariant-loop-value
invariant-loop-value l = string_bytes l.whole ≡ joined l.delimiter (string_bytes l.initial.whole ∷ map text_in (take l.value-index l.rest))
