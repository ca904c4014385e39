use Rattle.std.proofs.Common.{◌≡◌, take}
use Rattle.col_blocks.proofs.builder.Builder.push.Given as goal

abbrev pub invariant-loop-value : goal.invariant-loop-value
invariant-loop-value l = l.self ≡ record l.initial.self { row = take l.value-index l.value-items }
