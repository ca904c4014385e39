use Rattle.std.proofs.Common.{◌≡◌, ◌++◌, take, replicate, codes}
use Rattle.std.specs.List.{flat_map}
use Rattle.std.specs.String.{string_bytes}
use Rattle.table_out.proofs.lines.push_joined.Given as goal

abbrev pub invariant-loop-wide : goal.invariant-loop-wide
invariant-loop-wide l = string_bytes l.out ≡ string_bytes l.initial.out ++ flat_map (λ wide. codes "-+-" ++ replicate wide 45) (take l.wide-index l.rest)
