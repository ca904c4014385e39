use Rattle.std.proofs.Common.{◌≡◌, ◌++◌, take, map}
use Rattle.std.specs.String.{string_bytes}
use Rattle.std.specs.List.{flat_map}
use Rattle.answer_text.specs.Warnings.{distinct, cause_line}
use Rattle.answer_text.proofs.warning.push_warnings.Given as goal

abbrev pub invariant-loop-place : goal.invariant-loop-place
invariant-loop-place l = string_bytes l.out ≡ string_bytes l.initial.out ++ flat_map (cause_line l.text l.at) (distinct (map (λ cause. cause.now) (take l.place l.causes)))
