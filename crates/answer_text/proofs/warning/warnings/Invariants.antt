use Rattle.std.proofs.Common.{◌≡◌, take}
use Rattle.std.specs.String.{string_bytes}
use Rattle.answer_text.specs.Warnings.{warned}
use Rattle.answer_text.proofs.warning.warnings.Given as goal

abbrev pub invariant-loop-at : goal.invariant-loop-at
invariant-loop-at l = string_bytes l.out ≡ warned l.text (take l.at-index l.at-items) l.failures
