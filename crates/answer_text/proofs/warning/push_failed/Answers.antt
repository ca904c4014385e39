use Rattle.std.proofs.Common.{codes}
use Rattle.std.specs.String.{string_bytes}
use Rattle.answer_text.proofs.Pushes.{pushed_third}
use Rattle.answer_text.proofs.warning.push_failed.Goals as goal

pub returns : goal.returns
returns c =
    pushed_third c.push_str-3.result (string_bytes c.args.out.now) (string_bytes c.push_str.new.self) (string_bytes c.push_str-2.new.self) (string_bytes c.push_str-3.new.self)
    (codes "evaluation of [") c.args.part.now (codes "] failed, treating result as null. Only first 20 failures recorded.")
    c.in_ok-push_str.ensures.bytes c.in_ok-push_str-2.ensures.bytes c.push_str-3.ensures.bytes
