use Rattle.std.proofs.Common.{◌≡◌, ◌-◌, length, take, sym, ap, ◌∙◌, arith, rules}
use Rattle.std.specs.Str.{chars}
use Rattle.std.proofs.lemmas.Str.{chars-nil}
use Rattle.std.proofs.lemmas.List.{take_all}
use Rattle.plain_functions.proofs.Characters.{take_fewer, take_none}
use Rattle.plain_functions.proofs.texts.before_last.Goals as goal

pub loop-init : goal.loop-init
loop-init c = record { is_text = search rules; passed = sym (take_all _ (chars c.args.text.now) (omega arith)) }

pub loop-preserved : goal.loop-preserved
loop-preserved c = record { is_text = search rules; passed = take_fewer (chars c.args.text.now) _ _ c.loop.counter (sym c.in-Some.ensures.1 ∙ c.loop.invariant.passed) }

pub returns-in-None : goal.returns-in-None
returns-in-None c = chars-nil ∙ take_none (chars c.args.text.now) c.loop.counter c.args.count (omega arith) (sym c.in-None.ensures ∙ c.loop.invariant.passed)

pub returns : goal.returns
returns c = c.loop.invariant.passed ∙ ap (λ n. take (length (chars c.args.text.now) - n) (chars c.args.text.now)) (omega arith)
