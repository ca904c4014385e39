use Rattle.std.proofs.Common.{◌≡◌, drop, sym, ap, ◌∙◌, arith, rules}
use Rattle.std.specs.Str.{chars}
use Rattle.std.proofs.lemmas.Str.{chars-nil}
use Rattle.plain_functions.proofs.Characters.{drop_more, drop_none}
use Rattle.plain_functions.proofs.texts.behind_first.Goals as goal

pub loop-preserved : goal.loop-preserved
loop-preserved c = record { is_text = search rules; passed = drop_more (chars c.args.text.now) _ _ c.loop.counter (sym c.in-Some.ensures.1 ∙ c.loop.invariant.passed) }

pub returns-in-None : goal.returns-in-None
returns-in-None c = chars-nil ∙ drop_none (chars c.args.text.now) c.loop.counter c.args.count (omega arith) (sym c.in-None.ensures ∙ c.loop.invariant.passed)

pub returns : goal.returns
returns c = c.loop.invariant.passed ∙ ap (λ n. drop n (chars c.args.text.now)) (omega arith)
