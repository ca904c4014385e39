use Rattle.std.proofs.Common.{rules, Some, sym, ap, ◌∙◌}
use Rattle.std.specs.Option.{option_copied}
use Rattle.dissect_grok.specs.Parts.{part_in}
use Rattle.dissect_grok.specs.Patterns.{keys_of}
use Rattle.dissect_grok.proofs.KeyRuns.{behind_keys, last_key, next_key, rest_shorter}
use Rattle.dissect_grok.proofs.keys.keys_of.Goals as goal

pub loop-part-smaller : goal.loop-part-smaller
loop-part-smaller c =
    rest_shorter c.loop-part.behind.now (part_in c.in-Some.part) c.in-Some-rest.rest.now c.in-Some.ensures (ap option_copied c.in-Some-rest.is)

pub loop-part-preserved : goal.loop-part-preserved
loop-part-preserved c = (
  search rules,
  next_key c.loop-part.behind.now c.in-Some-rest.rest.now (keys_of c.args.text.now) c.loop-part.keys (part_in c.in-Some.part) c.in_ok-key_of.field-0
      c.in-Some.ensures (ap option_copied c.in-Some-rest.is) c.loop-part.invariant.1 c.in_ok-key_of.ensures
      ∙ ap (λ keys. behind_keys keys (keys_of c.in-Some-rest.rest.now)) (sym c.in_ok-push.ensures.ok),
)

pub returns-in-None : goal.returns-in-None
returns-in-None c =
    last_key c.loop-part.behind.now (keys_of c.args.text.now) c.loop-part.keys (part_in c.in-Some.part) c.in_ok-key_of.field-0
    c.in-Some.ensures (ap option_copied c.in-None.is) c.loop-part.invariant.1 c.in_ok-key_of.ensures
    ∙ ap Some (sym c.in_ok-push.ensures.ok)
