use Rattle.std.proofs.Common.{ap, ◌∙◌}
use Rattle.function_rules.specs.Found.{replaced}
use Rattle.function_rules.specs.Texts.{joined}
use Rattle.function_rules.proofs.Readings.{unmatched_by, joined_by}
use Rattle.text_match.proofs.regexes.FreeRegex.replace.Goals as goal

pub returns : goal.returns
returns c =
    let text = c.args.text.now in
    let with = c.args.with.now in
    c.from_string.ensures
    ∙ c.in_ok-made.ensures.written.literal with c.in_ok-template.ensures
    ∙ joined_by with text 0 _
    ∙ rw c.in_ok-matcher.ensures.pattern
    (ap (joined with) (unmatched_by c.self.inside.regex c.self.invariant.options c.self.invariant.meant text (λ k. (c.type_inv.text k).fits)))
    ∙ ap (λ pattern. replaced pattern text with) c.self.view_is
