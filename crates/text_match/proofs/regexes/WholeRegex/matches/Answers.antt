use Rattle.std.proofs.Common.{ap, ◌∙◌}
use Rattle.function_rules.specs.Found.{is_found}
use Rattle.function_rules.proofs.Readings.{found_by}
use Rattle.text_match.proofs.regexes.WholeRegex.matches.Goals as goal

pub returns : goal.returns
returns c =
    rw (c.is_match.ensures.found, c.in_ok-matcher.ensures.pattern)
    (found_by c.self.inside.regex c.self.invariant.options c.self.invariant.meant c.args.text.now (λ k. (c.type_inv.text k).fits)
    ∙ ap (λ pattern. is_found pattern c.args.text.now) c.self.view_is)
