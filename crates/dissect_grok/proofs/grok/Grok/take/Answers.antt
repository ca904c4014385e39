use Rattle.std.proofs.Common.{◌≡◌, ℕ, List, Some, None, ap, ◌∙◌, map}
use Rattle.std.specs.List.{filter_map}
use Rattle.regex.specs.Strings.{captures_haystack, captures_span}
use Rattle.dissect_grok.specs.GrokParts.{group_text}
use Rattle.dissect_grok.specs.Groks.{GrokRead, grok_takes}
use Rattle.dissect_grok.proofs.Takes.{none_taken, some_taken}
use Rattle.dissect_grok.proofs.grok.Grok.take.Goals as goal

pub returns-in-Some : goal.returns-in-Some
returns-in-Some c =
    let captures = c.in-Some.captures in
    some_taken c.self.inside.regex c.self.invariant.reading c.args.text.now (λ k. (c.type_inv.text k).fits) c.self.inside.places c.self.inside.columns c.self.inside.groups c.in_ok-lists-in-Some.lists captures
    (rw c.in_ok-matcher.ensures.pattern at c.in-Some.ensures.found) c.self.invariant.columns_are c.self.invariant.groups_are
    (c.in_ok-lists-in-Some.ensures ∙ ap (map (filter_map (group_text (captures_haystack captures) (captures_span captures)))) c.as_slice.ensures)
    ∙ ap (λ (read : GrokRead). grok_takes read c.args.text.now) c.self.view_is

pub returns : goal.returns
returns c =
    none_taken c.self.inside.regex c.self.invariant.reading c.args.text.now (λ k. (c.type_inv.text k).fits) c.self.inside.places (rw c.in_ok-matcher.ensures.pattern at c.in-None.ensures.found)
    ∙ ap (λ (read : GrokRead). grok_takes read c.args.text.now) c.self.view_is
