use Rattle.std.proofs.Common.{◌≡◌, Some, List, ℕ, map, ap, ◌∙◌, subst}
use Rattle.dissect_grok.specs.Cuts.{cut_of}
use Rattle.dissect_grok.specs.Dissects.{reading_in}
use Rattle.dissect_grok.specs.Patterns.{Reading}
use Rattle.dissect_grok.proofs.Readings.{matched_by}
use Rattle.dissect_grok.proofs.dissect.Dissect.cut.Goals as goal

pub returns-in_ok-cut-in-Some-2 : goal.returns-in_ok-cut-in-Some-2
returns-in_ok-cut-in-Some-2 c =
    let inside = c.self.inside in
    let cut : List (List ℕ) = c.in_ok-cut-in-Some-2.cut in
    let whole = matched_by (λ texts. map (λ text. text.now) texts.items) c.in_ok-texts.field-0 c.in-Some-2.texts (reading_in inside) c.as_str.result.now c.args.text.now c.in-Some.rest.now
    c.as_str-separator.result.now c.as_slice.result.now (map (λ text. text.now) c.deref.result.now) inside.names cut inside.turns c.as_slice-in-Some-2.result.now
    c.as_str.ensures c.as_slice.ensures c.as_str-separator.ensures c.self.invariant.names_are c.self.invariant.turns_are c.as_slice-in-Some-2.ensures
    (ap (map (λ text. text.now)) c.deref.ensures.value) c.in-Some-2.is c.in-Some.ensures c.in_ok-texts.ensures c.in_ok-cut-in-Some-2.ensures in
    subst (λ (reading : Reading). Some cut ≡ cut_of reading c.args.text.now) c.self.view_is whole
