use Rattle.std.proofs.Common.{◌≡◌, ◌++◌, ◌∷◌, [], ℕ, List, ap, sym, subst, ◌∙◌, Bool, not, true, false, is_some}
use Rattle.std.specs.List.{list_any}
use Rattle.std.specs.Str.{bytes_eq}
use Rattle.dissect_grok.specs.Numbered.{IsIndex, number_at, number_or}
use Rattle.dissect_grok.proofs.Named.{index_more, is_among, not_false, not_true}
use Rattle.dissect_grok.proofs.NamesOf.{name_new, name_old}
use Rattle.dissect_grok.proofs.names.add_name_of.Goals as goal

pub returns-in_ok-push-clause-names : goal.returns-in_ok-push-clause-names
returns-in_ok-push-clause-names c =
    let absent = not_true _ (sym c.in_ok-add_name.ensures.new ∙ c.if-branch.true) in
    name_new c.args.names.now c.push.new.self _ c.in-Some.name.now c.in_ok-from_str.field-0 c.in-Some.ensures
    (sym (is_among c.args.names.now c.args.index.now c.in-Some.name.now c.requires.index) ∙ absent) c.in_ok-push.ensures.ok c.in_ok-from_str.ensures

pub returns-in_ok-push-clause-index : goal.returns-in_ok-push-clause-index
returns-in_ok-push-clause-index c =
    let absent = not_true _ (sym c.in_ok-add_name.ensures.new ∙ c.if-branch.true) in
    let more : c.args.names.now ++ c.in-Some.name.now ∷ [] ≡ c.push.new.self =
    ap (λ (last : List ℕ). c.args.names.now ++ last ∷ []) (sym c.in_ok-from_str.ensures) ∙ sym c.in_ok-push.ensures.ok in
    subst (λ (names : List (List ℕ)). IsIndex names c.add_name.new.index) more
    (index_more c.args.names.now c.args.index.now c.add_name.new.index c.in-Some.name.now c.requires.index absent
    (λ other. c.in_ok-add_name.ensures.numbers other ∙ ap (λ (n : ℕ). number_or (number_at c.args.index.now other) c.in-Some.name.now n other) c.len.ensures))

pub returns-else-branch-clause-names : goal.returns-else-branch-clause-names
returns-else-branch-clause-names c =
    let present = not_false _ (sym c.in_ok-add_name.ensures.new ∙ c.if-branch.false) in
    name_old c.args.names.now _ c.in-Some.name.now c.in-Some.ensures (sym (is_among c.args.names.now c.args.index.now c.in-Some.name.now c.requires.index) ∙ present)
