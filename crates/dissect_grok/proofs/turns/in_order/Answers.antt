use Rattle.std.proofs.Common.{rules, sym, ap, subst, ◌∙◌, List}
use Rattle.std.specs.List.Sorted.{IsPermutation}
use Rattle.std.proofs.lemmas.List.Sorted.{answers_always, ranks_by}
use Rattle.dissect_grok.specs.Numbered.{turn_order}
use Rattle.dissect_grok.specs.declared.turns.Turn.{Turn}
use Rattle.dissect_grok.proofs.Ordered.{sorted_turns, turns_total}
use Rattle.dissect_grok.proofs.turns.in_order.Goals as goal

pub returns : goal.returns
returns c =
    c.from_vec.ensures
    ∙ sorted_turns c.args.turns c.sort_unstable_by.new.self.items
    (subst (λ (turns : List Turn). IsPermutation turns c.sort_unstable_by.new.self.items) c.into_vec-turns.ensures c.sort_unstable_by.ensures.permutation)
    (c.sort_unstable_by.ensures.sorted _ (ranks_by turns_total (λ (turn : Turn). turn)) (answers_always _ _ _ (λ f a r g h. search rules)))
