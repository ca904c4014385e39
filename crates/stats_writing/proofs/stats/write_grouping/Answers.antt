use Rattle.std.proofs.Common.{◌≡◌, ◌+◌, [], ◌∷◌, ◌++◌, length, sym, ◌∙◌}
use Rattle.std.proofs.lemmas.List.{length-map}
use Rattle.esql_plan.specs.declared.step.Step.TheVariants as step
use Rattle.query_semantics.specs.WrittenStats.{groups_from}
use Rattle.stats_writing.specs.StatsSeen.{call_in, calls_seen, group_in, groups_seen}
use Rattle.stats_writing.proofs.stats.write_grouping.Goals as goal

pub returns-clause-written : goal.returns-clause-written
returns-clause-written c =
    let calls = c.args.calls in
    let old = c.args.made.writing in
    let groups = c.args.made.groups in
    let count : c.len-count.result ≡ length (calls_seen calls) = c.len-count.ensures ∙ sym (length-map calls call_in) in
    let width : c.len-width.result ≡ length (groups_seen groups) = c.len-width.ensures ∙ sym (length-map groups group_in) in
    let columns = c.in_ok-columns.ensures ∙ (λ i. groups_from (old.next + count i) (groups_seen (c.as_slice.ensures i))) in
    let steps = c.in_ok-push.ensures.ok ∙ (λ i. old.steps ++ step.Stats (c.in_ok-aggregates.ensures i) (columns i) ∷ []) in
    λ i. record { visible = c.new.ensures i; next = old.next + (count i + width i); whole = old.patterns.whole; free = old.patterns.free; cutters = old.cutters; steps = steps i }
