use Rattle.std.proofs.Common.{List, sym, ap, ◌∙◌}
use Rattle.indexmap.proofs.MapLemmas.{insert_entry-first, Found-position}
use Rattle.plan_semantics.specs.Groups.{same_key}
use Rattle.stats_groups.specs.declared.state.Running.{Running}
use Rattle.stats_groups.specs.Entries.{inputs_of}
use Rattle.stats_groups.specs.States.{running_after}
use Rattle.stats_groups.proofs.MapSteps.{row_absent, row_present}
use Rattle.stats_groups.proofs.map.add_to_group.Goals as goal

pub returns-in_ok-add-in-Some : goal.returns-in_ok-add-in-Some
returns-in_ok-add-in-Some c =
    let groups = c.args.groups.now.entries in
    sym (insert_entry-first same_key c.args.key c.add.new.self groups c.in-Some.place (Found-position (same_key c.args.key) groups c.in-Some.place (sym c.in-Some.ensures.index)).first)
    ∙ row_present c.args.aggregates.now c.args.key (inputs_of c.args.aggregates.now c.args.row.now) c.add.new.self groups c.index_mut.result.now
    (sym c.in-Some.ensures.value ∙ c.index_mut.ensures.value) c.in_ok-add-in-Some.ensures

pub returns-in_ok-insert-in-None : goal.returns-in_ok-insert-in-None
returns-in_ok-insert-in-None c =
    c.in_ok-insert-in-None.ensures.entries
    ∙ row_absent c.args.aggregates.now c.args.key (inputs_of c.args.aggregates.now c.args.row.now) c.add-in-None.new.self c.args.groups.now.entries (sym c.in-None.ensures.found)
    (c.in_ok-add-in-None.ensures ∙ ap (λ (running : List Running). running_after 0 running (inputs_of c.args.aggregates.now c.args.row.now)) c.in_ok-states-in-None.ensures)
