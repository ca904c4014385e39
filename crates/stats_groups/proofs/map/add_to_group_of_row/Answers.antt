use Rattle.std.proofs.Common.{◌≡◌, List, sym, ap, ◌∙◌}
use Rattle.indexmap.specs.IndexMap.{insert_entry}
use Rattle.indexmap.proofs.MapLemmas.{insert_entry-first, Found-position}
use Rattle.plan_semantics.specs.Groups.{Key, same_key}
use Rattle.stats_groups.specs.declared.state.Running.{Running}
use Rattle.stats_groups.specs.Entries.{cells_of, inputs_of}
use Rattle.stats_groups.specs.Maps.{with_row}
use Rattle.stats_groups.specs.States.{running_after}
use Rattle.stats_groups.proofs.MapSteps.{row_absent, row_present}
use Rattle.stats_groups.proofs.map.add_to_group_of_row.Goals as goal

pub returns-in_ok-add-in-Some : goal.returns-in_ok-add-in-Some
returns-in_ok-add-in-Some c =
    let aggregates = c.args.aggregates.now in
    let groups = c.args.groups.now.entries in
    let cells = c.as_slice-cells.result.now in
    let key = cells_of c.args.columns.now cells in
    sym (insert_entry-first same_key key c.add.new.self groups c.in-Some.place (Found-position (same_key key) groups c.in-Some.place (sym c.in-Some.ensures.index)).first)
    ∙ row_present aggregates key (inputs_of aggregates cells) c.add.new.self groups c.index_mut.result.now
    (sym c.in-Some.ensures.value ∙ c.index_mut.ensures.value) c.in_ok-add-in-Some.ensures
    ∙ (λ i. with_row aggregates (cells_of c.args.columns.now (c.as_slice-cells.ensures i)) (inputs_of aggregates (c.as_slice-cells.ensures i)) groups)

pub returns-in_ok-insert-in-None : goal.returns-in_ok-insert-in-None
returns-in_ok-insert-in-None c =
    let aggregates = c.args.aggregates.now in
    let groups = c.args.groups.now.entries in
    let cells = c.as_slice-cells.result.now in
    let inputs = inputs_of aggregates cells in
    let key = cells_of c.args.columns.now cells in
    let held : cells ≡ c.args.row = c.as_slice-cells.ensures in
    c.in_ok-insert-in-None.ensures.entries
    ∙ ap (λ (one : Key). insert_entry same_key groups one c.add-in-None.new.self) (c.in_ok-key_of_row-in-None.ensures ∙ ap (cells_of c.args.columns.now) (sym held))
    ∙ row_absent aggregates key inputs c.add-in-None.new.self groups (sym c.in-None.ensures.found)
    (c.in_ok-add-in-None.ensures ∙ ap (λ (running : List Running). running_after 0 running inputs) c.in_ok-states-in-None.ensures)
    ∙ (λ i. with_row aggregates (cells_of c.args.columns.now (held i)) (inputs_of aggregates (held i)) groups)
