use Rattle.std.proofs.Common.{◌≡◌, List, OnOk, sym, ap, subst, ◌∙◌}
use Rattle.std.specs.List.{list_all}
use Rattle.plan_semantics.specs.Groups.{Key}
use Rattle.stats_groups.specs.Entries.{cells_of, inputs_of}
use Rattle.stats_groups.specs.Maps.{Group, is_single, with_row_at}
use Rattle.stats_groups.proofs.DistinctKeys.{single_key}
use Rattle.stats_groups.proofs.map.add_row.Goals as goal

pub returns-then-is_single_key : goal.returns-then-is_single_key
returns-then-is_single_key c =
    let aggregates = c.args.aggregates.now in
    let inputs = inputs_of aggregates c.args.row in
    let groups = c.args.groups.now.entries in
    let one = single_key (cells_of c.args.columns.now c.args.row) (ap (λ cells. list_all is_single (cells_of c.args.columns.now cells)) (sym c.as_slice-cells.ensures) ∙ sym c.is_single_key.ensures ∙ c.if-is_single_key.true) in
    subst (λ (after : List Group). OnOk c.add_to_group_of_row.result (c.add_to_group_of_row.new.groups.entries ≡ after))
    (ap (λ (keys : List Key). with_row_at aggregates keys inputs groups) (sym one))
    c.add_to_group_of_row.ensures
