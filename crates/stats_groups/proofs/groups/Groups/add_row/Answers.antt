use Rattle.std.proofs.Common.{◌∙◌}
use Rattle.plan_semantics.specs.Groups.{keys_of_cells}
use Rattle.stats_groups.specs.Entries.{cells_of, inputs_of}
use Rattle.stats_groups.specs.Maps.{with_row_at}
use Rattle.stats_groups.proofs.Seen.{held_more}
use Rattle.stats_groups.proofs.groups.Groups.add_row.Goals as goal

pub invariant_of-self : goal.invariant_of-self
invariant_of-self c = λ whole.
    held_more c.self.inside _ c.self.view_is whole c.self.invariant c.args.row c.add_row-added.new.groups.entries c.then-entries.result.list
    (c.in-Ok.ensures
    ∙ (λ i. with_row_at (c.as_slice.ensures i) (keys_of_cells (cells_of (c.as_slice-2.ensures i) c.args.row)) (inputs_of (c.as_slice.ensures i) c.args.row) c.self.inside.groups.entries))
    c.then-entries.ensures
