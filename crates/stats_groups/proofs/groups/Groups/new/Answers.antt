use Rattle.std.proofs.Common.{length, sym, ap, ◌∙◌}
use Rattle.stats_groups.specs.Maps.{groups_before, groups_of}
use Rattle.stats_groups.proofs.GroupSteps.{groups_first}
use Rattle.stats_groups.proofs.groups.Groups.new.Goals as goal

pub invariant_of-result : goal.invariant_of-result
invariant_of-result c = λ whole.
    c.in_ok-groups.ensures
    ∙ (λ i. groups_before (c.len.ensures i) (c.as_slice.ensures i))
    ∙ groups_first c.args.aggregates (length c.args.columns)
    ∙ ap (groups_of (length c.args.columns) c.args.aggregates) (sym c.new.ensures)
