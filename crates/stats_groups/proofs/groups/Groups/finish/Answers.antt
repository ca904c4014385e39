use Rattle.std.proofs.Common.{◌≡◌, [], List, Some, map, ap, ◌∙◌}
use Rattle.esql_types.specs.declared.names.ColId.{ColId}
use Rattle.plan_semantics.specs.Stats.{stats_columns}
use Rattle.stats_groups.specs.Cells.{put_cells}
use Rattle.stats_groups.specs.Maps.{Group, row_of_group}
use Rattle.stats_groups.proofs.Seen.{seen_rows, seen_failures}
use Rattle.stats_groups.proofs.groups.Groups.finish.Goals as goal

pub returns-clause-rows : goal.returns-clause-rows
returns-clause-rows c =
    let made : c.as_slice-3.result.now ≡ stats_columns c.self.inside.aggregates c.self.inside.columns =
    c.as_slice-3.ensures ∙ c.in_ok-made.ensures ∙ (λ i. stats_columns (c.as_slice.ensures i) (c.as_slice-2.ensures i)) in
    ap Some (c.in_ok-rows.ensures.rows
    ∙ ap (λ (made : List ColId). map (λ (group : Group). put_cells [] made (row_of_group group)) c.self.inside.groups.entries) made)
    ∙ seen_rows c.self.inside _ c.self.view_is c.if-is_broken.false c.self.invariant

pub returns-clause-failures : goal.returns-clause-failures
returns-clause-failures c =
    ap Some c.in_ok-rows.ensures.failures ∙ seen_failures c.self.inside _ c.self.view_is c.if-is_broken.false c.self.invariant c.args.failures.now
