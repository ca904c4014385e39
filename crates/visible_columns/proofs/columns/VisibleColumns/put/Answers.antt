use Rattle.std.proofs.Common.{List, ap, ◌∙◌}
use Rattle.std.specs.BTreeMap.{get_by_text}
use Rattle.esql_plan.specs.declared.plan.OutColumn.{OutColumn}
use Rattle.visible_columns.specs.Columns.{with_last}
use Rattle.visible_columns.proofs.Seen.{put_at}
use Rattle.visible_columns.proofs.columns.VisibleColumns.put.Goals as goal

pub returns : goal.returns
returns c =
    put_at (get_by_text c.self.inside.names) _ c.self.inside.slots _ c.args.column c.len.result c.as_str.result.now c.len.ensures c.as_str.ensures c.in_ok-put_name.ensures c.in_ok-push.ensures.ok
    ∙ ap (λ (columns : List OutColumn). with_last columns c.args.column) c.self.view_is
