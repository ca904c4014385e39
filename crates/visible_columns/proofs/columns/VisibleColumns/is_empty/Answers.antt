use Rattle.std.proofs.Common.{ap, nat_eq, ◌∙◌}
use Rattle.visible_columns.specs.Columns.{is_empty}
use Rattle.visible_columns.proofs.Seen.{empty_by}
use Rattle.visible_columns.proofs.columns.VisibleColumns.is_empty.Goals as goal

pub returns : goal.returns
returns c = ap (λ (count : _). nat_eq count 0) c.len.ensures.len ∙ empty_by c.self.inside.names c.self.inside.slots c.self.invariant ∙ ap is_empty c.self.view_is
