use Rattle.std.proofs.Common.{map, sym, ap, ◌∙◌}
use Rattle.std.specs.BTreeMap.{get_by_text}
use Rattle.visible_columns.specs.Columns.{renumbered}
use Rattle.visible_columns.proofs.Seen.{renumbers, renumbers_none, renumber_stands}
use Rattle.visible_columns.proofs.columns.VisibleColumns.renumber.Goals as goal

pub returns-in-None : goal.returns-in-None
returns-in-None c =
    renumbers_none (get_by_text c.self.inside.names) c.args.name.now c.args.number 0 c.self.inside.slots (sym c.in-None.ensures.value)
    ∙ ap (map (renumbered c.args.name.now c.args.number)) c.self.view_is

pub invariant_of-result-2 : goal.invariant_of-result-2
invariant_of-result-2 c =
    renumber_stands (get_by_text c.self.inside.names) _ c.args.name.now c.args.number c.in-Some.known.now c.self.inside.slots (sym c.in-Some.ensures.value) c.in_ok-put_name.ensures c.self.invariant

pub returns : goal.returns
returns c =
    renumbers (get_by_text c.self.inside.names) _ c.args.name.now c.args.number c.in-Some.known.now 0 c.self.inside.slots (sym c.in-Some.ensures.value) c.in_ok-put_name.ensures
    ∙ ap (map (renumbered c.args.name.now c.args.number)) c.self.view_is
