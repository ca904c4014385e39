use Rattle.std.proofs.Common.{List, Some, sym, ap, ◌∙◌}
use Rattle.std.specs.BTreeMap.{get_by_text}
use Rattle.std.specs.Option.{option_map}
use Rattle.esql_plan.specs.declared.plan.OutColumn.{OutColumn}
use Rattle.row_semantics.specs.Typed.{visible_named}
use Rattle.visible_columns.specs.Columns.{shown_of}
use Rattle.visible_columns.proofs.Seen.{found, never_gone, none_named}
use Rattle.visible_columns.proofs.columns.VisibleColumns.named.Goals as goal

pub returns-in-Some-at : goal.returns-in-Some-at
returns-in-Some-at c =
    let here = found (get_by_text c.self.inside.names) c.self.inside.slots c.args.name.now c.in-Some.known.now c.in-Some-at.column.now c.self.invariant (sym c.in-Some.ensures.value) (sym c.in-Some-at.ensures.value) in
    ap Some c.shown_by.ensures
    ∙ sym (ap (λ (columns : List OutColumn). option_map shown_of (visible_named columns c.args.name.now)) (sym c.self.view_is) ∙ ap (option_map shown_of) here)

pub returns-in-None-at : goal.returns-in-None-at
returns-in-None-at c =
    absurd (never_gone (get_by_text c.self.inside.names) c.self.inside.slots c.args.name.now c.in-Some.known.now c.self.invariant (sym c.in-Some.ensures.value) (sym c.in-None-at.ensures.value))

pub returns-in-None : goal.returns-in-None
returns-in-None c =
    sym (ap (λ (columns : List OutColumn). option_map shown_of (visible_named columns c.args.name.now)) (sym c.self.view_is)
    ∙ ap (option_map shown_of) (none_named (get_by_text c.self.inside.names) 0 c.self.inside.slots c.args.name.now (sym c.in-None.ensures.value)))
