use Rattle.std.proofs.Common.{◌+◌, map, refl, ap, sym, ◌∙◌}
use Rattle.query_semantics.specs.Written.{renumbered}
use Rattle.esql_analyze.proofs.ExpandWrites.{expand_refused, expand_writes}
use Rattle.esql_analyze.proofs.expand.write_expand.Goals as goal

pub returns-in-None : goal.returns-in-None
returns-in-None c =
    let column = c.args.column.now in
    expand_refused column c.args.writing.visible (sym c.in-None.ensures)

pub returns : goal.returns
returns c =
    let column = c.args.column.now in
    let old = c.args.writing in
    expand_writes column old (record { visible = c.in_ok-visible.visible; next = old.next + 1; patterns = old.patterns; cutters = old.cutters; steps = c.push.new.self }) c.in-Some.id
    (sym c.in-Some.ensures)
    (c.in_ok-visible.ensures ∙ ap (λ name. map (renumbered name old.next) old.visible) c.as_str.ensures) refl refl refl c.in_ok-push.ensures.ok
