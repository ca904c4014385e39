use Rattle.std.proofs.Common.{[], ◌∷◌, ◌++◌, ◌∙◌, ap, map}
use Rattle.std.specs.Vec.Iter.{into_iter_items}
use Rattle.enrich_match.specs.Matches.{matched_cell}
use Rattle.plan_rows.specs.Kept.{kept_new, kept_enriched}
use Rattle.plan_rows.proofs.ListTurns.{gives_turn}
use Rattle.plan_rows.proofs.enrich.enrich_rows.Goals as goal

pub loop-row-preserved : goal.loop-row-preserved
loop-row-preserved c =
    let items = into_iter_items c.loop-row.row-iterator in
    let rest = into_iter_items c.next.new.self in
    let next = c.in-Some.ensures.steps.0 in
    gives_turn (kept_enriched (λ cell. map (matched_cell c.args.lookup.now.rows cell) c.args.fields.now) c.args.on c.args.to.now) c.loop-row.new c.push.new.self c.in-Some.row rest items c.args.rows
    c.loop-row.invariant next
    (c.in_ok-push.ensures.ok ∙ ap (λ row. c.loop-row.new ++ row ∷ []) (c.in_ok-put_new.ensures ∙ ap (kept_new c.in-Some.row c.args.to.now) c.in_ok-cells.ensures))
