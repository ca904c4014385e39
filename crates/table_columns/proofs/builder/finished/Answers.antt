use Rattle.std.proofs.lemmas.List.Elements.{All-rest}
use Rattle.std.specs.Vec.Iter.{into_iter_items}
use Rattle.table_columns.specs.Held.{IsClosed, all_grown}
use Rattle.table_columns.proofs.Kept.{kept_more}
use Rattle.table_columns.proofs.builder.finished.Goals as goal

pub loop-column-preserved : goal.loop-column-preserved
loop-column-preserved c =
    let before = into_iter_items c.loop-column.column-iterator in
    let after = into_iter_items c.next.new.self in
    record {
      closed = All-rest IsClosed c.in-Some.column after before c.in-Some.ensures.steps.0 c.loop-column.invariant.closed;
      kept = kept_more c.loop-column.kept.items c.push.new.self.items c.in_ok-finish.field-0 c.in-Some.column before after (all_grown c.args.columns.items)
          c.in_ok-push.ensures.items c.in_ok-finish.ensures c.in-Some.ensures.steps.0 c.loop-column.invariant.kept;
    }
