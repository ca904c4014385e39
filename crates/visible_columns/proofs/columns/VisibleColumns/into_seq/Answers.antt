use Rattle.std.proofs.Common.{length, ap, arith}
use Rattle.std.specs.BTreeMap.{get_by_text}
use Rattle.std.specs.Vec.Iter.{into_iter_items}
use Rattle.visible_columns.proofs.Seen.{seen_turn}
use Rattle.visible_columns.proofs.columns.VisibleColumns.into_seq.Goals as goal

pub loop-column-preserved : goal.loop-column-preserved
loop-column-preserved c = record {
  seen = seen_turn (get_by_text c.self.inside.names) c.loop-column.slot c.loop-column.columns _ (into_iter_items c.loop-column.column-iterator) (into_iter_items c.next.new.self) c.args.self
      c.in-Some.column c.as_str.result.now _ c.in-Some.ensures.steps.0 c.as_str.ensures c.get-known.ensures.value c.loop-column.invariant.seen c.in_ok-push_seen.ensures;
  short = omega (arith, c.loop-column.invariant.short, ap length c.in-Some.ensures.steps.0);
}
