use Rattle.std.proofs.Common.{◌≡◌, ◌+◌, ◌++◌, length}
use Rattle.std.specs.Vec.Iter.{into_iter_items}
use Rattle.query_semantics.specs.WrittenStats.{aggregates_from}
use Rattle.stats_writing.specs.StatsSeen.{calls_seen}
use Rattle.stats_writing.proofs.stats.aggregates_from.Given as goal

abbrev pub invariant-loop-call : goal.invariant-loop-call
invariant-loop-call l = record {
  aggregates : l.aggregates ++ aggregates_from l.next (calls_seen (into_iter_items l.call-iterator)) ≡ aggregates_from l.number (calls_seen l.fn.calls);
  number : l.next + length (into_iter_items l.call-iterator) ≡ l.number + length l.fn.calls;
}
