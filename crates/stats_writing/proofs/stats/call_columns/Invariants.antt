use Rattle.std.proofs.Common.{◌≡◌, ◌+◌, ◌++◌, drop}
use Rattle.query_semantics.specs.WrittenStats.{call_columns}
use Rattle.stats_writing.specs.CallsSeen.{seen_calls}
use Rattle.stats_writing.proofs.stats.call_columns.Given as goal

abbrev pub invariant-loop-call : goal.invariant-loop-call
invariant-loop-call l = record {
  columns : l.columns ++ call_columns l.next (seen_calls (drop l.call-index l.calls)) ≡ call_columns l.number (seen_calls l.calls);
  number : l.next ≡ l.number + l.call-index;
}
