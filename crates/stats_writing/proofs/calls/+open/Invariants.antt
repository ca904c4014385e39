use Rattle.std.proofs.Common.{◌≡◌, ◌++◌, map, take}
use Rattle.query_semantics.specs.Calls.{opened, calls_in, columns_in}
use Rattle.stats_writing.specs.CallsSeen.{seen_calls}
use Rattle.stats_writing.proofs.calls.+open.Given as goal

abbrev pub invariant-open_all-loop-expr : goal.invariant-open_all-loop-expr
invariant-open_all-loop-expr l = record {
  calls : seen_calls l.found.calls.items ≡ seen_calls l.initial.found.calls.items ++ calls_in (map opened (take l.expr-index l.exprs));
  columns : l.found.columns.items ≡ l.initial.found.columns.items ++ columns_in (map opened (take l.expr-index l.exprs));
}
