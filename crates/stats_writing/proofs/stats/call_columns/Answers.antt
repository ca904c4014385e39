use Rattle.std.proofs.Common.{◌+◌, List, ◌++◌, drop, ap, sym, append_assoc, ◌∙◌, arith}
use Rattle.std.proofs.lemmas.List.{append-nil, drop_all}
use Rattle.row_semantics.specs.declared.call.CallColumn.{CallColumn}
use Rattle.query_semantics.specs.Calls.{AggregateCall}
use Rattle.query_semantics.specs.WrittenStats.{call_columns}
use Rattle.stats_writing.specs.declared.calls.Call.{Call}
use Rattle.stats_writing.specs.CallsSeen.{seen_calls}
use Rattle.plan_writing.proofs.Turns.{dropped}
use Rattle.stats_writing.proofs.stats.call_columns.Goals as goal

pub loop-call-preserved : goal.loop-call-preserved
loop-call-preserved c =
    let calls = c.args.calls.now in
    let i = c.loop-call.call-index in
    let item = c.call-item.result in
    let next = c.loop-call.next in
    let columns = c.loop-call.columns in
    let rest = call_columns (next + 1) (seen_calls (drop (i + 1) calls)) in
    let cut = ap seen_calls (dropped i calls item c.loop-call-test.true c.call-item.is) in
    record {
      columns = ap (λ (these : List CallColumn). these ++ rest) c.in_ok-push.ensures.ok ∙ append_assoc columns _ rest
          ∙ sym (ap (λ (these : List AggregateCall). columns ++ call_columns next these) cut) ∙ c.loop-call.invariant.columns;
      number = omega (arith, c.loop-call.invariant.number);
    }

pub returns : goal.returns
returns c =
    let calls = c.args.calls.now in
    let columns = c.loop-call.columns in
    sym (append-nil columns)
    ∙ sym (ap (λ (rest : List Call). columns ++ call_columns c.loop-call.next (seen_calls rest)) (drop_all c.loop-call.call-index calls (omega (arith, c.loop-call-test.false)))) ∙ c.loop-call.invariant.columns
