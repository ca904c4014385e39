use Rattle.std.proofs.Common.{arith, ◌∙◌}
use Rattle.esql_io.proofs.Pieces.{took_more}
use Rattle.esql_io.proofs.sink.write_whole.Goals as goal

pub loop-written-preserved : goal.loop-written-preserved
loop-written-preserved g c = record {
  within = omega (arith, c.in-Ok.ensures.count, c.split_at.ensures.back_len);
  took = took_more _ _ _ c.args.bytes.now _ c.loop-written.written c.in-Ok.count c.split_at.ensures.back c.loop-written.invariant.took c.in-Ok.ensures.took;
  faults = c.in-Ok.ensures.uncounted ∙ c.loop-written.invariant.faults;
}
