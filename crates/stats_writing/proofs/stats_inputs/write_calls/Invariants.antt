use Rattle.std.proofs.Common.{drop}
use Rattle.expression_analysis.specs.Answers.{IsUntouched}
use Rattle.stats_writing.specs.CallsSeen.{seen_calls}
use Rattle.stats_writing.specs.StatsSeen.{flag_seen, calls_seen}
use Rattle.plan_writing.specs.Writings.{seen}
use Rattle.stats_writing.proofs.Series.{SeriesAlong, calls_series}
use Rattle.stats_writing.proofs.stats_inputs.write_calls.Given as goal

abbrev pub invariant-loop-call : goal.invariant-loop-call
invariant-loop-call g l = record {
  along : SeriesAlong (calls_series (flag_seen l.flag) l.fn.made.writing.visible) (seen_calls l.calls) (seen l.fn.made.writing) (calls_seen l.fn.made.calls)
      (seen_calls (drop l.call-index l.calls)) (seen l.writing) (calls_seen l.inputs);
  heard : IsUntouched g.M.Maker.refused g.M.Maker.last l.initial.maker l.maker;
}
