use Rattle.std.proofs.Common.{[], drop}
use Rattle.expression_analysis.specs.Answers.{IsUntouched}
use Rattle.stats_writing.specs.StatsSeen.{calls_seen}
use Rattle.plan_writing.specs.Writings.{seen}
use Rattle.stats_writing.proofs.Series.{SeriesAlong, fields_series}
use Rattle.stats_writing.proofs.stats_inputs.write_all_before.Given as goal

abbrev pub invariant-loop-stats : goal.invariant-loop-stats
invariant-loop-stats g l = record {
  along : SeriesAlong (fields_series l.fn.writing.visible) l.fields (seen l.fn.writing) [] (drop l.stats-index l.fields) (seen l.made.writing) (calls_seen l.made.calls);
  heard : IsUntouched g.M.Maker.refused g.M.Maker.last l.initial.maker l.maker;
}
