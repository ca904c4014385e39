use Rattle.std.proofs.Common.{[], drop}
use Rattle.expression_analysis.specs.Answers.{IsUntouched}
use Rattle.stats_writing.specs.StatsSeen.{groups_seen}
use Rattle.plan_writing.specs.Writings.{seen}
use Rattle.stats_writing.proofs.Series.{SeriesAlong, groups_series}
use Rattle.stats_writing.proofs.stats_inputs.write_groups.Given as goal

abbrev pub invariant-loop-group : goal.invariant-loop-group
invariant-loop-group g l = record {
  along : SeriesAlong (groups_series l.initial.writing.visible) l.groups (seen l.initial.writing) [] (drop l.group-index l.groups) (seen l.writing) (groups_seen l.inputs);
  heard : IsUntouched g.M.Maker.refused g.M.Maker.last l.initial.maker l.maker;
}
